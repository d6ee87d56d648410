use Rattle.std.proofs.Common.{ℕ, ◌<◌, get_or}
use Rattle.segments.proofs.fixed.Journal.check_positions.Given as goal

abbrev pub invariant-loop-position : goal.invariant-loop-position
invariant-loop-position g l = (k : ℕ) → k < l.position-index → get_or l.positions k 0 < l.count
