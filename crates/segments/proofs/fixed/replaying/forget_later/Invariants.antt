use Rattle.std.proofs.Common.{◌≡◌, ℕ, ◌≤◌}
use Rattle.std.specs.Ordering.{nat_cmp}
use Rattle.std.specs.BTreeSet.{contains, btree_set_len}
use Rattle.segments.proofs.fixed.replaying.forget_later.Given as goal

abbrev pub invariant-loop-last : goal.invariant-loop-last
invariant-loop-last l = (s : ℕ) → s ≤ l.section → contains nat_cmp l.numbers s ≡ contains nat_cmp l.fn.numbers s

abbrev pub decreases-loop-last : goal.decreases-loop-last
decreases-loop-last l = btree_set_len l.numbers
