use Rattle.std.proofs.Common.{◌≡◌, ◌≤◌, ◌<◌, ◌+◌, ◌-◌, ◌^◌, ◌++◌, vec_len}
use Rattle.archive_program.proofs.input.read_input.Given as goal

abbrev pub invariant-pieces : goal.invariant-pieces
invariant-pieces g l = record {
  room : 0 < vec_len l.piece;
  faults : g.S.Source.faults l.initial.input ≤ g.S.Source.faults l.input;
  bound : vec_len l.bytes ≤ 2 ^ 24 + 1;
  told : g.S.Source.Tells → g.S.Source.left l.initial.input ≡ l.bytes.items ++ g.S.Source.left l.input;
}

abbrev pub decreases-pieces : goal.decreases-pieces
decreases-pieces g l = 2 ^ 24 + 1 - vec_len l.bytes
