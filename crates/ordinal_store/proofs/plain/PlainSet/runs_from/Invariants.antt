use Rattle.std.proofs.Common.{◌+◌, ◌-◌, ◌^◌}
use Rattle.ordinal_store.specs.Plain.{listed, IsWalked}
use Rattle.ordinal_store.proofs.plain.PlainSet.runs_from.Given as goal

abbrev pub invariant-loop-start : goal.invariant-loop-start
invariant-loop-start l = IsWalked (listed l.self.numbers.items) l.from (l.at + 1) l.runs.items

abbrev pub decreases-loop-start : goal.decreases-loop-start
decreases-loop-start l = 2 ^ 64 - l.at
