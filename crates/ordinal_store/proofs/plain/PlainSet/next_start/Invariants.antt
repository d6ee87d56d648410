use Rattle.std.proofs.Common.{take}
use Rattle.ordinal_store.specs.Plain.{listed, IsNextAmong}
use Rattle.ordinal_store.proofs.plain.PlainSet.next_start.Given as goal

abbrev pub invariant-loop-start : goal.invariant-loop-start
invariant-loop-start l = IsNextAmong (listed l.self.numbers.items) l.number (take l.start-index l.start-items) l.next
