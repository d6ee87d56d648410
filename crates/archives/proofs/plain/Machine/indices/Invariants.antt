use Rattle.std.proofs.Common.{take}
use Rattle.ordinal_store.specs.Plain.{listed}
use Rattle.archives.proofs.machine.Indices.{AreOf}
use Rattle.archives.proofs.plain.Machine.indices.Given as goal

-- the numbers of the set are the indices of the records so far
abbrev pub invariant-loop-item : goal.invariant-loop-item
invariant-loop-item g l = AreOf (listed l.set.numbers.items) (take l.item-index l.item-items)
