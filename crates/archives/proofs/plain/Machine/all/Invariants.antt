use Rattle.std.proofs.Common.{◌≡◌, take}
use Rattle.archives.proofs.machine.Entries.{values_at}
use Rattle.archives.proofs.plain.Machine.all.Given as goal

-- the values of the records so far that have the index
abbrev pub invariant-loop-item : goal.invariant-loop-item
invariant-loop-item g l = l.values.items ≡ values_at l.index (take l.item-index l.item-items)
