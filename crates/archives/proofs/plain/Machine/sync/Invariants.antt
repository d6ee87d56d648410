use Rattle.std.proofs.Common.{◌≡◌, ◌++◌, map, take, drop}
use Rattle.archives.proofs.machine.Lemmas.{as_synced}
use Rattle.archives.proofs.plain.Machine.sync.Given as goal

-- the records up to here are synced
abbrev pub invariant-loop-item : goal.invariant-loop-item
invariant-loop-item g l = l.item-items ≡ map as_synced (take l.item-index l.initial.item-items) ++ drop l.item-index l.initial.item-items
