use Rattle.std.proofs.Common.{refl}
use Rattle.record_tables.specs.Handles.{slot_of}
use Rattle.record_tables.proofs.handle.Handle.slot.Goals as goal

pub returns : goal.returns
unfolding slot_of
returns c = refl
