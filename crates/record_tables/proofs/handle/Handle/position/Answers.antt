use Rattle.std.proofs.Common.{refl}
use Rattle.record_tables.specs.Handles.{position_of}
use Rattle.record_tables.proofs.handle.Handle.position.Goals as goal

pub returns : goal.returns
unfolding position_of
returns c = refl
