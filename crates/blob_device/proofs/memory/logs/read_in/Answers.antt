use Rattle.std.proofs.Common.{Some, ap, rules}
use Rattle.blob_device.specs.Tracks.{track_at}
use Rattle.blob_device.proofs.Maps.{map_other}
use Rattle.blob_device.proofs.memory.logs.read_in.Goals as goal

pub returns-clause-others : goal.returns-clause-others
returns-clause-others c q other =
    let updates = (c.get_mut.follows.holds c.read.new.self).3 (search rules) in
    ap track_at (map_other c.args.name.now c.args.names.now (c.get_mut.follows.lender c.read.new.self) (Some c.read.new.self) updates q other)
