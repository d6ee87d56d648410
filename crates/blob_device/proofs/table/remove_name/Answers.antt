use Rattle.std.proofs.Common.{None}
use Rattle.blob_device.proofs.Maps.{map_other}
use Rattle.blob_device.proofs.table.remove_name.Goals as goal

pub returns-clause-others : goal.returns-clause-others
returns-clause-others g c q other = map_other c.args.name.now c.args.names.now c.remove.new.self None c.remove.ensures.updates q other
