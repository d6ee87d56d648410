use Rattle.std.proofs.Common.{Some, rules}
use Rattle.blob_device.proofs.Maps.{map_other}
use Rattle.blob_device.proofs.table.replace_name.Goals as goal

pub returns-in-Some-clause-others : goal.returns-in-Some-clause-others
returns-in-Some-clause-others g c q other =
    let updates = (c.get_mut.follows.holds c.args.value).3 (search rules) in
    map_other c.args.name.now c.args.names.now (c.get_mut.follows.lender c.args.value) (Some c.args.value) updates q other
