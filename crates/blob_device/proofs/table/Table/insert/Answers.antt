use Rattle.std.proofs.Common.{◌≡◌, Some, rules, sym, ◌∙◌, ap}
use Rattle.blob_device.specs.Disk.{put}
use Rattle.blob_device.specs.Tables.{at_name}
use Rattle.blob_device.proofs.Maps.{table_put, table_same}
use Rattle.blob_device.proofs.table.Table.insert.Goals as goal
use Rattle.blob_device.proofs.general.Results.{on_err, on_ok_two}

pub returns-clause-ok : goal.returns-clause-ok
returns-clause-ok g c =
    let room = c.make_partition.new.partitions in
    let updates = (c.get_mut.follows.holds c.insert_name.new.names).3 (search rules) in
    let was : at_name room c.args.partition.now ≡ Some c.in-Some.names.now = sym c.in-Some.ensures.value in
    on_ok_two c.insert_name.result (λ here others. table_put (λ o. o) c.args.partition.now c.args.name.now room (c.get_mut.follows.lender c.insert_name.new.names) c.in-Some.names.now c.insert_name.new.names updates was (Some c.args.value) here others
    ∙ ap (λ f. put f (c.args.partition.now, c.args.name.now) (Some c.args.value)) c.make_partition.ensures.same) c.insert_name.ensures.here c.insert_name.ensures.others

pub returns-clause-err : goal.returns-clause-err
returns-clause-err g c =
    let room = c.make_partition.new.partitions in
    let updates = (c.get_mut.follows.holds c.insert_name.new.names).3 (search rules) in
    let was : at_name room c.args.partition.now ≡ Some c.in-Some.names.now = sym c.in-Some.ensures.value in
    on_err c.insert_name.result (λ same. table_same (λ o. o) c.args.partition.now c.args.name.now room (c.get_mut.follows.lender c.insert_name.new.names) c.in-Some.names.now c.insert_name.new.names updates was same ∙ c.make_partition.ensures.same) c.insert_name.ensures.err
