use Rattle.std.proofs.Common.{◌≡◌, ◌∙◌, Some, ap, sym, rules}
use Rattle.blob_device.specs.Tables.{at_name}
use Rattle.blob_device.specs.Calls.{read_once}
use Rattle.blob_device.specs.Tracks.{track_at, tracks_of}
use Rattle.blob_device.proofs.Maps.{table_put, here_was}
use Rattle.blob_device.proofs.memory.logs.read_at.Goals as goal

pub returns-clause-tracks : goal.returns-clause-tracks
returns-clause-tracks c =
    let updates = (c.get_mut.follows.holds c.read_in.new.names).3 (search rules) in
    let logs = c.args.logs.now.partitions in
    let was : at_name logs c.args.partition.now ≡ Some c.in-Some.names.now = sym c.in-Some.ensures.value in
    let more = c.get_mut.follows.lender c.read_in.new.names in
    table_put track_at c.args.partition.now c.args.name.now logs more c.in-Some.names.now c.read_in.new.names updates was
    (read_once (tracks_of c.args.logs.now (c.args.partition.now, c.args.name.now)))
    (c.read_in.ensures.here ∙ ap read_once (sym (here_was track_at c.args.partition.now c.args.name.now logs more c.in-Some.names.now c.read_in.new.names updates was)))
    c.read_in.ensures.others
