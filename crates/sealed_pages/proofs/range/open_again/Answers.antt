use Rattle.blob_device.specs.Timeline.{disk}
use Rattle.std.proofs.Common.{rules}
use Rattle.sealed_pages.proofs.adopted.Reopen.{entry_there, open_length, open_stays, open_settled, open_settles, open_same_length}
use Rattle.sealed_pages.proofs.range.open_again.Goals as goal

pub returns : goal.returns
returns g c =
    let there = λ (t : g.D.Device.Tells). entry_there (g.D.Device.opened c.args.dev.now) (c.args.partition.now, c.args.name.now) (disk (g.D.Device.time c.args.dev.now) (c.args.partition.now, c.args.name.now)) (g.met.D.Device.opened_stands t c.args.dev.now (c.args.partition.now, c.args.name.now)) c.requires in
    record {
      length = open_length (c.args.partition.now, c.args.name.now) (g.D.Device.opened c.args.dev.now) (g.D.Device.opened c.open_blob.new.self) c.open_blob.result c.open_blob.ensures.opened;
      settled = λ t. open_settled (c.args.partition.now, c.args.name.now) c.open_blob.result (g.D.Device.time c.args.dev.now) (g.D.Device.time c.open_blob.new.self) (c.open_blob.ensures.told t) (there t);
      settles = λ t. open_settles (c.args.partition.now, c.args.name.now) c.open_blob.result (g.D.Device.time c.args.dev.now) (g.D.Device.time c.open_blob.new.self) (c.open_blob.ensures.told t) (there t);
      entries = open_stays (c.args.partition.now, c.args.name.now) (g.D.Device.opened c.args.dev.now) (g.D.Device.opened c.open_blob.new.self) c.open_blob.result c.open_blob.ensures.opened c.open_blob.ensures.opened_err c.requires;
      same = λ t n was. open_same_length (c.args.partition.now, c.args.name.now) (g.D.Device.opened c.args.dev.now) (g.D.Device.opened c.open_blob.new.self) c.open_blob.result (g.D.Device.time c.args.dev.now) (g.D.Device.time c.open_blob.new.self) (c.open_blob.ensures.told t) c.open_blob.ensures.opened c.open_blob.ensures.opened_err
          (c.open_blob.ensures.length t) (g.met.D.Device.opened_stands t c.args.dev.now (c.args.partition.now, c.args.name.now)) n was;
      faults = search rules;
      cause = search rules;
    }
