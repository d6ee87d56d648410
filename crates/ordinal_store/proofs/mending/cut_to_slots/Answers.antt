use Rattle.std.proofs.Common.{◌*◌, ◌/◌, ap}
use Rattle.ordinal_store.specs.Mending.{whole}
use Rattle.ordinal_store.specs.Stores.{sight}
use Rattle.ordinal_store.proofs.MendLemmas.{cut_finished, cut_refused}
use Rattle.ordinal_store.proofs.mending.cut_to_slots.Goals as goal

pub returns-in_err-truncate : goal.returns-in_err-truncate
returns-in_err-truncate g c =
    let e = c.in_err-truncate.ensures in
    cut_refused g.D.Device.Tells c.args.size c.requires.some c.args.buffer (sight g.D.Device c.args.dev.now) (sight g.D.Device c.truncate.new.dev) c.requires.ready
    (c.size.result / c.args.size * c.args.size) (ap (whole c.args.size) c.size.ensures) c.in_err-truncate.field-0.0 c.from_residual.result c.from_residual.ensures.1
    (record {
      spares = c.truncate.ensures.spares;
      adds = c.truncate.ensures.since_cut;
      over = e.over;
      settles = e.settles;
      cut = e.cut;
      size = e.size;
      key_is = e.key;
      capacity_is = e.capacity;
      untouched = λ le. ap (sight g.D.Device) (c.truncate.ensures.untouched le);
      stays = e.stays;
      is_open = e.open;
      entries = c.truncate.ensures.entries;
      faults = c.truncate.ensures.faults;
      cause = e.cause;
    })

pub returns : goal.returns
returns g c =
    let e = c.in_ok-truncate.ensures in
    cut_finished g.D.Device.Tells c.args.size c.requires.some c.args.buffer (sight g.D.Device c.args.dev.now) (sight g.D.Device c.truncate.new.dev) c.requires.ready
    (c.size.result / c.args.size * c.args.size) (ap (whole c.args.size) c.size.ensures) c.in_ok-truncate.field-0
    (record {
      spares = c.truncate.ensures.spares;
      adds = c.truncate.ensures.since_cut;
      over = e.over;
      settles = e.settles;
      cut = e.cut;
      size = e.size;
      key_is = e.key;
      capacity_is = e.capacity;
      untouched = λ le. ap (sight g.D.Device) (c.truncate.ensures.untouched le);
      stays = e.stays;
      is_open = e.open;
      entries = c.truncate.ensures.entries;
      faults = c.truncate.ensures.faults;
      cause = e.cause;
    })
