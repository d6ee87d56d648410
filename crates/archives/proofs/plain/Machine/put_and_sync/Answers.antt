use Rattle.archives.specs.Machine.{after_put, after_sync}
use Rattle.archives.proofs.machine.Changes.{turned_not, turned_twice}
use Rattle.archives.proofs.plain.Machine.put_and_sync.Goals as goal
use Rattle.blob_device.proofs.general.Results.{err_of}

pub returns-in_err-put : goal.returns-in_err-put
returns-in_err-put g c =
    let m = c.args.self.now in
    turned_not g.K.Key.key_bytes m c.put.new.self (λ st. after_sync (after_put m.items_per_section c.args.index (g.K.Key.key_bytes c.args.key) c.args.value.now st)) c.from_residual.result c.in_err-put.field-0.0
    (err_of c.from_residual.result c.in_err-put.field-0.0 c.from_residual.ensures.1) c.in_err-put.ensures

pub returns : goal.returns
returns g c =
    let m = c.args.self.now in
    let kb = g.K.Key.key_bytes in
    turned_twice kb m c.put.new.self c.sync.new.self (after_put m.items_per_section c.args.index (kb c.args.key) c.args.value.now) after_sync c.in_ok-put.field-0 c.sync.result c.in_ok-put.ensures c.sync.ensures
