use Rattle.archives.specs.Machine.{after_multi, after_sync}
use Rattle.archives.proofs.machine.Changes.{turned_not, turned_twice}
use Rattle.archives.proofs.plain.Machine.multi_and_sync.Goals as goal
use Rattle.blob_device.proofs.general.Results.{err_of}

pub returns-in_err-multi : goal.returns-in_err-multi
returns-in_err-multi g c =
    let m = c.args.self.now in
    turned_not g.K.Key.key_bytes m c.multi.new.self (λ st. after_sync (after_multi m.items_per_section c.args.index (g.K.Key.key_bytes c.args.key) c.args.value.now st)) c.from_residual.result c.in_err-multi.field-0.0
    (err_of c.from_residual.result c.in_err-multi.field-0.0 c.from_residual.ensures.1) c.in_err-multi.ensures

pub returns : goal.returns
returns g c =
    let m = c.args.self.now in
    let kb = g.K.Key.key_bytes in
    turned_twice kb m c.multi.new.self c.sync.new.self (after_multi m.items_per_section c.args.index (kb c.args.key) c.args.value.now) after_sync c.in_ok-multi.field-0 c.sync.result c.in_ok-multi.ensures c.sync.ensures
