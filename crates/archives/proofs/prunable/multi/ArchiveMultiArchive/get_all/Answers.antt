use Rattle.archives.specs.declared.error.Error.TheVariants.{Mem}
use Rattle.archives.proofs.SeveralLemmas.{all_none, all_short, all_some, all_unread}
use Rattle.archives.proofs.prunable.multi.ArchiveMultiArchive.get_all.Goals as goal
use Rattle.blob_device.proofs.general.Results.{err_of}

pub returns-in_err-entries : goal.returns-in_err-entries
returns-in_err-entries g c =
    let e = c.in_err-entries.field-0.0 in
    all_unread _ g.D.Device c.args.self.now g.K.Key.key_bytes c.args.index c.args.dev.now c.get_entries.new.dev e c.from_residual.result (err_of _ e c.from_residual.ensures.1) c.in_err-entries.ensures

pub returns-in_err-into_values-in-Some : goal.returns-in_err-into_values-in-Some
returns-in_err-into_values-in-Some g c =
    all_short _ g.D.Device c.args.self.now g.K.Key.key_bytes c.args.index c.args.dev.now c.get_entries.new.dev c.in_ok-entries.field-0 c.in-Some.entries c.in-Some.is c.in_ok-entries.ensures
    c.from_residual-in_err-into_values-in-Some.result (err_of _ Mem c.from_residual-in_err-into_values-in-Some.ensures.1)

pub returns-in_ok-into_values-in-Some : goal.returns-in_ok-into_values-in-Some
returns-in_ok-into_values-in-Some g c =
    all_some _ g.D.Device c.args.self.now g.K.Key.key_bytes c.args.index c.args.dev.now c.get_entries.new.dev c.in_ok-entries.field-0 c.in-Some.entries c.in_ok-into_values-in-Some.field-0 c.in-Some.is c.in_ok-into_values-in-Some.ensures
    c.in_ok-entries.ensures

pub returns-in-None : goal.returns-in-None
returns-in-None g c =
    all_none _ g.D.Device c.args.self.now g.K.Key.key_bytes c.args.index c.args.dev.now c.get_entries.new.dev c.in_ok-entries.field-0 c.in-None.is c.in_ok-entries.ensures
