use Rattle.archives.proofs.EntryLemmas.{value_unread_as}
use Rattle.archives.proofs.prunable.Archive.value_at.Goals as goal
use Rattle.blob_device.proofs.general.Results.{err_of}

pub returns-in_err-value : goal.returns-in_err-value
returns-in_err-value g c =
    value_unread_as _ g.D.Device g.K.Key.key_bytes c.args.self.now c.args.section c.args.position c.args.dev.now c.entry_at.new.dev c.from_residual.result c.in_err-value.field-0.0 (err_of _ c.in_err-value.field-0.0 c.from_residual.ensures.1) c.in_err-value.ensures.reads

pub returns : goal.returns
returns g c = c.in_ok-value.ensures.reads
