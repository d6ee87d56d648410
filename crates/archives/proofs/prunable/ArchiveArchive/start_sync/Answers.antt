use Rattle.archives.proofs.sync.Errors.{outcome_err}
use Rattle.archives.proofs.SyncsLemmas.{sync_as}
use Rattle.archives.proofs.prunable.ArchiveArchive.start_sync.Goals as goal
use Rattle.blob_device.proofs.general.Results.{err_of}

pub returns-in_err-this : goal.returns-in_err-this
returns-in_err-this g c = sync_as _ g.D.Device c.args.self _ _ _ _ (outcome_err _ _ c.in_err-this.field-0.0 (err_of _ c.in_err-this.field-0.0 c.from_residual.ensures.1)) c.in_err-this.ensures
