use Rattle.archives.proofs.sync.Errors.{outcome_err}
use Rattle.archives.specs.Putting.{Often}
use Rattle.archives.proofs.put.SyncsLemmas.{put_sync_as}
use Rattle.archives.proofs.prunable.multi.ArchiveMultiArchive.put_multi_start_sync.Goals as goal
use Rattle.blob_device.proofs.general.Results.{err_of}

pub returns-in_err-this : goal.returns-in_err-this
returns-in_err-this g c = put_sync_as _ g.D.Device Often c.args.self _ _ _ _ _ _ _ (outcome_err _ _ c.in_err-this.field-0.0 (err_of _ c.in_err-this.field-0.0 c.from_residual.ensures.1)) c.in_err-this.ensures
