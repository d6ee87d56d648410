use Rattle.segments.proofs.looking.ItemReads.{reads_as, reads_none}
use Rattle.segments.proofs.fixed.Journal.read_item.Goals as goal
use Rattle.blob_device.proofs.general.Results.{err_of}

pub returns-in_err-bytes : goal.returns-in_err-bytes
returns-in_err-bytes g c = reads_none _ _ _ _ _ _ _ _ _ _ _ (err_of c.from_residual.result _ c.from_residual.ensures.1)

pub returns-in_err-item : goal.returns-in_err-item
returns-in_err-item g c = reads_as _ _ _ _ _ _ _ _ _ _ _ _ _ (err_of c.from_residual-in_err-item.result _ c.from_residual-in_err-item.ensures.1) c.in_err-item.ensures.reads

pub returns : goal.returns
returns g c = c.in_ok-item.ensures.reads
