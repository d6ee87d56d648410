use Rattle.std.proofs.Common.{ap, length, Option}
use Rattle.blob_device.specs.Calls.{now, replay}
use Rattle.blob_device.specs.Tracks.{track_at}
use Rattle.blob_device.specs.declared.memory.blob_log.BlobLog.{BlobLog}
use Rattle.blob_device.proofs.memory.logs.len_of.Goals as goal

pub returns-in-None : goal.returns-in-None
unfolding replay
returns-in-None c = ap (λ (o : Option BlobLog). length (now (track_at o)).content) (c.in-None.ensures)
