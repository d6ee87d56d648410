use Rattle.std.proofs.Common.{refl, rules}
use Rattle.blob_device.specs.Disk.{nothing}
use Rattle.blob_device.proofs.Replay.{reads_nil}
use Rattle.blob_device.proofs.memory.blob_log.BlobLog.new.Goals as goal

pub invariant_of-result : goal.invariant_of-result
invariant_of-result c = record { bytes = refl; tied = reads_nil nothing _ _ (search rules) (search rules) }
