use Rattle.std.proofs.Common.{take}
use Rattle.blob_device.specs.Disk.{begun}
use Rattle.blob_device.specs.Calls.{replay, start_of}
use Rattle.blob_device.specs.Histories.{IsHistory}
use Rattle.blob_device.proofs.memory.blob_log.BlobLog.history.Given as goal

abbrev pub invariant-loop-call : goal.invariant-loop-call
invariant-loop-call l = IsHistory l.history (replay (take l.call-index l.self.calls.items) (begun (start_of l.self.start)))
