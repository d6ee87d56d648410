use Rattle.std.proofs.Common.{arith}
use Rattle.blob_device.specs.Tracks.{tracks_of}
use Rattle.blob_device.proofs.Logged.{idle_sound}
use Rattle.blob_device.proofs.memory.Memory.begin.Goals as goal

pub invariant_of-self : goal.invariant_of-self
invariant_of-self c = record { sound = idle_sound (tracks_of c.args.self.now.logs) c.args.self.now.count _ c.args.self.now.sound (omega arith) }

pub invariant_of-self-else-failed : goal.invariant_of-self-else-failed
invariant_of-self-else-failed c = record { sound = idle_sound (tracks_of c.args.self.now.logs) c.args.self.now.count _ c.args.self.now.sound (omega arith) }
