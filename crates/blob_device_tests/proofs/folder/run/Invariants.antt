use Rattle.std.specs.Prelude.{IfSome}
use Rattle.blob_device.specs.FileMeaning.{file_opened}
use Rattle.blob_device_tests.specs.Holding.{IsHeld}
use Rattle.blob_device_tests.proofs.folder.run.Given as goal

abbrev pub invariant-loop-step : goal.invariant-loop-step
invariant-loop-step l = IfSome l.held (λ h. IsHeld h (file_opened l.dev))
