use Rattle.blob_device.specs.MemoryMeaning.{memory_opened}
use Rattle.sealed_pages_tests.specs.Stores.{IsOpen}
use Rattle.sealed_pages_tests.proofs.runs.play_on.Given as goal

abbrev pub invariant-steps : goal.invariant-steps
invariant-steps l = IsOpen (memory_opened l.dev) l.store
