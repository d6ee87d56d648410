use Rattle.paired_tests.specs.Stores.{IsOpen}
use Rattle.paired_tests.proofs.runs.play_on.Given as goal

abbrev pub invariant-steps : goal.invariant-steps
invariant-steps l = IsOpen l.dev l.store
