use Rattle.paired_tests.specs.Stores.{IsOpen}
use Rattle.paired_tests.specs.declared.store.Store.TheVariants.{Walk}
use Rattle.paired_tests.proofs.walks.go_over.Given as goal

abbrev pub invariant-answers : goal.invariant-answers
invariant-answers l = IsOpen l.dev (Walk l.walk)
