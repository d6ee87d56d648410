use Rattle.variable_tests.specs.Stores.{IsOpen}
use Rattle.variable_tests.specs.declared.store.Store.TheVariants.{Frames}
use Rattle.variable_tests.proofs.journals.append.Given as goal

abbrev pub invariant-items : goal.invariant-items
invariant-items l = IsOpen l.dev (Frames l.journal)
