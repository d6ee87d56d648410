use Rattle.segments_tests.specs.Stores.{IsOpen}
use Rattle.segments_tests.specs.declared.store.Store.TheVariants.{Items}
use Rattle.segments_tests.proofs.journals.append.Given as goal

abbrev pub invariant-numbers : goal.invariant-numbers
invariant-numbers l = IsOpen l.dev (Items l.journal)
