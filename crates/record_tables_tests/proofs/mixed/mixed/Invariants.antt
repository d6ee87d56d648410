use Rattle.record_tables_tests.specs.Told.{AreTold}
use Rattle.record_tables_tests.proofs.mixed.mixed.Given as goal

abbrev pub invariant-loop-number : goal.invariant-loop-number
invariant-loop-number l = AreTold l.both
