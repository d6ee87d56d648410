use Rattle.record_tables_tests.specs.Told.{AreTold}
use Rattle.record_tables_tests.proofs.steps.run.Given as goal

abbrev pub invariant-loop-step : goal.invariant-loop-step
invariant-loop-step l = AreTold l.both
