use Rattle.std.specs.Prelude.{IfSome}
use Rattle.meta_store_tests.specs.Over.{IsOver}
use Rattle.meta_store_tests.proofs.session.run.Given as goal

abbrev pub invariant-loop-step : goal.invariant-loop-step
invariant-loop-step l = IfSome l.map (λ m. IsOver m l.dev)
