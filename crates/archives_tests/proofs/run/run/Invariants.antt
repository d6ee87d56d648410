use Rattle.std.specs.Prelude.{IfSome}
use Rattle.archives_tests.specs.Over.{IsOver}
use Rattle.archives_tests.proofs.run.run.Given as goal

abbrev pub invariant-loop-step : goal.invariant-loop-step
invariant-loop-step g l = IfSome l.archive (λ a. IsOver g.A.Archive.meaning.IsUsable a l.dev)
