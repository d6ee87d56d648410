use Rattle.variable_tests.specs.Stores.{IsGoing}
use Rattle.variable_tests.proofs.replays.drained.Given as goal

abbrev pub invariant-answers : goal.invariant-answers
invariant-answers l = IsGoing l.dev l.walk
