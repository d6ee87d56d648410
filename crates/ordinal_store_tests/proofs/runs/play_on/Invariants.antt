use Rattle.ordinal_store_tests.specs.Over.{MayBeOver}
use Rattle.ordinal_store_tests.proofs.runs.play_on.Given as goal

abbrev pub invariant-steps : goal.invariant-steps
invariant-steps l = MayBeOver l.store l.dev
