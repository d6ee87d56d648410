use Rattle.segments.specs.FixedWalking.{walk_of}
use Rattle.segments_tests.specs.Cursors.{IsBetween}
use Rattle.segments_tests.proofs.cursors.go_over.Given as goal

abbrev pub invariant-sections : goal.invariant-sections
invariant-sections l = IsBetween l.dev l.plan.section l.plan.keep (walk_of l.walk)
