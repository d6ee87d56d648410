use Rattle.std.specs.Prelude.{Ok}
use Rattle.segments.specs.FixedWalking.{walk_of}
use Rattle.segments_tests.specs.Cursors.{HasPassed}
use Rattle.segments_tests.proofs.cursors.passed.Given as goal

abbrev pub invariant-groups : goal.invariant-groups
invariant-groups l = HasPassed {T = Unit {0}} l.dev (Ok tt) (walk_of l.fn.walk) (walk_of l.walk)
