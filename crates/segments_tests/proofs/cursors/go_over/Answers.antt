use Rattle.segments.specs.FixedWalking.{walk_of}
use Rattle.segments_tests.proofs.CursorCalls.{over_then}
use Rattle.segments_tests.proofs.cursors.go_over.Goals as goal

pub sections-preserved : goal.sections-preserved
sections-preserved c = over_then _ _ _ _ _ (walk_of c.go_on.new.walk) c.sections.invariant c.go_on.ensures
