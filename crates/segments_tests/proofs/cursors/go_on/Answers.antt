use Rattle.segments.specs.FixedWalking.{walk_of}
use Rattle.segments_tests.proofs.CursorCalls.{over_noted, over_well}
use Rattle.segments_tests.proofs.cursors.go_on.Goals as goal

pub returns-in_default : goal.returns-in_default
returns-in_default c = over_well _ c.gone_over.result c.in_default.field-0 _ _ c.in_default.is c.gone_over.ensures

pub returns : goal.returns
returns c = over_noted _ c.gone_over.result c.in-Err.error _ (walk_of c.gone_over.new.walk) (walk_of c.fail.new.self) c.in-Err.is c.gone_over.ensures c.fail.ensures.goes
