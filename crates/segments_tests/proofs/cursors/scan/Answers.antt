use Rattle.std.proofs.Common.{arith}
use Rattle.segments_tests.proofs.CursorCalls.{between_start}
use Rattle.segments_tests.proofs.cursors.scan.Goals as goal

pub go_over-requires-clause-between : goal.go_over-requires-clause-between
go_over-requires-clause-between c = between_start _ _ _ _ _ c.in_ok-walk.ensures.over c.in_ok-walk.ensures.begins.between c.in_ok-walk.ensures.begins.journal (omega arith)
