use Rattle.std.proofs.Common.{◌+◌, ◌≤◌}
use Rattle.section_manager.specs.managing.Managed as managed
use Rattle.segments.specs.FixedFloors as floors
use Rattle.paired.specs.glob.Sections.{section_size}
use Rattle.paired.proofs.opening.Lemmas.{Checking}
use Rattle.paired.proofs.oversized.opening.check_values.Given as goal

abbrev pub invariant-loop-section : goal.invariant-loop-section
invariant-loop-section g l = Checking (floors.preflight_shown l.found).boundary_of (λ s v. (g.I.Record.location v).0 + (g.I.Record.location v).1 ≤ section_size (managed.shown l.values.manager) s) l.section-iterator
