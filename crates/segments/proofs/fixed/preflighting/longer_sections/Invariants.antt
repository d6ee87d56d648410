use Rattle.std.specs.Ordering.{nat_cmp}
use Rattle.std.specs.BTreeSet.{contains}
use Rattle.section_manager.specs.managing.Managed.{shown}
use Rattle.segments.specs.FixedLists.{floor_in}
use Rattle.segments.proofs.opened.OpenLemmas.{Longer}
use Rattle.segments.proofs.fixed.preflighting.longer_sections.Given as goal

abbrev pub invariant-loop-section : goal.invariant-loop-section
invariant-loop-section g l = Longer (shown l.manager) (floor_in l.floors) (contains nat_cmp l.longer) l.section-iterator
