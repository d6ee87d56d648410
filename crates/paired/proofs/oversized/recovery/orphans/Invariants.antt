use Rattle.std.specs.BTreeSet.{contains}
use Rattle.std.specs.Ordering.{nat_cmp}
use Rattle.section_manager.specs.managing.Managed.{shown}
use Rattle.paired.proofs.ValuesRemoved.{AreAlone}
use Rattle.paired.proofs.oversized.recovery.orphans.Given as goal

abbrev pub invariant-loop-section : goal.invariant-loop-section
invariant-loop-section g l = AreAlone (shown l.values.manager) (contains nat_cmp l.held) l.orphans.items l.section-iterator
