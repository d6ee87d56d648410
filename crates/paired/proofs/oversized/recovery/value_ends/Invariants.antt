use Rattle.std.specs.Prelude.{unwrap_or}
use Rattle.std.specs.BTreeMap.{get}
use Rattle.std.specs.Ordering.{nat_cmp}
use Rattle.section_manager.specs.managing.Managed as managed
use Rattle.segments.specs.FixedShown.{shown}
use Rattle.paired.specs.glob.Sections.{section_size}
use Rattle.paired.specs.Reconciling.{IsCutOff}
use Rattle.paired.proofs.ValueEnds.{EndsFound}
use Rattle.paired.proofs.oversized.recovery.value_ends.Given as goal

abbrev pub invariant-loop-section : goal.invariant-loop-section
invariant-loop-section g l = EndsFound (shown l.index).sections (λ s n. IsCutOff (unwrap_or (get nat_cmp l.kept s) 0) (section_size (managed.shown l.values.manager) s) n) (get nat_cmp l.ends) l.section-iterator
