use Rattle.std.specs.Prelude.{IsTrue}
use Rattle.std.specs.BTreeSet.{contains}
use Rattle.std.specs.Ordering.{nat_cmp}
use Rattle.section_manager.specs.Sections.{IsHeld}
use Rattle.segments.specs.FixedShown.{shown}
use Rattle.paired.proofs.opening.Lemmas.{GoneOver}
use Rattle.paired.proofs.oversized.opening.held_sections.Given as goal

abbrev pub invariant-loop-section : goal.invariant-loop-section
invariant-loop-section g l = GoneOver (IsHeld (shown l.index).sections) (λ s. IsTrue (contains nat_cmp l.held s)) l.section-iterator
