use Rattle.section_manager.specs.Sections.{IsHeld}
use Rattle.segments.specs.FixedShown.{shown}
use Rattle.paired.proofs.opening.Lemmas.{AreHeld}
use Rattle.paired.proofs.oversized.opening.check_held.Given as goal

abbrev pub invariant-loop-section : goal.invariant-loop-section
invariant-loop-section g l = AreHeld (IsHeld (shown l.index).sections) l.floors.entries l.section-iterator
