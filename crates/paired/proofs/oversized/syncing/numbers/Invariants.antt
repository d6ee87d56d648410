use Rattle.std.proofs.Common.{ℕ, ◌++◌, ◌↔◌}
use Rattle.std.specs.List.{Contains}
use Rattle.section_manager.specs.Sections.{IsHeld}
use Rattle.segments.specs.FixedShown.{shown}
use Rattle.paired.proofs.oversized.syncing.numbers.Given as goal

abbrev pub invariant-loop-section : goal.invariant-loop-section
invariant-loop-section g l = (s : ℕ) → Contains (l.numbers.items ++ l.section-iterator) s ↔ IsHeld (shown l.index).sections s
