use Rattle.std.proofs.Common.{ℕ, ◌++◌, ◌↔◌}
use Rattle.std.specs.List.{Contains}
use Rattle.std.specs.List.Sorted.{IsStrictlySortedBy}
use Rattle.std.specs.Ordering.{nat_cmp}
use Rattle.section_manager.specs.managing.Managed.{shown}
use Rattle.section_manager.specs.Sections.{IsHeld}
use Rattle.section_manager.proofs.manager.Manager.numbers.Given as goal

abbrev pub invariant-loop-section : goal.invariant-loop-section
invariant-loop-section g l = record {
  each : (s : ℕ) → Contains (l.numbers.items ++ l.section-iterator) s ↔ IsHeld (shown l.self) s;
  ascending : IsStrictlySortedBy nat_cmp (l.numbers.items ++ l.section-iterator);
}
