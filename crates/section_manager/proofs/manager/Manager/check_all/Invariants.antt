use Rattle.std.proofs.Common.{ℕ, ◌≤◌, take}
use Rattle.std.specs.List.{Contains}
use Rattle.section_manager.specs.managing.Managed.{shown}
use Rattle.section_manager.proofs.manager.Manager.check_all.Given as goal

abbrev pub invariant-loop-section : goal.invariant-loop-section
invariant-loop-section g l = (s : ℕ) → Contains (take l.section-index l.sections) s → (shown l.self).floor ≤ s
