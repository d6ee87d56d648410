use Rattle.std.proofs.Common.{ℕ, ◌<◌, IsSome}
use Rattle.std.specs.BTreeMap.{get}
use Rattle.std.specs.List.{Contains}
use Rattle.std.specs.Ordering.{nat_cmp}
use Rattle.section_manager.specs.managing.Managed.{shown}
use Rattle.section_manager.proofs.manager.Manager.check_sizes.Given as goal

abbrev pub invariant-loop-section : goal.invariant-loop-section
invariant-loop-section g l = record {
  rest : (s : ℕ) → IsSome (get nat_cmp l.sizes s) → s < (shown l.self).floor → Contains l.section-iterator s;
  named : (s : ℕ) → Contains l.section-iterator s → IsSome (get nat_cmp l.sizes s);
}
