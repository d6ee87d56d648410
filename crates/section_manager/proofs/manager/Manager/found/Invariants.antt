use Rattle.std.proofs.Common.{◌≡◌, ℕ, ◌<◌, get_or, Some, None}
use Rattle.std.specs.BTreeMap.{get}
use Rattle.std.specs.List.{Contains}
use Rattle.std.specs.Ordering.{nat_cmp}
use Rattle.section_manager.specs.declared.unopened.Unopened.TheVariants.{Section}
use Rattle.section_manager.proofs.manager.Manager.found.Given as goal

abbrev pub invariant-loop-number : goal.invariant-loop-number
invariant-loop-number g l = record {
  known : (k : ℕ) → k < l.number-index → get nat_cmp l.unopened (get_or l.numbers k 0) ≡ Some Section;
  others : (s : ℕ) → (Contains l.numbers s → ⊥) → get nat_cmp l.unopened s ≡ None;
}
