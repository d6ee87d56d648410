use Rattle.std.proofs.Common.{◌≡◌}
use Rattle.std.specs.BTreeMap.{get}
use Rattle.std.specs.Ordering.{nat_cmp}
use Rattle.ordinal_store.specs.Slots.{Layout}
use Rattle.ordinal_store.proofs.MarkLemmas.{Judged}
use Rattle.ordinal_store.proofs.checking.check_numbers.Given as goal

abbrev pub invariant-loop-section : goal.invariant-loop-section
invariant-loop-section l = (k : Layout) → k.items ≡ l.items → Judged k (get nat_cmp l.map) l.section-iterator
