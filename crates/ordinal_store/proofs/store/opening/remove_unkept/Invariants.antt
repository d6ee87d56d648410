use Rattle.std.proofs.Common.{◌≡◌, ◌≤◌, map}
use Rattle.std.specs.BTreeMap.{get}
use Rattle.std.specs.Int.{w64, to_be_bytes}
use Rattle.std.specs.Ordering.{nat_cmp}
use Rattle.ordinal_store.specs.Emptying.{GoesAll, IsUnkept}
use Rattle.ordinal_store.specs.Slots.{Layout}
use Rattle.ordinal_store.specs.Stores.{now, sight}
use Rattle.ordinal_store.proofs.EmptyingLemmas.{EmptiedFirst}
use Rattle.ordinal_store.proofs.store.opening.remove_unkept.Given as goal

abbrev pub invariant-loop-number : goal.invariant-loop-number
invariant-loop-number g l = (k : Layout) → k.partition ≡ l.partition → 1 ≤ k.items → (GoesAll (IsUnkept k (get nat_cmp l.map)) g.D.Device.Tells (sight g.D.Device l.initial.dev) (sight g.D.Device l.dev))
    × (g.D.Device.Tells → EmptiedFirst (IsUnkept k (get nat_cmp l.map)) l.partition (map (to_be_bytes w64) l.numbers) l.number-index (now (sight g.D.Device l.initial.dev)) (now (sight g.D.Device l.dev)))
