use Rattle.std.specs.BTreeMap.{get}
use Rattle.std.specs.Ordering.{nat_cmp}
use Rattle.paired.specs.sighted.Shown.{shown}
use Rattle.paired.proofs.tracking.Lemmas.{Gathered}
use Rattle.paired.proofs.oversized.tracking.Tracking.markers.Given as goal

abbrev pub invariant-loop-key : goal.invariant-loop-key
invariant-loop-key g l = Gathered (shown l.self).store.entries l.key-iterator.inner (get nat_cmp l.markers)
