use Rattle.ordinal_store.specs.Emptying.{GoesAll, IsIn}
use Rattle.ordinal_store.specs.Stores.{now, sight}
use Rattle.ordinal_store.proofs.EmptyingLemmas.{EmptiedFirst}
use Rattle.ordinal_store.proofs.store.opening.remove_named.Given as goal

abbrev pub invariant-loop-i : goal.invariant-loop-i
invariant-loop-i g l = record {
  goes : GoesAll (IsIn l.partition) g.D.Device.Tells (sight g.D.Device l.initial.dev) (sight g.D.Device l.dev);
  emptied : g.D.Device.Tells → EmptiedFirst (IsIn l.partition) l.partition l.names l.i (now (sight g.D.Device l.initial.dev)) (now (sight g.D.Device l.dev));
}
