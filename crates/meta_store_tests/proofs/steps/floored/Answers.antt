use Rattle.std.proofs.Common.{ℕ, ap, subst, sym}
use Rattle.value_codec.specs.declared.key.Key8.{Key8}
use Rattle.meta_store.specs.Store.{MayBeSynced, Store}
use Rattle.meta_store_tests.specs.Over.{map_format}
use Rattle.meta_store_tests.proofs.steps.floored.Goals as goal

pub returns-clause-storable : goal.returns-clause-storable
returns-clause-storable c = subst (MayBeSynced map_format) (sym (ap (λ (u : Store Key8 ℕ). u.entries) c.set_floor.ensures.same)) c.requires

pub returns-clause-partition : goal.returns-clause-partition
returns-clause-partition c = ap (λ (u : Store Key8 ℕ). u.partition) c.set_floor.ensures.same
