use Rattle.std.proofs.Common.{ℕ, ap}
use Rattle.value_codec.specs.declared.key.Key8.{Key8}
use Rattle.meta_store.specs.Store.{Store}
use Rattle.meta_store_tests.proofs.steps.kept.Goals as goal

pub returns-clause-storable : goal.returns-clause-storable
returns-clause-storable c = c.retain.ensures.storable c.requires

pub returns-clause-partition : goal.returns-clause-partition
returns-clause-partition c = ap (λ (u : Store Key8 ℕ). u.partition) c.retain.ensures.same
