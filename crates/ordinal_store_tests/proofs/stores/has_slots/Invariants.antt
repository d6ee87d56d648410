use Rattle.ordinal_store_tests.specs.Over.{IsOver}
use Rattle.ordinal_store_tests.proofs.stores.has_slots.Given as goal

abbrev pub invariant-slots : goal.invariant-slots
invariant-slots l = IsOver l.store l.dev
