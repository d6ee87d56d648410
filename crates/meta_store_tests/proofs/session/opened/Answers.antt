use Rattle.std.proofs.Common.{ℕ, List, sym, subst}
use Rattle.blob_device.specs.MemoryMeaning.{memory_opened}
use Rattle.meta_store.specs.Calls.{IsOpened}
use Rattle.meta_store_tests.proofs.session.opened.Goals as goal

pub returns : goal.returns
returns c = record {
  storable = c.in_ok-map.ensures.ends.storable;
  opened = subst (λ (p : List ℕ). IsOpened p (memory_opened c.init.new.dev)) (sym c.in_ok-map.ensures.ends.place) c.in_ok-map.ensures.ends.opened;
}
