use Rattle.std.proofs.Common.{ℕ, List, sym, ◌∙◌, ap, subst}
use Rattle.blob_device.specs.MemoryMeaning.{memory_opened}
use Rattle.value_codec.specs.declared.key.Key8.{Key8}
use Rattle.meta_store.specs.Calls.{IsOpened}
use Rattle.meta_store.specs.Store.{Store, MayBeSynced, shown}
use Rattle.meta_store_tests.specs.Over.{map_format}
use Rattle.meta_store_tests.proofs.OverLemmas.{entries_stay, partition_stays}
use Rattle.meta_store_tests.proofs.steps.sync.Goals as goal

pub returns : goal.returns
returns c = record {
  storable = subst (MayBeSynced map_format) (sym (ap (λ (u : Store Key8 ℕ). u.entries) c.in_ok-map.ensures.ends.same ∙ entries_stay (shown c.args.map))) c.requires.storable;
  opened = subst (λ (p : List ℕ). IsOpened p (memory_opened c.sync.new.dev)) (sym (ap (λ (u : Store Key8 ℕ). u.partition) c.in_ok-map.ensures.ends.same ∙ partition_stays (shown c.args.map))) c.sync.ensures.opened;
}
