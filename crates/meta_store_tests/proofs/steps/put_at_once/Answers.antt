use Rattle.std.proofs.Common.{ℕ, List, inl, inr, sym, ◌∙◌, ap, subst, rules}
use Rattle.std.specs.BTreeMap.{insert_entry}
use Rattle.blob_device.specs.MemoryMeaning.{memory_opened}
use Rattle.value_codec.specs.declared.key.Key8.{Key8}
use Rattle.meta_store.specs.Calls.{IsOpened}
use Rattle.meta_store.specs.Copies.{IsStorable}
use Rattle.meta_store.specs.Store.{Store, MayBeSynced, shown, staging}
use Rattle.meta_store_tests.specs.Over.{map_format}
use Rattle.meta_store_tests.proofs.OverLemmas.{entries_stay, partition_stays}
use Rattle.meta_store_tests.proofs.steps.put_at_once.Goals as goal
use Rattle.blob_device.proofs.general.Maps.{all_inserted}

pub put_sync-requires-clause-storable : goal.put_sync-requires-clause-storable
put_sync-requires-clause-storable c = all_inserted map_format.compare (IsStorable map_format) c.args.map.entries.entries c.key.result c.args.value c.requires.storable (record { accepted = c.ranges.value.fits; fits = search rules })

pub returns : goal.returns
returns c =
    let all = all_inserted map_format.compare (IsStorable map_format) c.args.map.entries.entries c.key.result c.args.value c.requires.storable (record { accepted = c.ranges.value.fits; fits = search rules }) in
    let u = staging (shown c.args.map) (insert_entry map_format.compare c.args.map.entries.entries c.key.result c.args.value) in
    elim c.in_ok-map.ensures [
      | inl short ↦ absurd (cc short.0)
      | inr syncs ↦ record {
        storable = subst (MayBeSynced map_format) (sym (ap (λ (x : Store Key8 ℕ). x.entries) syncs.ends.same ∙ entries_stay u)) all;
        opened = subst (λ (p : List ℕ). IsOpened p (memory_opened c.put_sync.new.dev)) (sym (ap (λ (x : Store Key8 ℕ). x.partition) syncs.ends.same ∙ partition_stays u)) syncs.opened;
      }
    ]
