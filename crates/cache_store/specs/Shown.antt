-- What a cache shows of itself.
use Rattle.std.specs.Prelude.{ℕ, List, Option}
use Rattle.std.specs.BTreeMap.{get}
use Rattle.std.specs.Ordering.{nat_cmp}
use Rattle.sealed_pages.specs.declared.page_blob.PageBlob.{PageBlob}
use Rattle.section_manager.specs.declared.sealed.AppendFactory.{AppendFactory}
use Rattle.value_codec.specs.declared.codec.Error.{Error}
use Rattle.variable_journal.specs.Shown as journal
use Rattle.cache_store.specs.Caches as cache
use Rattle.cache_store.specs.Holding.{indices_of, offsets_of}
use Rattle.cache_store.specs.declared.cache.Cache.{Cache}

-- what the codec is told
abbrev pub config_of : {V S C : Type 0} {seal : _} → Cache V S C seal → C
config_of a = journal.config_of a.journal

-- of values that a codec refuses so
abbrev pub shown : {V S C : Type 0} {seal : _} → (List ℕ → C → Option Error) → Cache V S C seal
    → cache.Cache (AppendFactory S) (PageBlob S seal)
shown {seal = s} refusal a = record {
  journal = journal.shown a.journal;
  layout = record {
    partition = (journal.shown a.journal).sections.partition;
    page_size = (journal.shown a.journal).sections.factory.pages.page_size;
    seal = s.seal_of;
    items = a.items_per_blob;
    refusal = λ bytes. refusal bytes (config_of a);
  };
  offsets = offsets_of a.held;
  indices = indices_of a.held;
  written = get nat_cmp a.written;
  floor = a.floor;
}
