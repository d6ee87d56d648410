-- How a cache is kept, where its journal is kept as before.
use Rattle.std.specs.Prelude.{◌≡◌, ℕ, List, Option}
use Rattle.sealed_pages.specs.declared.page_blob.PageBlob.{PageBlob}
use Rattle.section_manager.specs.Sections.{Sections, SamePlace}
use Rattle.section_manager.specs.declared.sealed.AppendFactory.{AppendFactory}
use Rattle.value_codec.specs.declared.codec.Error.{Error}
use Rattle.cache_store.specs.Kept.{Layout}

module _ {S C : Type 0} {gs : _} (seal : List ℕ → ℕ) (items : ℕ) (refusal : List ℕ → C → Option Error) where
  abbrev pub kept_by : Sections (AppendFactory S) (PageBlob S gs) → C → Layout
  kept_by m config = record {
    partition = m.partition;
    page_size = m.factory.pages.page_size;
    seal = seal;
    items = items;
    refusal = λ bytes. refusal bytes config;
  }

  pub same_layout : (m n : Sections (AppendFactory S) (PageBlob S gs)) (before config : C) → SamePlace m n → config ≡ before → kept_by n config ≡ kept_by m before
  same_layout m n before config place same i = kept_by (record m { partition = place.partition i; factory = place.factory i }) (same i)
