-- Which configurations of a cache are valid.
use Rattle.std.specs.Prelude.{◌≡◌, ◌≤◌, ℕ, List, Option, Result, Ok, Err, string_bytes, string_len}
use Rattle.value_codec.specs.declared.codec.Error as codec
use Rattle.section_manager.specs.declared.journal.Error.{Error}
use Rattle.section_manager.specs.declared.journal.Error.TheVariants.{Mem}
use Rattle.variable_journal.specs.declared.journal.Config as variable
use Rattle.cache_store.specs.Kept.{Layout}
use Rattle.cache_store.specs.declared.config.Config.{Config}

module _ {C : Type 0} (cfg : Config C) where
  -- the partition has a name, and each number is at least 1
  pub record IsValid : Type 0 where
    pub partition : 1 ≤ string_len cfg.partition
    pub pages : 1 ≤ cfg.pages.page_size
    pub items : 1 ≤ cfg.items_per_blob
    pub write_buffer : 1 ≤ cfg.write_buffer
    pub replay_buffer : 1 ≤ cfg.replay_buffer

  -- it is where the cache's journal is kept
  pub record IsJournalOf (journal : variable.Config C) : Type 0 where
    pub partition : string_bytes journal.partition ≡ string_bytes cfg.partition
    pub pages : journal.pages ≡ cfg.pages
    pub write_buffer : journal.write_buffer ≡ cfg.write_buffer
    pub codec_config : journal.codec_config ≡ cfg.codec_config

  -- that, or want of memory
  abbrev pub Journals : Result (variable.Config C) Error → Type 0
  Journals (Ok journal) = IsJournalOf journal
  Journals (Err e) = e ≡ Mem

-- why a codec that is told this refuses bytes, if it does
abbrev pub refusal_of : {C : Type 0} → (List ℕ → C → Option codec.Error) → C
    → List ℕ → Option codec.Error
refusal_of refusal config bytes = refusal bytes config

-- how a cache is kept, with pages sealed so and values that a codec refuses so
abbrev pub layout_of : {C : Type 0} → (List ℕ → ℕ) → (List ℕ → C → Option codec.Error) → Config C
    → Layout
layout_of seal refusal cfg = record {
  partition = string_bytes cfg.partition;
  page_size = cfg.pages.page_size;
  seal = seal;
  items = cfg.items_per_blob;
  refusal = refusal_of refusal cfg.codec_config;
}
