-- What it promises to hold the records that a section keeps, one by one and all.
use Rattle.std.specs.Prelude.{◌≡◌, ◌≢◌, ◌⊎◌, ℕ, Result, Ok, Err}
use Rattle.section_manager.specs.declared.journal.Damage.{Damage}
use Rattle.section_manager.specs.declared.journal.Error.{Error}
use Rattle.section_manager.specs.declared.journal.Error.TheVariants.{Corruption, Mem}
use Rattle.cache_store.specs.Holding.{IsTied, marked, offsets_of}
use Rattle.cache_store.specs.Machine.{section_of}
use Rattle.cache_store.specs.declared.held.Held.{Held}

-- A record with this index was met, whose frame begins at this offset of a section.
module _ (items here offset index : ℕ) where
  -- It is held beside the others, if its index was not.
  pub record IsEntered (old new : Held) : Type 0 where
    -- the section is that of the index
    pub own : section_of items index ≡ here
    pub tied : IsTied new
    pub held : (i : ℕ) → offsets_of new i ≡ marked index offset (offsets_of old) i

  -- The section is not that of the index.
  pub record IsAstray (x : Damage) : Type 0 where
    -- the section is told twice
    pub section : x.section ≡ here
    pub kept : x.kept ≡ here
    -- and that of the index
    pub wanted : x.wanted ≡ section_of items index
    pub other : x.wanted ≢ here

  abbrev pub Enters : Held → Held → Result (Unit {0}) Error → Type 0
  Enters old new (Ok done) = IsEntered old new
  Enters old new (Err e) = ((x : Damage) × (e ≡ Corruption x) × IsAstray x) ⊎ (e ≡ Mem)
