-- Growth of what is held in memory, before a record is written.
use Rattle.std.specs.Prelude.{◌≡◌, ◌≢◌, ℕ, Bool, true, Result, Ok, Err}
use Rattle.std.specs.BTreeSet.{contains}
use Rattle.std.specs.Ordering.{nat_cmp}
use Rattle.ordinal_store.specs.Numbers.{AddsNumber}
use Rattle.ordinal_store.specs.Ranges.{set_of}
use Rattle.record_tables.specs.Tables.{HasReserved, rows_of}
use Rattle.archives.specs.declared.error.Error.{Error}
use Rattle.archives.specs.declared.error.Error.TheVariants.{Mem}
use Rattle.archives.specs.declared.prunable.growing.Held.{Held}

module _ {W K : Type 0} (eq : W → W → Bool) (section index : ℕ) (word : W) where
  -- There is room for one record more.
  pub record HasGrown (old new : Held W K) : Type 0 where
    -- the rows are those that there were
    pub same : (s : ℕ) → rows_of new.tables s ≡ rows_of old.tables s
    -- the record may be added without memory
    pub reserved : HasReserved eq section index word old.tables new.tables
    -- its section counts as written
    pub written : contains nat_cmp new.written section ≡ true
    -- beside those that did
    pub others : (s : ℕ) → s ≢ section → contains nat_cmp new.written s ≡ contains nat_cmp old.written s
    -- and its index as taken
    pub indices : AddsNumber (set_of old.indices) (set_of new.indices) index

  -- It fails for want of memory alone.
  abbrev pub GrowEnds : Held W K → Result (Held W K) Error → Type 0
  GrowEnds old (Ok new) = HasGrown old new
  GrowEnds old (Err e) = e ≡ Mem
