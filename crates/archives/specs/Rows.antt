-- What an archive's tables in memory show of its records: a row for each, by section and position.
use Rattle.std.specs.Prelude.{◌≡◌, ◌≢◌, ℕ, ◌≤◌, ◌==◌, Bool, List, [], length, map, filter}
use Rattle.std.specs.List.{AllByRecursion, list_any}
use Rattle.std.specs.List.Sorted.{IsStrictlySortedBy}
use Rattle.std.specs.Ordering.{nat_cmp}
use Rattle.record_tables.specs.Rows as held
pub use Rattle.record_tables.specs.Rows.{FewerThan, HasRoom}
use Rattle.record_tables.specs.Tables as tables
use Rattle.record_tables.specs.declared.tables.Tables.{Tables}
use Rattle.archives.specs.IndexRecord.{index_of, key_of}
use Rattle.archives.specs.Machine.{section_of}

-- as the tables show a record, with the bytes of its key
abbrev pub Row : Type 0
Row = held.Row (List ℕ)

-- the row of a record, by its bytes, in which the key has n
abbrev pub row_in : ℕ → List ℕ → Row
row_in n r = record { index = index_of r; key = key_of n r }

-- a row has the index, which is in the index's section
abbrev pub has_row : ℕ → (ℕ → List Row) → ℕ → Bool
has_row items rows index = list_any (λ r. r.index == index) (rows (section_of items index))

-- how many rows have the index
abbrev pub count_with : List Row → ℕ → ℕ
count_with rows index = length (filter (λ r. r.index == index) rows)

-- ---- the tables

module _ {K : Type 0} (key_bytes : K → List ℕ) where
  -- the row of a record, whose key is seen as its bytes
  abbrev pub row_of : held.Row K → Row
  row_of r = record { index = r.index; key = key_bytes r.key }

  module _ {W : Type 0} where
    -- the rows of a section, by position
    abbrev pub rows_of : Tables W K → ℕ → List Row
    rows_of t s = map row_of (tables.rows_of t s)

    -- The tables answer lookups, where keys have these words.
    pub record AreTables (eq : W → W → Bool) (word_of : List ℕ → W) (t : Tables W K) : Type 0 where
      -- by index
      pub order : tables.AreInOrder (λ _. ⊥) t
      -- and by key
      pub words : tables.HaveWords eq (λ key. word_of (key_bytes key)) t

-- ---- within limits

-- each row lies in its section, and the limits are kept
pub record AreWithin (items sections per_section : ℕ) (rows : ℕ → List Row) : Type 0 where
  pub in_section : (s : ℕ) → AllByRecursion (λ r. section_of items r.index ≡ s) (rows s)
  pub few_sections : (ss : List ℕ) → IsStrictlySortedBy nat_cmp ss → AllByRecursion (λ s. rows s ≢ []) ss
      → length ss ≤ sections
  pub few_records : (s : ℕ) → length (rows s) ≤ per_section
