-- Why an opening of a pair refuses, and where it must not.
use Rattle.std.specs.Prelude.{◌≡◌, ◌⊎◌, ℕ, ◌+◌, ◌-◌, ◌*◌, ◌^◌, ◌<◌, ◌≤◌, List, [], length, get_or, Option, None, Some}
use Rattle.std.specs.List.{AllByRecursion}
use Rattle.blob_device.specs.Disk.{Disk, Image}
use Rattle.sealed_pages.specs.SealedPrefix.{data_from}
use Rattle.sealed_pages.specs.Reads.{IsCovered}
use Rattle.sealed_pages.specs.View.{view}
use Rattle.value_codec.specs.declared.codec.Error as codec
use Rattle.section_manager.specs.declared.journal.Damage.{Damage}
use Rattle.section_manager.specs.Sections.{section_key}
use Rattle.segments.specs.FixedFloors.{IsRefused, KeepsLast}
use Rattle.paired.specs.Kept.{Layout, content_at, stored_records}
use Rattle.paired.specs.Opening.{as_read}

-- where the value that a record names ends
abbrev pub place_end : (List ℕ → ℕ × ℕ) → List ℕ → ℕ
place_end place r = (place r).0 + (place r).1

-- A value at this place passes the greatest u64, or the end of so many bytes.
abbrev pub IsOutside : ℕ × ℕ → ℕ → Damage → Type 0
IsOutside (at, n) len x = ((2 ^ 64 ≤ at + n) × (x.kept ≡ at) × (x.wanted ≡ n))
    ⊎ ((at + n < 2 ^ 64) × (len < at + n) × (x.kept ≡ len) × (x.wanted ≡ at + n))

-- The value of the last of these records does not stand within so many bytes.
pub record IsLastOutside (place : List ℕ → ℕ × ℕ) (rs : List (List ℕ)) (len : ℕ) (x : Damage) : Type 0 where
  pub some : 0 < length rs
  pub outside : IsOutside (place (get_or rs (length rs - 1) [])) len x

-- The bytes of one of these records are refused with e.
pub record IsSomeRefused (refusal : List ℕ → Unit {0} → Option codec.Error) (rs : List (List ℕ)) (e : codec.Error) : Type 0 where
  pub position : ℕ
  pub within : position < length rs
  pub refused : refusal (get_or rs position []) tt ≡ Some e

module _ (l : Layout) where
  -- the bytes at the place of the last of n records of a section, sealed or not
  abbrev pub last_of : Disk → ℕ → ℕ → List ℕ
  last_of d s n = data_from l.page_size (view (d (section_key l.index s)).content) ((n - 1) * l.record_size) l.record_size

  -- matching slots cover it
  abbrev pub IsLastCovered : Disk → ℕ → ℕ → Type 0
  IsLastCovered d s n = IsCovered l.seal l.page_size (d (section_key l.index s)).content ((n - 1) * l.record_size) l.record_size

  -- The last of n records is sealed, and its value ends within so many bytes.
  pub record EndsWithin (d : Disk) (s n len : ℕ) : Type 0 where
    pub covered : IsLastCovered d s n
    pub within : place_end l.place (last_of d s n) ≤ len

  -- The section has its marker's records: its blob is there, the last of n records is sealed, if any, and that record's value ends within the
  -- section's values.
  pub record IsProved (d : Disk) (s n : ℕ) : Type 0 where
    pub boundary : KeepsLast l.seal l.page_size l.record_size (d (section_key l.index s)) n
    pub value : 0 < n → EndsWithin d s n (length (content_at (as_read d) l.values s))

  -- The last of n records is sealed, and its value does not stand within the section's values.
  pub record IsCutOff (d : Disk) (s n : ℕ) (x : Damage) : Type 0 where
    pub some : 0 < n
    pub covered : IsLastCovered d s n
    pub outside : IsOutside (l.place (last_of d s n)) (length (content_at (as_read d) l.values s)) x

  module _ (Marked : ℕ → ℕ → Type 0) where
    -- The section's marker is refused: its last record is not there or not sealed, or the record's value is cut off.
    pub record IsLost (d : Disk) (x : Damage) : Type 0 where
      pub items : ℕ
      pub marked : Marked x.section items
      pub why : IsRefused l.seal l.page_size l.record_size (d (section_key l.index x.section)) items x ⊎ IsCutOff d x.section items x

    -- The bytes of the last record below some marker, which is sealed, are refused with e.
    pub record IsUnreadable (refusal : List ℕ → Unit {0} → Option codec.Error) (d : Disk) (e : codec.Error) : Type 0 where
      pub section : ℕ
      pub items : ℕ
      pub marked : Marked section items
      pub some : 0 < items
      pub covered : IsLastCovered d section items
      pub refused : refusal (last_of d section items) tt ≡ Some e

  -- Each record that a section stores is spelled by one that may be added.
  abbrev pub AreSpellings : (List ℕ → Unit {0} → Option codec.Error) → Image → Type 0
  AreSpellings refusal image = (s : ℕ) → s < 2 ^ 64 → AllByRecursion (λ r. refusal r tt ≡ None) (stored_records l image s)
