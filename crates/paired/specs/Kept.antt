-- How a pair is stored, and what an image of it keeps.
use Rattle.std.specs.Prelude.{◌≡◌, ℕ, ◌^◌, ◌<◌, ◌≤◌, nat_lt, if◌then◌else◌, Bool, List, [], length, map, take, IsTrue, Some, IsSome, unwrap_or}
use Rattle.std.specs.Int.{w64, to_be_bytes}
use Rattle.std.specs.Map.{lookup}
use Rattle.std.specs.List.{AllByRecursion}
use Rattle.std.specs.Str.{bytes_eq}
use Rattle.blob_device.specs.Disk.{Image}
use Rattle.value_codec.specs.declared.key.Key8.{Key8}
use Rattle.meta_store.specs.declared.copy.Contents.{Contents}
use Rattle.meta_store.specs.Format.{Format}
use Rattle.value_codec.specs.Keys.{key8_bytes}
use Rattle.sealed_pages.specs.SealedPrefix.{sealed_prefix}
use Rattle.section_manager.specs.Sections.{section_key}
use Rattle.paired.specs.Records.{Entry, records, is_sound, unbroken_prefix, entry_of}

-- which sections have which markers, ascending by the bytes of the section's number
abbrev pub MarkerMap : Type 0
MarkerMap = List (Key8 × ℕ)

-- what the copies of a pair's markers hold: that map, and a floor
abbrev pub Markers : Type 0
Markers = Contents Key8 ℕ

-- A pair stores no floor yet: its markers have the floor 0.
abbrev pub HasNoFloor : Markers → Type 0
HasNoFloor markers = markers.floor ≡ 0

-- the partitions of records and values, the size of a page and of a record, the seal, and where a record's bytes say that its frame stands; whether the
-- pair has markers, and then their partition, and how they are stored
pub record Layout : Type 1 where
  pub index : List ℕ
  pub values : List ℕ
  pub marked : Bool
  pub metadata : List ℕ
  pub page_size : ℕ
  pub record_size : ℕ
  pub seal : List ℕ → ℕ
  pub place : List ℕ → ℕ × ℕ
  pub markers : Format Key8 ℕ

-- the section has this marker
abbrev pub IsMarked : MarkerMap → ℕ → ℕ → Type 0
IsMarked markers s m = (s < 2 ^ 64) × (lookup (λ k. bytes_eq (key8_bytes k) (to_be_bytes w64 s)) markers ≡ Some m)

-- the section's marker, 0 where there is none
abbrev pub marker_of : MarkerMap → ℕ → ℕ
marker_of markers s = if nat_lt s (2 ^ 64) then unwrap_or (lookup (λ k. bytes_eq (key8_bytes k) (to_be_bytes w64 s)) markers) 0 else 0

-- the partitions and the page size are the same, and whether there are markers
pub record IsSameLayout (l m : Layout) : Type 0 where
  pub index : m.index ≡ l.index
  pub values : m.values ≡ l.values
  pub marked : m.marked ≡ l.marked
  pub metadata : m.metadata ≡ l.metadata
  pub page_size : m.page_size ≡ l.page_size

-- a blob that is not there has no bytes
abbrev pub content_at : Image → List ℕ → ℕ → List ℕ
content_at image partition s = unwrap_or (image (section_key partition s)) []

module _ (l : Layout) (image : Image) where
  -- the records of a section: those whole in the sealed prefix of its index blob
  abbrev pub stored_records : ℕ → List (List ℕ)
  stored_records s = records l.record_size (sealed_prefix l.seal l.page_size (content_at image l.index s))

  -- a record is sound where its frame stands in the section's value blob
  abbrev pub is_sound_in : ℕ → List ℕ → Bool
  is_sound_in s r = is_sound l.seal (content_at image l.values s) (l.place r)

  -- what the image keeps of a section, whose marker is this
  abbrev pub kept : ℕ → ℕ → List Entry
  kept marker s = map (entry_of l.place (content_at image l.values s)) (unbroken_prefix (is_sound_in s) marker 0 (stored_records s))

  -- what it keeps of a section by these markers
  abbrev pub kept_by : Markers → ℕ → List Entry
  kept_by markers s = kept (marker_of markers.entries s) s

  -- the marker is true: the section has an index blob and so many records, all of them sound
  pub record IsTrueMarker (s marker : ℕ) : Type 0 where
    pub index_blob : IsSome (image (section_key l.index s))
    pub enough : marker ≤ length (stored_records s)
    pub sound : AllByRecursion (λ r. IsTrue (is_sound_in s r)) (take marker (stored_records s))
