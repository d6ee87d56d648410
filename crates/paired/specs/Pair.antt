-- What a tracked pair means: per section a list of records with their values. When it may be used.
use Rattle.std.specs.Prelude.{◌≡◌, ◌≢◌, ◌⊎◌, ℕ, ◌*◌, ◌/◌, ◌-◌, ◌^◌, ◌<◌, ◌≤◌, false, List, take, IsTrue, Option, None, Some, unwrap_or}
use Rattle.std.specs.List.{AllByRecursion}
use Rattle.blob_device.specs.Disk.{Blob, Disk, longest}
use Rattle.blob_device.specs.Opened.{OpenedList}
use Rattle.sealed_pages.specs.declared.page_blob.PageBlob.{PageBlob}
use Rattle.sealed_pages.specs.declared.write_blob.WriteBlob.{WriteBlob}
use Rattle.section_manager.specs.declared.buffer.SectionBuffer as buffer
use Rattle.section_manager.specs.declared.unsealed.WriteFactory.{WriteFactory}
use Rattle.section_manager.specs.Setting.{Setting}
use Rattle.section_manager.specs.Sections.{Sections, section_key, IsHeld}
use Rattle.segments.specs.FixedLists.{Lists, IsJournal}
use Rattle.segments.specs.FixedLists as fixed
use Rattle.meta_store.specs.Store.{Store, Stands, MayBeSynced, contents_of}
use Rattle.meta_store.specs.Calls.{IsOpened}
use Rattle.value_codec.specs.declared.key.Key8.{Key8}
use Rattle.paired.specs.glob.Sections.{IsGlob}
use Rattle.paired.specs.glob.Sections as glob
use Rattle.paired.specs.Places.{Follow, end_of}
use Rattle.paired.specs.Records.{Entry, records, entries_of, is_sound}
use Rattle.paired.specs.Kept.{Layout, HasNoFloor, IsMarked, marker_of}

-- What a tracked pair shows: how it is stored, its index, its values, its markers, and the length at the last completed sync or opening
-- of each section whose marker is another number.
pub record Pair (F B : Type 0) : Type 1 where
  pub layout : Layout
  pub index : Lists F B
  pub values : Sections WriteFactory WriteBlob
  pub store : Store Key8 ℕ
  pub trailing : ℕ → Option ℕ

-- a section's length at its last completed sync or opening; 0 where it is not held
abbrev pub synced_length : {F B : Type 0} → Pair F B → ℕ → ℕ
synced_length p s = unwrap_or (p.trailing s) (marker_of p.store.entries s)

-- no crash leaves a byte in the blob
abbrev pub HasNoBytes : Blob → Type 0
HasNoBytes b = longest b ≡ 0

module _ {F S : Type 0} {gs : _} (p : Pair F (PageBlob S gs)) where
  -- how many records a section has
  abbrev pub length_of : ℕ → ℕ
  length_of s = fixed.section_size p.index.sections s / p.layout.record_size

  module _ (d : Disk) where
    -- a section's records
    abbrev pub records_of : ℕ → List (List ℕ)
    records_of s = records p.layout.record_size (fixed.section_bytes p.index.sections d s)

    -- with their values: the section's list
    abbrev pub list_of : ℕ → List Entry
    list_of s = entries_of p.layout.place p.layout.record_size (fixed.section_bytes p.index.sections d s) (glob.section_bytes p.values d s)

    -- The markers are synced.
    pub record IsPairOn : Type 0 where
      pub markers : Stands p.layout.markers p.store (contents_of p.store) d

    -- Of each section, the values stand one behind the other up to the section's end, each sound, and what was synced has settled. No crash
    -- brings bytes back into an index blob of a section that is not held.
    pub record IsSoundOn : Type 0 where
      pub places : (s : ℕ) → Follow p.layout.place 0 (records_of s) (glob.section_size p.values s)
      pub sound : (s : ℕ) → AllByRecursion (λ r. IsTrue (is_sound p.layout.seal (glob.section_bytes p.values d s) (p.layout.place r))) (records_of s)
      pub values_settled : (s : ℕ) → end_of p.layout.place 0 (take (synced_length p s) (records_of s)) ≤ glob.settled_size p.values s
      pub absent : (s : ℕ) → s < 2 ^ 64 → p.index.sections.held s ≡ None → HasNoBytes (d (section_key p.layout.index s))

    -- That, and its markers have no floor: so what crashes leave of it is told.
    pub record IsSafeOn : Type 0 where
      pub sound : IsSoundOn
      pub floor : HasNoFloor (contents_of p.store)

  -- What was synced of the records has settled.
  pub record HasSettled : Type 0 where
    pub index : (s : ℕ) (u : PageBlob S gs) → p.index.sections.held s ≡ Some u → synced_length p s * p.layout.record_size ≤ u.settled
    pub lengths : (s : ℕ) → synced_length p s ≤ length_of s

  -- A sync of the named sections moves the marker of the section: it is not active, and what is then synced of it is another number.
  abbrev pub IsMoving : (ℕ → Type 0) → (ℕ → Type 0) → ℕ → Type 0
  IsMoving IsNamed IsActive s = (s < 2 ^ 64) × (IsActive s → ⊥)
      × ((IsNamed s × (length_of s ≢ marker_of p.store.entries s)) ⊎ ((IsNamed s → ⊥) × (synced_length p s ≢ marker_of p.store.entries s)))

-- No two of the three partitions are the same.
pub record AreApart (l : Layout) : Type 0 where
  pub values : l.index ≢ l.values
  pub metadata : l.index ≢ l.metadata
  pub both : l.values ≢ l.metadata

-- The markers of held sections are at most what was synced; no other section has one. What trails is another number than the marker.
pub record AreMarkers {F B : Type 0} (p : Pair F B) : Type 0 where
  pub marked : (s m : ℕ) → IsMarked p.store.entries s m → IsHeld p.index.sections s × (m ≤ synced_length p s)
  pub trails : (s n : ℕ) → p.trailing s ≡ Some n → IsHeld p.index.sections s × (n ≢ marker_of p.store.entries s)

-- All sections of both partitions are held, each takes an append, no marker stands in for a replay of one, and each with values has records.
pub record AreWhole {F S : Type 0} {gs : _} (p : Pair F (PageBlob S gs)) : Type 0 where
  pub recovered : (s : ℕ) → p.index.unrecovered s ≡ false
  pub unfloored : (s : ℕ) → p.index.floor_of s ≡ 0
  pub index_ceiling : p.index.sections.ceiling ≡ 2 ^ 64 - 1
  pub values_ceiling : p.values.ceiling ≡ 2 ^ 64 - 1
  pub index_known : (s : ℕ) → p.index.sections.unopened s ≡ None
  pub values_known : (s : ℕ) → p.values.unopened s ≡ None
  pub values_held : (s : ℕ) → IsHeld p.values s → IsHeld p.index.sections s
  pub floors : p.values.floor ≤ p.index.sections.floor

-- The pair may be used: index and values are those of their partitions, and nothing is staged of the markers.
pub record IsPair {F S : Type 0} {gs : _} (g : buffer.Ghosts (PageBlob S gs)) (gives : F → Setting) (h : buffer.Ghosts WriteBlob) (takes : WriteFactory → Setting) (told : Type 0)
    (p : Pair F (PageBlob S gs)) (opened : OpenedList) (d : Disk) : Type 0 where
  pub index : IsJournal g gives p.layout.seal p.layout.record_size told p.index opened d
  pub values : IsGlob h takes told p.values opened d
  pub apart : AreApart p.layout
  pub whole : AreWhole p
  pub markers : AreMarkers p
  pub settled : HasSettled p
  pub metadata_opened : IsOpened p.store.partition opened
  pub storable : MayBeSynced p.layout.markers p.store.entries
  pub synced : p.store.staged ≡ false
  pub disk : told → IsPairOn p d
