-- What lookups of all records at an index promise.
use Rattle.std.specs.Prelude.{◌≡◌, ◌⊎◌, ⊤, ℕ, ◌+◌, ◌*◌, ◌/◌, Bool, List, map, Option, None, Some, Result, Ok, Err, IfOk, IfSome, IsSomeAnd, option_map, slice_get, false}
use Rattle.std.specs.List.{AllByRecursion}
use Rattle.blob_device.specs.Disk.{Key}
use Rattle.blob_device.specs.Footprint.{Footprint, NoBound}
use Rattle.blob_device.specs.Timeline.{disk}
use Rattle.blob_device.specs.declared.device.Device as device
use Rattle.section_manager.specs.Sections.{section_key}
use Rattle.sealed_pages.specs.Reading.{Unchanged}
use Rattle.sealed_pages.specs.declared.page_blob.PageBlob.{PageBlob}
use Rattle.paired.specs.Crashes.{IsBlobOf, IsIndexOf}
use Rattle.paired.specs.Kept.{Layout}
use Rattle.paired.specs.Pair.{list_of}
use Rattle.archives.specs.Changes.{AsksAll, AsksAt, IsUnanswered, outcome, state_over}
use Rattle.archives.specs.Finding.{Index, IsIn}
use Rattle.archives.specs.Finding as wanted_by
use Rattle.archives.specs.Gets.{HasEnds, HasNoRecord, HasToLookIn, IsLookupCause, ReadEnds, Reads, ReadsValueAlone, SomeToLookAt}
use Rattle.archives.specs.IndexRecord.{IsInRange, key_of, spelling_of}
use Rattle.archives.specs.Machine.{all_entries, entries_at, section_of}
use Rattle.archives.specs.Prunable.{HasToLook, IsOver, Prunable, filing_by, meaning}
use Rattle.archives.specs.Rows.{count_with}
use Rattle.archives.specs.declared.error.Error.{Error}
use Rattle.archives.specs.declared.prunable.index_record.IndexRecord.{IndexRecord}

-- of a section so many records, without their values
abbrev pub ReadsRecordsAlone : Layout → ℕ → ℕ → Key → ℕ → Type 0
ReadsRecordsAlone l s count q n =
    (q ≡ section_key l.index s) × (n ≡ count * (l.record_size / l.page_size + 2))

-- of a section so many records and their values
abbrev pub ReadsRecords : Layout → ℕ → ℕ → Key → ℕ → Type 0
ReadsRecords l s count q n =
    ReadsRecordsAlone l s count q n ⊎ ((q ≡ section_key l.values s) × (n ≡ count))

-- of a section one record, without its value
abbrev pub ReadsRecordAlone : Layout → ℕ → Key → ℕ → Type 0
ReadsRecordAlone l s q n = (q ≡ section_key l.index s) × (n ≡ l.record_size / l.page_size + 2)

module _ {A V F S D : Type 0} {gs : _} (p : Prunable A V F (PageBlob S gs))
    (dev : device.Ghosts D) where
  -- how many records have the index
  abbrev pub count_at : A → ℕ → ℕ
  count_at a index = count_with ((p.see a).rows (section_of (p.see a).items index)) index

  -- What a lookup of all records at an index reads, and when it reads nothing.
  pub record LooksAt (a : A) (index : ℕ) (Nothing : Type 0) (old new : D) : Type 0 where
    -- the blobs of the index's section are read, and no others: each record once, and each value once
    pub footprint : Footprint dev
        (IsBlobOf (filing_by p a).layout (HasToLookIn p dev a (Index index)))
        (ReadsRecords (filing_by p a).layout (section_of (p.see a).items index)
        (count_at a index)) old new
    -- where no record has the index, the device is not touched
    pub none : (SomeToLookAt p dev a (Index index) (λ s at. ⊤) → ⊥) → Nothing × (new ≡ old)

  module _ {K : Type 0} (key_bytes : K → List ℕ) where
    -- ---- one record

    -- record `at` of section s, on the disk, has this key
    abbrev pub HasKeyThere : A → ℕ → ℕ → K → D → Type 0
    HasKeyThere a s at key old = dev.Tells
        → IsSomeAnd (slice_get (list_of (p.see a).pair (disk (dev.time old)) s) at)
        (λ e. key_of (p.see a).key_size e.stored ≡ key_bytes key)

    -- Record `at` of section s was read.
    pub record HasRecord (a : A) (s at : ℕ) (r : IndexRecord K) (old : D) : Type 0 where
      -- it is the one on the disk
      pub stored : dev.Tells
          → IsSomeAnd (slice_get (list_of (p.see a).pair (disk (dev.time old)) s) at)
          (λ e. e.stored ≡ spelling_of key_bytes r)
      -- its numbers fit into their bytes
      pub fits : IsInRange r

    abbrev pub RecordEnds : A → ℕ → ℕ → Result (IndexRecord K) Error → D → D → Type 0
    RecordEnds a s at (Ok r) old new = HasRecord a s at r old
    RecordEnds a s at (Err e) old new = HasNoRecord p dev a e old new

    -- A reading of record `at` of section s, without its value.
    pub record ReadsRecordAt (a : A) (s at : ℕ) (result : Result (IndexRecord K) Error)
        (old new : D) : Type 0 where
      -- the archive may still be used
      pub over : IsOver p dev a new
      -- no blob's history has changed
      pub unchanged : dev.Tells → Unchanged (dev.time old) (dev.time new)
      -- only the blob of the section's records is read, for one of them
      pub footprint : Footprint dev (λ q. q ≡ section_key (filing_by p a).layout.index s)
          (ReadsRecordAlone (filing_by p a).layout s) old new
      -- how it ended
      pub ends : RecordEnds a s at result old new

    -- A reading of the value of a record r of section s that was read before.
    pub record ReadsValueOf (a : A) (s : ℕ) (r : IndexRecord K) (result : Result V Error)
        (old new : D) : Type 0 where
      -- the archive may still be used
      pub over : IsOver p dev a new
      -- no blob's history has changed
      pub unchanged : dev.Tells → Unchanged (dev.time old) (dev.time new)
      -- only the blob of the section's values is read, once
      pub footprint : Footprint dev (λ q. q ≡ section_key (filing_by p a).layout.values s)
          (ReadsValueAlone (filing_by p a).layout s) old new
      -- how it ended, where the record still stands on the disk
      pub ends : (at : ℕ) → HasRecord a s at r old → ReadEnds p dev a s at result old new

    -- A reading of key and value of record `at` of section s.
    pub record ReadsEntry (a : A) (s at : ℕ) (result : Result (K × V) Error)
        (old new : D) : Type 0 where
      -- it is a reading of the value
      pub reads : Reads p dev a s at (outcome (λ e. e.1) result) old new
      -- and the key is the record's
      pub key : IfOk result (λ e. HasKeyThere a s at e.0 old)

    -- ---- a record with a key

    -- The record r of section s has the key.
    pub record HasFound (a : A) (key : List ℕ) (s : ℕ) (r : IndexRecord K) (old : D) : Type 0 where
      -- its position
      pub at : ℕ
      -- a lookup has to look there: its key has the word
      pub near : HasToLook p a (wanted_by.Key key) s at
      -- it is the one on the disk
      pub stands : HasRecord a s at r old
      -- and it has the whole key
      pub same : key_bytes r.key ≡ key

    -- no record has it
    abbrev pub HasNotFound : A → List ℕ → D → Type 0
    HasNotFound a key old = dev.Tells → (s : ℕ) → IsIn (p.see a) (wanted_by.Key key) s → ⊥

    abbrev pub FindEnds : A → List ℕ → Result (Option (ℕ × IndexRecord K)) Error → D → D → Type 0
    FindEnds a key (Ok (Some found)) old new = HasFound a key found.0 found.1 old
    FindEnds a key (Ok None) old new = HasNotFound a key old
    FindEnds a key (Err e) old new = HasNoRecord p dev a e old new

    -- A search for a record with the key, without its value.
    pub record FindsKey (a : A) (key : List ℕ) (result : Result (Option (ℕ × IndexRecord K)) Error)
        (old new : D) : Type 0 where
      -- the archive may still be used
      pub over : IsOver p dev a new
      -- no blob's history has changed
      pub unchanged : dev.Tells → Unchanged (dev.time old) (dev.time new)
      -- only blobs of records are read, of sections with a record whose key has the word
      pub footprint : Footprint dev
          (IsIndexOf (filing_by p a).layout (HasToLookIn p dev a (wanted_by.Key key))) NoBound
          old new
      -- where there is no such record, the device is not touched
      pub none : (SomeToLookAt p dev a (wanted_by.Key key) (λ s at. ⊤) → ⊥)
          → (result ≡ Ok None) × (new ≡ old)
      -- how it ended
      pub ends : FindEnds a key result old new

    -- ---- keys and values of all records at an index

    -- these are key and value of all records at the index, in list order, and each value is one that may be
    -- put
    pub record HasEntries (a : A) (index : ℕ) (found : Option (List (K × V)))
        (old : D) : Type 0 where
      pub entries : dev.Tells → option_map (map (λ e. (key_bytes e.0, p.spelling e.1))) found
          ≡ all_entries (entries_at (p.see a).items (state_over (meaning p) dev a old) index)
      pub accepted : IfSome found (AllByRecursion (λ e. p.Accepts a e.1))

    -- They cannot be read.
    pub record HasNoEntries (a : A) (index : ℕ) (e : Error) (old new : D) : Type 0 where
      -- why
      pub cause : IsLookupCause p dev a (Index index) old new e
      -- over a sound archive only memory or the device is the cause
      pub unanswered : IsUnanswered (meaning p) dev a e old new

    abbrev pub EntriesEnd : A → ℕ → Result (Option (List (K × V))) Error → D → D → Type 0
    EntriesEnd a index (Ok found) old new = HasEntries a index found old
    EntriesEnd a index (Err e) old new = HasNoEntries a index e old new

    -- Key and value of all records at the index.
    pub record GetsEntries (a : A) (index : ℕ) (result : Result (Option (List (K × V))) Error)
        (old new : D) : Type 0 where
      -- the archive may still be used
      pub over : IsOver p dev a new
      -- no blob's history has changed
      pub unchanged : dev.Tells → Unchanged (dev.time old) (dev.time new)
      -- what is read
      pub looks : LooksAt a index (result ≡ Ok None) old new
      -- how it ended
      pub ends : EntriesEnd a index result old new

  -- ---- values

  abbrev pub AllEnd : A → ℕ → Result (Option (List V)) Error → D → D → Type 0
  AllEnd a index (Ok found) old new = IfSome found (AllByRecursion (p.Accepts a))
  AllEnd a index (Err e) old new = IsLookupCause p dev a (Index index) old new e

  -- The values of all records at the index.
  pub record GetsAll (a : A) (index : ℕ) (result : Result (Option (List V)) Error)
      (old new : D) : Type 0 where
    -- what every archive promises that has several records at an index
    pub asks : AsksAll (meaning p) dev p.spelling a index result old new
    -- what is read
    pub looks : LooksAt a index (result ≡ Ok None) old new
    -- why there is no answer, or that the values found are such as may be put
    pub ends : AllEnd a index result old new

  -- ---- index and key

  -- Whether one record has both this index and this key. No value is read.
  pub record HasAt (a : A) (index : ℕ) (key : List ℕ) (result : Result Bool Error)
      (old new : D) : Type 0 where
    -- what every archive promises that has several records at an index
    pub asks : AsksAt (meaning p) dev a index key result old new
    -- only the blob of the records of the index's section is read, and each record at the index once at most
    pub footprint : Footprint dev
        (IsIndexOf (filing_by p a).layout (HasToLookIn p dev a (Index index)))
        (ReadsRecordsAlone (filing_by p a).layout (section_of (p.see a).items index)
        (count_at a index)) old new
    -- where no record has the index, the device is not touched
    pub none : (SomeToLookAt p dev a (Index index) (λ s at. ⊤) → ⊥)
        → (result ≡ Ok false) × (new ≡ old)
    -- why there is no answer
    pub ends : HasEnds p dev a result old new
