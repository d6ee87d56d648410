-- What lookups promise.
use Rattle.std.specs.Prelude.{◌≡◌, ◌⊎◌, ⊤, ℕ, ◌+◌, ◌/◌, ◌^◌, ◌<◌, ◌≤◌, Bool, false, List, Option, Some, None, Result, Ok, Err, IfSome, IsSomeAnd, slice_get}
use Rattle.blob_device.specs.Counts.{Rose}
use Rattle.blob_device.specs.Disk.{Disk, Key}
use Rattle.blob_device.specs.Footprint.{Footprint, NoBound}
use Rattle.blob_device.specs.Timeline.{disk}
use Rattle.blob_device.specs.declared.device.Device as device
use Rattle.blob_device.specs.declared.runtime.RError.TheVariants as runtime
use Rattle.section_manager.specs.Sections.{key_of, section_key}
use Rattle.section_manager.specs.declared.journal.Error.TheVariants as journal
use Rattle.segments.specs.FixedReading.{IsDamaged}
use Rattle.sealed_pages.specs.Reading.{Unchanged}
use Rattle.sealed_pages.specs.declared.page_blob.PageBlob.{PageBlob}
use Rattle.paired.specs.Crashes.{IsIndexOf}
use Rattle.paired.specs.Frames.{HasFrame, IsBroken}
use Rattle.paired.specs.glob.Sections as glob
use Rattle.paired.specs.Kept.{Layout}
use Rattle.paired.specs.Pair.{list_of}
use Rattle.archives.specs.Archives.{Archive}
use Rattle.archives.specs.Changes.{AsksValue, AsksWhether, IsUnanswered}
use Rattle.archives.specs.Finding.{IsIn, Wanted}
use Rattle.archives.specs.Finding as wanted_by
use Rattle.archives.specs.Prunable.{HasToLook, IsOver, Prunable, filing_by, meaning}
use Rattle.archives.specs.Reading.{NamesPlace}
use Rattle.archives.specs.declared.error.Error.{Error}
use Rattle.archives.specs.declared.error.Error.TheVariants.{Journal, Mem}

-- ---- why a value cannot be read

module _ {F S : Type 0} {gs : _} (a : Archive F (PageBlob S gs)) (d : Disk) where
  -- Why record p of section s, with its value, cannot be read on this disk, where `told`. AtSome says of which places
  -- there is one with a property.
  module _ (told : Type 0) (AtSome : (ℕ → ℕ → Type 0) → Type 0) (before now : ℕ) where
    abbrev pub IsReadCause : Error → Type 0
    -- want of memory is free
    IsReadCause Mem = ⊤
    -- the device failed
    IsReadCause (Journal (journal.Runtime runtime.Fault)) = Rose before now
    -- no matching slot covers the record's page as far as the record goes
    IsReadCause (Journal (journal.Runtime (runtime.InvalidChecksum k))) = told → AtSome (λ s p.
        IsSomeAnd (a.pair.index.sections.held s) (λ u. IsDamaged a.pair.layout.record_size a.pair.layout.seal u
        (d (key_of a.pair.index.sections s)).content p k))
    -- there are no values of the section
    IsReadCause (Journal (journal.SectionOutOfRange n)) = told → AtSome (λ s p. (n ≡ s) × (a.pair.values.held s ≡ None))
    -- the place that the record names has no four bytes, or ends behind the section's values, or passes the greatest
    -- u64
    IsReadCause (Journal (journal.Runtime runtime.BlobInsufficientLength)) = told → AtSome (λ s p.
        NamesPlace a d s p (λ at n. (glob.section_size a.pair.values s < at + n) ⊎ (n < 4)))
    IsReadCause (Journal (journal.Runtime runtime.OffsetOverflow)) =
        told → AtSome (λ s p. NamesPlace a d s p (λ at n. 2 ^ 64 ≤ at + n))
    -- the frame there ends in the seal `stored`, and the seal of its bytes is `computed`
    IsReadCause (Journal (journal.ChecksumMismatch stored computed)) = told → AtSome (λ s p.
        NamesPlace a d s p (λ at n.
        IsBroken a.pair.layout.seal (glob.section_bytes a.pair.values d s) at n stored computed))
    -- the codec refuses what is sealed there
    IsReadCause (Journal (journal.Codec e)) = told → AtSome (λ s p. NamesPlace a d s p (λ at n.
        (spelled : List ℕ) × HasFrame a.pair.layout.seal (glob.section_bytes a.pair.values d s) at n spelled
        × (a.refusal spelled ≡ Some e)))
    -- a record that is looked up is there: so it is on a device that tells its disk
    IsReadCause (Journal (journal.ItemOutOfRange n)) = told → ⊥
    -- no other comes
    IsReadCause e = ⊥

-- Why a record cannot be read without its value, where `told`. It is there, whole, so on a device that tells its disk
-- only memory or the device is the cause.
abbrev pub IsRecordCause : (told : Type 0) → (before now : ℕ) → Error → Type 0
-- want of memory is free
IsRecordCause told before now Mem = ⊤
-- the device failed
IsRecordCause told before now (Journal (journal.Runtime runtime.Fault)) = Rose before now
-- its page is damaged, it is not there, or its bytes are no record: not on such a device
IsRecordCause told before now (Journal (journal.Runtime (runtime.InvalidChecksum k))) = told → ⊥
IsRecordCause told before now (Journal (journal.SectionOutOfRange n)) = told → ⊥
IsRecordCause told before now (Journal (journal.ItemOutOfRange n)) = told → ⊥
IsRecordCause told before now (Journal (journal.Codec e)) = told → ⊥
-- no other comes: no value is read
IsRecordCause told before now e = ⊥

-- one of the two blobs of a section
abbrev pub IsSectionBlob : Layout → ℕ → Key → Type 0
IsSectionBlob l s q = (q ≡ section_key l.index s) ⊎ (q ≡ section_key l.values s)

-- ---- how often is read

-- one record and its value, of a section
abbrev pub ReadsRecord : Layout → ℕ → Key → ℕ → Type 0
ReadsRecord l s q n =
    ((q ≡ section_key l.index s) × (n ≡ l.record_size / l.page_size + 2)) ⊎ ((q ≡ section_key l.values s) × (n ≡ 1))

-- one value of a section, without its record
abbrev pub ReadsValueAlone : Layout → ℕ → Key → ℕ → Type 0
ReadsValueAlone l s q n = (q ≡ section_key l.values s) × (n ≡ 1)

-- the blobs of records of sections that P names, and that of the values of one section
abbrev pub IsIndexOrValues : Layout → (ℕ → Type 0) → Option ℕ → Key → Type 0
IsIndexOrValues l P section q = IsIndexOf l P q ⊎ IsSomeAnd section (λ s. q ≡ section_key l.values s)

-- By index that, of each section. By key one value of each, and of records nothing is said: several may have the wanted
-- word.
abbrev pub ReadsWanted : Layout → Wanted → Key → ℕ → Type 0
ReadsWanted l (wanted_by.Index i) q n = (s : ℕ) × (s < 2 ^ 64) × ReadsRecord l s q n
ReadsWanted l (wanted_by.Key k) q n = (s : ℕ) × (s < 2 ^ 64) × ReadsValueAlone l s q n

-- ---- the calls

module _ {A V F S D : Type 0} {gs : _} (p : Prunable A V F (PageBlob S gs)) (dev : device.Ghosts D) (a : A) where
  -- ---- one record

  -- The value of record `at` of section s, which is on the disk.
  pub record HasRead (s at : ℕ) (v : V) (old : D) : Type 0 where
    -- the record's value, as spelled
    pub value : dev.Tells
        → IsSomeAnd (slice_get (list_of (p.see a).pair (disk (dev.time old)) s) at) (λ e. e.value ≡ p.spelling v)
    -- the configuration allows it
    pub accepted : p.Accepts a v

  -- It cannot be read.
  pub record HasNotRead (s at : ℕ) (e : Error) (old new : D) : Type 0 where
    -- why
    pub cause : IsReadCause (p.see a) (disk (dev.time old)) dev.Tells (λ P. P s at) (dev.faults old) (dev.faults new) e
    -- over a sound archive only memory or the device is the cause
    pub unanswered : IsUnanswered (meaning p) dev a e old new

  -- The record itself cannot be read.
  pub record HasNoRecord (e : Error) (old new : D) : Type 0 where
    -- why
    pub cause : IsRecordCause dev.Tells (dev.faults old) (dev.faults new) e
    -- over a sound archive only memory or the device is the cause
    pub unanswered : IsUnanswered (meaning p) dev a e old new

  abbrev pub ReadEnds : ℕ → ℕ → Result V Error → D → D → Type 0
  ReadEnds s at (Ok v) old new = HasRead s at v old
  ReadEnds s at (Err e) old new = HasNotRead s at e old new

  -- A reading of the value of record `at` of section s.
  pub record Reads (s at : ℕ) (result : Result V Error) (old new : D) : Type 0 where
    -- the archive may still be used
    pub over : IsOver p dev a new
    -- no blob's history has changed
    pub unchanged : dev.Tells → Unchanged (dev.time old) (dev.time new)
    -- only the section's two blobs are read, each so often
    pub footprint : Footprint dev (IsSectionBlob (filing_by p a).layout s)
        (ReadsRecord (filing_by p a).layout s) old new
    -- how it ended
    pub ends : ReadEnds s at result old new

  -- ---- what is wanted

  -- some record at which a lookup has to look, with a property
  abbrev pub SomeToLookAt : Wanted → (ℕ → ℕ → Type 0) → Type 0
  SomeToLookAt wanted P = (s at : ℕ) × HasToLook p a wanted s at × P s at

  -- a section with one
  abbrev pub HasToLookIn : Wanted → ℕ → Type 0
  HasToLookIn wanted s = (at : ℕ) × HasToLook p a wanted s at

  -- Why a lookup gave no answer: a record at which it had to look cannot be read.
  abbrev pub IsLookupCause : Wanted → D → D → Error → Type 0
  IsLookupCause wanted old new =
      IsReadCause (p.see a) (disk (dev.time old)) dev.Tells (SomeToLookAt wanted) (dev.faults old) (dev.faults new)

  abbrev pub GetEnds : Wanted → Result (Option V) Error → D → D → Type 0
  GetEnds wanted (Ok found) old new = IfSome found (p.Accepts a)
  GetEnds wanted (Err e) old new = IsLookupCause wanted old new e

  -- The value of what is wanted.
  pub record Gets (wanted : Wanted) (result : Result (Option V) Error) (old new : D) : Type 0 where
    -- what every archive promises
    pub asks : AsksValue (meaning p) dev p.spelling a wanted result old new
    -- the section of which a value is read, where one is
    pub section : Option ℕ
    -- one of its records is wanted, where the device tells; and there it has to look
    pub there : IfSome section (λ s. HasToLookIn wanted s × (dev.Tells → IsIn (p.see a) wanted s))
    -- Only blobs of records are read, of sections with a record at which it has to look; and of that section the values,
    -- once. By index one record is read.
    pub footprint : Footprint dev (IsIndexOrValues (filing_by p a).layout (HasToLookIn wanted) section)
        (ReadsWanted (filing_by p a).layout wanted) old new
    -- where there is no such record, the device is not touched
    pub none : (SomeToLookAt wanted (λ s at. ⊤) → ⊥) → (result ≡ Ok None) × (new ≡ old)
    -- why there is no answer, or that the value found is one that may be put
    pub ends : GetEnds wanted result old new

  abbrev pub HasEnds : Result Bool Error → D → D → Type 0
  HasEnds (Ok flag) old new = ⊤
  HasEnds (Err e) old new = IsRecordCause dev.Tells (dev.faults old) (dev.faults new) e

  -- Whether it is there. No value is read, and no blob but those of sections with a record at which it has to look.
  pub record Has (wanted : Wanted) (result : Result Bool Error) (old new : D) : Type 0 where
    -- what every archive promises
    pub asks : AsksWhether (meaning p) dev a wanted result old new
    -- only blobs of records are read, of sections with a record at which it has to look
    pub footprint : Footprint dev (IsIndexOf (filing_by p a).layout (HasToLookIn wanted)) NoBound old new
    -- where there is no such record, the device is not touched
    pub none : (SomeToLookAt wanted (λ s at. ⊤) → ⊥) → (result ≡ Ok false) × (new ≡ old)
    -- why there is no answer
    pub ends : HasEnds result old new
