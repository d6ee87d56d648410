-- Why an opening fails, by the results of calls; and as the relation has it, by the error.
use Rattle.std.proofs.Common.{◌≡◌, ◌≢◌, ◌⊎◌, inl, inr, sym, subst, ℕ, ◌*◌, ◌<◌, ◌^◌, List, length, Result, Err}
use Rattle.std.specs.Result.{IsErrOf}
use Rattle.blob_device.specs.Counts.{Rose}
use Rattle.blob_device.specs.Disk.{Disk}
use Rattle.blob_device.specs.Timeline.{disk}
use Rattle.blob_device.specs.declared.device.Device as device
use Rattle.blob_device.specs.declared.runtime.RError.TheVariants as runtime
use Rattle.value_codec.specs.declared.codec.Error as codec
use Rattle.meta_store.specs.Opening.{PairOn}
use Rattle.meta_store.specs.declared.error.Error.TheVariants as metadata
use Rattle.meta_store.specs.declared.error.Side.{Side}
use Rattle.sealed_pages.specs.Reads.{IsShort}
use Rattle.section_manager.specs.Refusing.{IsForeign}
use Rattle.section_manager.specs.Sections.{section_key}
use Rattle.section_manager.specs.declared.journal.Damage.{Damage}
use Rattle.section_manager.specs.declared.journal.Error.TheVariants as journal
use Rattle.paired.specs.Kept.{IsMarked, Markers, marker_of, stored_records}
use Rattle.paired.specs.Crashes.{HoldMarkers}
use Rattle.paired.specs.Opening.{as_read}
use Rattle.paired.specs.OpeningRefusing.{IsLost}
use Rattle.archives.specs.Filing.{Filing, kept_entries}
use Rattle.archives.specs.Opening.{HasNoVersion, HasStray, IsPastLimits, OfKept}
use Rattle.archives.specs.Opens.{IsOpeningCause, IsOpeningFailure}
use Rattle.archives.specs.declared.error.Error.{Error}
use Rattle.archives.specs.declared.error.Error.TheVariants.{Full, Journal, Mem, Metadata, RecordCorrupted}
use Rattle.archives.proofs.read.Causes.{HasFailed}

-- the device failed in a call of the markers, and its count of faults rose
abbrev pub HasLostMarkers : {T : Type 0} → Result T Error → ℕ → ℕ → Type 0
HasLostMarkers result before now = IsErrOf result (Metadata (metadata.Runtime runtime.Fault)) × Rose before now

module _ {T : Type 0} (result : Result T Error) where
  -- the copies of the markers, a blob's name, a marked section, a page, a record, or the limits refuse
  abbrev pub IsOpeningError : Type 0
  IsOpeningError =
      ((side : Side) × IsErrOf result (Metadata (metadata.Corruption side)))
      ⊎ (((n : List ℕ) × IsErrOf result (Journal (journal.InvalidBlobName n)))
      ⊎ (((x : Damage) × IsErrOf result (Journal (journal.Corruption x)))
      ⊎ (((k : ℕ) × IsErrOf result (Journal (journal.Runtime (runtime.InvalidChecksum k))))
      ⊎ (((n : ℕ) × IsErrOf result (Journal (journal.ItemOutOfRange n)))
      ⊎ (((e : codec.Error) × IsErrOf result (Journal (journal.Codec e)))
      ⊎ (IsErrOf result RecordCorrupted ⊎ IsErrOf result Full))))))

  -- Each of them has its cause, on the disk as it was, or, of a page that is read, as it is now.
  pub record HasCause (f : Filing) (from to : Disk) : Type 0 where
    pub corrupt : (side : Side) → IsErrOf result (Metadata (metadata.Corruption side)) → PairOn f.layout.markers f.layout.metadata from (Err side)
    pub named : (n : List ℕ) → IsErrOf result (Journal (journal.InvalidBlobName n)) → IsForeign from f.layout.index n ⊎ IsForeign from f.layout.values n
    -- A marker is lost, or the whole records of its section's sealed prefix are fewer than it says.
    pub damage : (x : Damage) → IsErrOf result (Journal (journal.Corruption x)) → (markers : Markers) × HoldMarkers f.layout (as_read from) markers
        × (IsLost f.layout (IsMarked markers.entries) from x ⊎ ((m : ℕ) × IsMarked markers.entries x.section m × (x.wanted ≡ m * f.layout.record_size)
        × (x.kept ≡ length (stored_records f.layout (as_read from) x.section) * f.layout.record_size) × (x.kept < x.wanted)))
    -- No matching slot covers the page as far as a record goes that a marker counts.
    pub damaged : (k : ℕ) → IsErrOf result (Journal (journal.Runtime (runtime.InvalidChecksum k)))
        → (markers : Markers) × HoldMarkers f.layout (as_read from) markers
        × ((s m p : ℕ) × IsMarked markers.entries s m × (p < m) × IsShort f.layout.seal f.layout.page_size (to (section_key f.layout.index s)).content (p * f.layout.record_size) f.layout.record_size k)
    pub start : (n : ℕ) → IsErrOf result (Journal (journal.ItemOutOfRange n)) → ⊥
    pub spelled : (e : codec.Error) → IsErrOf result (Journal (journal.Codec e)) → ⊥
    -- The image keeps a record in another section than its index, or more than the limits allow; or a marker moves, and there is no next version.
    pub stray : IsErrOf result RecordCorrupted → OfKept f (as_read from) (HasStray f.items)
    pub full : IsErrOf result Full → OfKept f (as_read from) (IsPastLimits f.most_sections f.most_records)
        ⊎ (HasNoVersion f.layout from × ((markers : Markers) × HoldMarkers f.layout (as_read from) markers × ((s : ℕ) × (s < 2 ^ 64) × (marker_of markers.entries s ≢ length (kept_entries f (as_read from) markers s)))))

-- ---- as the relation has it

module _ {D : Type 0} (f : Filing) (dev : device.Ghosts D) (old new : D) (T : Type 0) (e : Error) where
  abbrev Own : Result T Error
  Own = Err e

  error_of : (x : Error) → IsErrOf {T = T} (Err e) x → e ≡ x
  error_of x is = cc is

  pub opening_failure : HasFailed {T = T} (Err e) (dev.faults old) (dev.faults new) ⊎ HasLostMarkers {T = T} (Err e) (dev.faults old) (dev.faults new) → IsOpeningFailure (dev.faults old) (dev.faults new) e
  opening_failure (inl (inl memory)) = inl (inl (error_of Mem memory))
  opening_failure (inl (inr fault)) = inl (inr (error_of (Journal (journal.Runtime runtime.Fault)) fault.0, fault.1))
  opening_failure (inr lost) = inr (error_of (Metadata (metadata.Runtime runtime.Fault)) lost.0, lost.1)

  cause_as : (x : Error) → IsErrOf {T = T} (Err e) x → IsOpeningCause f dev old new x → IsOpeningCause f dev old new e
  cause_as x is cause = subst (IsOpeningCause f dev old new) (sym (error_of x is)) cause

  pub opening_cause : IsOpeningError {T = T} (Err e) ⊎ (HasFailed {T = T} (Err e) (dev.faults old) (dev.faults new) ⊎ HasLostMarkers {T = T} (Err e) (dev.faults old) (dev.faults new))
      → (dev.Tells → HasCause {T = T} (Err e) f (disk (dev.time old)) (disk (dev.time new))) → IsOpeningCause f dev old new e
  opening_cause (inl (inl (side, is))) causes = cause_as (Metadata (metadata.Corruption side)) is (λ t. (causes t).corrupt side is)
  opening_cause (inl (inr (inl (n, is)))) causes = cause_as (Journal (journal.InvalidBlobName n)) is (λ t. (causes t).named n is)
  opening_cause (inl (inr (inr (inl (x, is))))) causes = cause_as (Journal (journal.Corruption x)) is (λ t. (causes t).damage x is)
  opening_cause (inl (inr (inr (inr (inl (k, is)))))) causes = cause_as (Journal (journal.Runtime (runtime.InvalidChecksum k))) is (λ t.
      let w = (causes t).damaged k is in
      (w.0, w.1, record { section = w.2.0; marker = w.2.1; position = w.2.2; marked = w.2.3; below = w.2.4; page = w.2.5 }))
  opening_cause (inl (inr (inr (inr (inr (inl (n, is))))))) causes = cause_as (Journal (journal.ItemOutOfRange n)) is (λ t. (causes t).start n is)
  opening_cause (inl (inr (inr (inr (inr (inr (inl (x, is)))))))) causes = cause_as (Journal (journal.Codec x)) is (λ t. (causes t).spelled x is)
  opening_cause (inl (inr (inr (inr (inr (inr (inr (inl is)))))))) causes = cause_as RecordCorrupted is (λ t. (causes t).stray is)
  opening_cause (inl (inr (inr (inr (inr (inr (inr (inr is)))))))) causes = cause_as Full is (λ t. (causes t).full is)
  opening_cause (inr (inl (inl memory))) causes = cause_as Mem memory tt
  opening_cause (inr (inl (inr fault))) causes = cause_as (Journal (journal.Runtime runtime.Fault)) fault.0 fault.1
  opening_cause (inr (inr lost)) causes = cause_as (Metadata (metadata.Runtime runtime.Fault)) lost.0 lost.1
