-- Why a value cannot be read, by the results of calls; and as the relations have it, by the error.
use Rattle.std.proofs.Common.{◌≡◌, ◌⊎◌, inl, inr, refl, sym, subst, ℕ, ◌+◌, ◌<◌, ◌≤◌, ◌^◌, List, Result, Err, None, Some}
use Rattle.std.specs.Prelude.{IsSomeAnd}
use Rattle.std.specs.Result.{IsErrOf}
use Rattle.blob_device.specs.Counts.{Rose}
use Rattle.blob_device.specs.Disk.{Disk}
use Rattle.blob_device.specs.declared.runtime.RError.TheVariants as runtime
use Rattle.value_codec.specs.declared.codec.Error as codec
use Rattle.meta_store.specs.declared.error.Error.TheVariants as metadata
use Rattle.sealed_pages.specs.declared.page_blob.PageBlob.{PageBlob}
use Rattle.section_manager.specs.Sections.{key_of}
use Rattle.section_manager.specs.declared.journal.Error.TheVariants as journal
use Rattle.segments.specs.FixedReading.{IsDamaged}
use Rattle.paired.specs.Frames.{HasFrame, IsBroken}
use Rattle.paired.specs.glob.Sections as glob
use Rattle.paired.specs.lemmas.pair.Failing.{rose_before}
use Rattle.archives.specs.Archives.{Archive}
use Rattle.archives.specs.Gets.{IsReadCause, IsRecordCause}
use Rattle.archives.specs.Reading.{NamesPlace}
use Rattle.archives.specs.Refusing.{IsFailure, IsFault}
use Rattle.archives.specs.declared.error.Error.{Error}
use Rattle.archives.specs.declared.error.Error.TheVariants.{Full, Journal, Mem, Metadata, RecordCorrupted}

-- there was no memory, or the device failed, and then its count of faults rose
abbrev pub HasFailed : {T : Type 0} → Result T Error → ℕ → ℕ → Type 0
HasFailed result before now = IsErrOf result Mem ⊎ (IsErrOf result (Journal (journal.Runtime runtime.Fault)) × Rose before now)

-- the section or the record is not there; a page is damaged; the frame that the record names is not there, or passes the greatest u64, or
-- its seal fails; or the codec refuses what it spells
abbrev pub HasReadingError : {T : Type 0} → Result T Error → Type 0
HasReadingError result =
    ((n : ℕ) × IsErrOf result (Journal (journal.SectionOutOfRange n)))
    ⊎ (((n : ℕ) × IsErrOf result (Journal (journal.ItemOutOfRange n)))
    ⊎ (((k : ℕ) × IsErrOf result (Journal (journal.Runtime (runtime.InvalidChecksum k))))
    ⊎ (IsErrOf result (Journal (journal.Runtime runtime.BlobInsufficientLength))
    ⊎ (IsErrOf result (Journal (journal.Runtime runtime.OffsetOverflow))
    ⊎ (((stored : ℕ) × (computed : ℕ) × IsErrOf result (Journal (journal.ChecksumMismatch stored computed)))
    ⊎ ((e : codec.Error) × IsErrOf result (Journal (journal.Codec e))))))))

module _ {F S : Type 0} {gs : _} (a : Archive F (PageBlob S gs)) (d : Disk) (s p : ℕ) where
  -- Each error has its cause at record p of section s.
  pub record HasCause {T : Type 0} (result : Result T Error) : Type 0 where
    pub damaged : (k : ℕ) → IsErrOf result (Journal (journal.Runtime (runtime.InvalidChecksum k)))
        → IsSomeAnd (a.pair.index.sections.held s) (λ u. IsDamaged a.pair.layout.record_size a.pair.layout.seal u (d (key_of a.pair.index.sections s)).content p k)
    pub absent : (n : ℕ) → IsErrOf result (Journal (journal.SectionOutOfRange n)) → (n ≡ s) × (a.pair.values.held s ≡ None)
    pub past : (n : ℕ) → IsErrOf result (Journal (journal.ItemOutOfRange n)) → ⊥
    pub short : IsErrOf result (Journal (journal.Runtime runtime.BlobInsufficientLength)) → NamesPlace a d s p (λ at n. (glob.section_size a.pair.values s < at + n) ⊎ (n < 4))
    pub overflow : IsErrOf result (Journal (journal.Runtime runtime.OffsetOverflow)) → NamesPlace a d s p (λ at n. 2 ^ 64 ≤ at + n)
    pub mismatch : (stored computed : ℕ) → IsErrOf result (Journal (journal.ChecksumMismatch stored computed))
        → NamesPlace a d s p (λ at n. IsBroken a.pair.layout.seal (glob.section_bytes a.pair.values d s) at n stored computed)
    pub refused : (e : codec.Error) → IsErrOf result (Journal (journal.Codec e))
        → NamesPlace a d s p (λ at n. (spelled : List ℕ) × HasFrame a.pair.layout.seal (glob.section_bytes a.pair.values d s) at n spelled × (a.refusal spelled ≡ Some e))

-- ---- as the relations have it

error_of : {T : Type 0} (e x : Error) → IsErrOf {T = T} (Err e) x → e ≡ x
error_of e x is = cc is

pub failure_of : {T : Type 0} (e : Error) (before now : ℕ) → HasFailed {T = T} (Err e) before now → IsFailure before now e
failure_of {T} e before now (inl memory) = inl (error_of {T = T} e Mem memory)
failure_of {T} e before now (inr fault) = inr (error_of {T = T} e (Journal (journal.Runtime runtime.Fault)) fault.0, fault.1)

-- a failure is one since an earlier moment
pub failure_since : (e : Error) (start before now : ℕ) → start ≤ before → IsFailure before now e → IsFailure start now e
failure_since e start before now since (inl memory) = inl memory
failure_since e start before now since (inr fault) = inr (fault.0, rose_before start before now since fault.1)

-- ---- a record without its value

-- on a device that tells, memory or the device failed
pub record_failure : (told : Type 0) (before now : ℕ) (e : Error) → told → IsRecordCause told before now e → IsFailure before now e
record_failure told before now Mem t cause = inl refl
record_failure told before now (Journal (journal.Runtime runtime.Fault)) t cause = inr (refl, cause)
record_failure told before now (Journal (journal.Runtime (runtime.InvalidChecksum k))) t cause = absurd (cause t)
record_failure told before now (Journal (journal.SectionOutOfRange n)) t cause = absurd (cause t)
record_failure told before now (Journal (journal.ItemOutOfRange n)) t cause = absurd (cause t)
record_failure told before now (Journal (journal.Codec x)) t cause = absurd (cause t)
record_failure told before now e t cause = absurd cause

-- a fault rose the count
pub record_fault : (told : Type 0) (before now : ℕ) (e : Error) → IsRecordCause told before now e → IsFault e → Rose before now
record_fault told before now e cause (inl is) = subst (IsRecordCause told before now) is cause
record_fault told before now e cause (inr is) = absurd (subst (IsRecordCause told before now) is cause)

-- a cause is one since an earlier moment
pub record_since : (told : Type 0) (start before now : ℕ) → start ≤ before → (e : Error) → IsRecordCause told before now e → IsRecordCause told start now e
record_since told start before now since Mem cause = tt
record_since told start before now since (Journal (journal.Runtime runtime.Fault)) cause = rose_before start before now since cause
record_since told start before now since (Journal (journal.Runtime (runtime.InvalidChecksum k))) cause = cause
record_since told start before now since (Journal (journal.SectionOutOfRange n)) cause = cause
record_since told start before now since (Journal (journal.ItemOutOfRange n)) cause = cause
record_since told start before now since (Journal (journal.Codec x)) cause = cause
record_since told start before now since e cause = absurd cause

module _ {F S : Type 0} {gs : _} (a : Archive F (PageBlob S gs)) (d : Disk) (told : Type 0) where
  -- a lookup of a value fails so too
  pub cause_of_record : (AtSome : (ℕ → ℕ → Type 0) → Type 0) (before now : ℕ) (e : Error) → IsRecordCause told before now e → IsReadCause a d told AtSome before now e
  cause_of_record AtSome before now Mem cause = tt
  cause_of_record AtSome before now (Journal (journal.Runtime runtime.Fault)) cause = cause
  cause_of_record AtSome before now (Journal (journal.Runtime (runtime.InvalidChecksum k))) cause = λ t. absurd (cause t)
  cause_of_record AtSome before now (Journal (journal.SectionOutOfRange n)) cause = λ t. absurd (cause t)
  cause_of_record AtSome before now (Journal (journal.ItemOutOfRange n)) cause = cause
  cause_of_record AtSome before now (Journal (journal.Codec x)) cause = λ t. absurd (cause t)
  cause_of_record AtSome before now e cause = absurd cause

  module _ (s p before now : ℕ) where
    module _ (T : Type 0) (e : Error) where
      cause_as : (x : Error) → IsErrOf {T = T} (Err e) x → IsReadCause a d told (λ P. P s p) before now x → IsReadCause a d told (λ P. P s p) before now e
      cause_as x is cause = subst (IsReadCause a d told (λ P. P s p) before now) (sym (error_of {T = T} e x is)) cause

      pub read_cause : HasReadingError {T = T} (Err e) ⊎ HasFailed {T = T} (Err e) before now → (told → HasCause a d s p {T = T} (Err e)) → IsReadCause a d told (λ P. P s p) before now e
      read_cause (inl (inl (n, is))) causes = cause_as (Journal (journal.SectionOutOfRange n)) is (λ t. (causes t).absent n is)
      read_cause (inl (inr (inl (n, is)))) causes = cause_as (Journal (journal.ItemOutOfRange n)) is (λ t. (causes t).past n is)
      read_cause (inl (inr (inr (inl (k, is))))) causes = cause_as (Journal (journal.Runtime (runtime.InvalidChecksum k))) is (λ t. (causes t).damaged k is)
      read_cause (inl (inr (inr (inr (inl is))))) causes = cause_as (Journal (journal.Runtime runtime.BlobInsufficientLength)) is (λ t. (causes t).short is)
      read_cause (inl (inr (inr (inr (inr (inl is)))))) causes = cause_as (Journal (journal.Runtime runtime.OffsetOverflow)) is (λ t. (causes t).overflow is)
      read_cause (inl (inr (inr (inr (inr (inr (inl (x, y, is)))))))) causes = cause_as (Journal (journal.ChecksumMismatch x y)) is (λ t. (causes t).mismatch x y is)
      read_cause (inl (inr (inr (inr (inr (inr (inr (x, is)))))))) causes = cause_as (Journal (journal.Codec x)) is (λ t. (causes t).refused x is)
      read_cause (inr (inl memory)) causes = cause_as Mem memory tt
      read_cause (inr (inr fault)) causes = cause_as (Journal (journal.Runtime runtime.Fault)) fault.0 fault.1

  -- a fault rose the count
  pub read_fault : (AtSome : (ℕ → ℕ → Type 0) → Type 0) (before now : ℕ) (e : Error) → IsReadCause a d told AtSome before now e → IsFault e → Rose before now
  read_fault AtSome before now e cause (inl is) = subst (IsReadCause a d told AtSome before now) is cause
  read_fault AtSome before now e cause (inr is) = absurd (subst (IsReadCause a d told AtSome before now) is cause)

  -- A cause at one place is one at some place. It stays one where faults were counted before, and on a disk that is the same where it is told.
  module _ (AtSome More : (ℕ → ℕ → Type 0) → Type 0) (to : (P : ℕ → ℕ → Type 0) → AtSome P → More P) (start before now : ℕ) (since : start ≤ before) (x : Disk) (same : told → x ≡ d) where
    on_disk : (e : Error) → told → IsReadCause a x told AtSome before now e → IsReadCause a d told AtSome before now e
    on_disk e t cause = subst (λ (y : Disk). IsReadCause a y told AtSome before now e) (same t) cause

    pub cause_since : (e : Error) → IsReadCause a x told AtSome before now e → IsReadCause a d told More start now e
    cause_since Mem cause = tt
    cause_since Full cause = absurd cause
    cause_since RecordCorrupted cause = absurd cause
    cause_since (Journal (journal.Runtime runtime.Fault)) cause = rose_before start before now since cause
    cause_since (Journal (journal.Runtime (runtime.InvalidChecksum k))) cause = λ t. to _ (on_disk (Journal (journal.Runtime (runtime.InvalidChecksum k))) t cause t)
    cause_since (Journal (journal.Runtime runtime.BlobInsufficientLength)) cause = λ t. to _ (on_disk (Journal (journal.Runtime runtime.BlobInsufficientLength)) t cause t)
    cause_since (Journal (journal.Runtime runtime.OffsetOverflow)) cause = λ t. to _ (on_disk (Journal (journal.Runtime runtime.OffsetOverflow)) t cause t)
    cause_since (Journal (journal.Runtime runtime.Mem)) cause = absurd cause
    cause_since (Journal (journal.Metadata m)) cause = absurd cause
    cause_since (Journal (journal.Codec c)) cause = λ t. to _ (on_disk (Journal (journal.Codec c)) t cause t)
    cause_since (Journal (journal.InvalidBlobName n)) cause = absurd cause
    cause_since (Journal (journal.ItemOutOfRange n)) cause = cause
    cause_since (Journal (journal.SectionOutOfRange n)) cause = λ t. to _ (on_disk (Journal (journal.SectionOutOfRange n)) t cause t)
    cause_since (Journal (journal.AlreadyPrunedToSection n)) cause = absurd cause
    cause_since (Journal (journal.ChecksumMismatch i j)) cause = λ t. to _ (on_disk (Journal (journal.ChecksumMismatch i j)) t cause t)
    cause_since (Journal journal.ValueTooLarge) cause = absurd cause
    cause_since (Journal journal.OffsetOverflow) cause = absurd cause
    cause_since (Journal (journal.Corruption n)) cause = absurd cause
    cause_since (Journal journal.ReplayFailed) cause = absurd cause
    cause_since (Journal journal.Full) cause = absurd cause
    cause_since (Journal journal.Mem) cause = absurd cause
    cause_since (Metadata (metadata.Runtime runtime.Fault)) cause = absurd cause
    cause_since (Metadata (metadata.Runtime (runtime.InvalidChecksum k))) cause = absurd cause
    cause_since (Metadata (metadata.Runtime runtime.BlobInsufficientLength)) cause = absurd cause
    cause_since (Metadata (metadata.Runtime runtime.OffsetOverflow)) cause = absurd cause
    cause_since (Metadata (metadata.Runtime runtime.Mem)) cause = absurd cause
    cause_since (Metadata (metadata.Corruption n)) cause = absurd cause
    cause_since (Metadata metadata.Full) cause = absurd cause
    cause_since (Metadata metadata.Mem) cause = absurd cause
