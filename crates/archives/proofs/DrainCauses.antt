-- Why a replay was not drained is why the opening failed.
use Rattle.std.proofs.Common.{◌≡◌, inl, subst, ℕ}
use Rattle.blob_device.specs.Counts.{Rose}
use Rattle.blob_device.specs.Timeline.{disk}
use Rattle.blob_device.specs.declared.device.Device as device
use Rattle.blob_device.specs.declared.runtime.RError.TheVariants as runtime
use Rattle.meta_store.specs.declared.error.Error.TheVariants as metadata
use Rattle.sealed_pages.specs.declared.page_blob.PageBlob.{PageBlob}
use Rattle.section_manager.specs.declared.journal.Damage.{Damage}
use Rattle.section_manager.specs.declared.journal.Error.TheVariants as section
use Rattle.paired.specs.Opening.{as_read}
use Rattle.paired.specs.Replaying.{Run}
use Rattle.archives.specs.Archives.{Buffers}
use Rattle.archives.specs.Enters.{IsDrainCause, IsShortSection, kept_on}
use Rattle.archives.specs.Filing.{Filing}
use Rattle.archives.specs.Opening.{FindsShort, HasStray, IsPastLimits, OfKept}
use Rattle.archives.specs.Opens.{HasDamagedPage, IsOpeningCause, IsShortOf, OfMarkers}
use Rattle.archives.specs.declared.error.Error.{Error}
use Rattle.archives.specs.declared.error.Error.TheVariants.{Full, Journal, Mem, Metadata, RecordCorrupted}
use Rattle.archives.specs.declared.prunable.limits.Limits.{Limits}

module _ {F S D : Type 0} {gs : _} (buffers : Buffers F (PageBlob S gs)) (dev : device.Ghosts D) (key_size items : ℕ) (limits : Limits) (from to : Run F (PageBlob S gs)) (mid new : D) where
  -- records that are refused, where the error says so
  pub stray_at : (e : Error) → IsDrainCause buffers dev key_size items limits from to mid new e → e ≡ RecordCorrupted → dev.Tells → HasStray items (kept_on buffers dev key_size items limits from to mid new (disk (dev.time mid)))
  stray_at e cause is = subst (IsDrainCause buffers dev key_size items limits from to mid new) is cause

  pub over_at : (e : Error) → IsDrainCause buffers dev key_size items limits from to mid new e → e ≡ Full → dev.Tells → IsPastLimits limits.sections limits.per_section (kept_on buffers dev key_size items limits from to mid new (disk (dev.time mid)))
  over_at e cause is = subst (IsDrainCause buffers dev key_size items limits from to mid new) is cause

  module _ (old : D) (f : Filing) (fault : Rose (dev.faults mid) (dev.faults new) → Rose (dev.faults old) (dev.faults new))
      (stray : dev.Tells → HasStray items (kept_on buffers dev key_size items limits from to mid new (disk (dev.time mid))) → OfKept f (as_read (disk (dev.time old))) (HasStray f.items))
      (over : dev.Tells → IsPastLimits limits.sections limits.per_section (kept_on buffers dev key_size items limits from to mid new (disk (dev.time mid))) → OfKept f (as_read (disk (dev.time old))) (IsPastLimits f.most_sections f.most_records))
      (damage : dev.Tells → (x : Damage) → IsShortSection buffers dev key_size items limits from to mid new x → OfMarkers f (disk (dev.time old)) (λ markers. IsShortOf f (disk (dev.time old)) markers x))
      (short : dev.Tells → (k : ℕ) → FindsShort from.layout from.walk.journal.floor_of (disk (dev.time new)) k → OfMarkers f (disk (dev.time old)) (λ markers. HasDamagedPage f (disk (dev.time new)) markers k)) where
    pub opening_of_drain : (e : Error) → IsDrainCause buffers dev key_size items limits from to mid new e → IsOpeningCause f dev old new e
    opening_of_drain Mem cause = tt
    opening_of_drain Full cause = λ t. inl (over t (cause t))
    opening_of_drain RecordCorrupted cause = λ t. stray t (cause t)
    opening_of_drain (Journal (section.Runtime runtime.Fault)) cause = fault cause
    opening_of_drain (Journal (section.Runtime (runtime.InvalidChecksum k))) cause = λ t. short t k (cause t)
    opening_of_drain (Journal (section.Runtime runtime.BlobInsufficientLength)) cause = absurd cause
    opening_of_drain (Journal (section.Runtime runtime.OffsetOverflow)) cause = absurd cause
    opening_of_drain (Journal (section.Runtime runtime.Mem)) cause = absurd cause
    opening_of_drain (Journal (section.Metadata m)) cause = absurd cause
    opening_of_drain (Journal (section.Codec x)) cause = cause
    opening_of_drain (Journal (section.InvalidBlobName x)) cause = absurd cause
    opening_of_drain (Journal (section.ItemOutOfRange x)) cause = cause
    opening_of_drain (Journal (section.SectionOutOfRange x)) cause = absurd cause
    opening_of_drain (Journal (section.AlreadyPrunedToSection x)) cause = absurd cause
    opening_of_drain (Journal (section.ChecksumMismatch x y)) cause = absurd cause
    opening_of_drain (Journal section.ValueTooLarge) cause = absurd cause
    opening_of_drain (Journal section.OffsetOverflow) cause = absurd cause
    opening_of_drain (Journal (section.Corruption x)) cause = λ t. damage t x (cause t)
    opening_of_drain (Journal section.ReplayFailed) cause = absurd cause
    opening_of_drain (Journal section.Full) cause = absurd cause
    opening_of_drain (Journal section.Mem) cause = absurd cause
    opening_of_drain (Metadata (metadata.Runtime runtime.Fault)) cause = absurd cause
    opening_of_drain (Metadata (metadata.Runtime (runtime.InvalidChecksum k))) cause = absurd cause
    opening_of_drain (Metadata (metadata.Runtime runtime.BlobInsufficientLength)) cause = absurd cause
    opening_of_drain (Metadata (metadata.Runtime runtime.OffsetOverflow)) cause = absurd cause
    opening_of_drain (Metadata (metadata.Runtime runtime.Mem)) cause = absurd cause
    opening_of_drain (Metadata (metadata.Corruption x)) cause = absurd cause
    opening_of_drain (Metadata metadata.Full) cause = absurd cause
    opening_of_drain (Metadata metadata.Mem) cause = absurd cause
