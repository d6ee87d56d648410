-- What entering the records of a replay promises, by the ways in which it ends.
use Rattle.std.proofs.Common.{◌≡◌, ◌≢◌, ◌⊎◌, inl, inr, refl, sym, subst, ℕ, ◌<◌, ◌≤◌, ◌+◌, ◌^◌, Bool, List, Result, Ok, Err}
use Rattle.std.specs.Prelude.{⊤}
use Rattle.std.specs.Result.{IsErrOf}
use Rattle.blob_device.specs.Disk.{Key}
use Rattle.blob_device.specs.Footprint.{Footprint, SameElsewhere}
use Rattle.blob_device.specs.Opened.{reads_of}
use Rattle.blob_device.specs.Timeline.{Always, disk}
use Rattle.blob_device.specs.declared.device.Device as device
use Rattle.blob_device.specs.declared.runtime.RError.TheVariants as runtime
use Rattle.meta_store.specs.declared.error.Error.TheVariants as metadata
use Rattle.sealed_pages.specs.declared.page_blob.PageBlob.{PageBlob}
use Rattle.section_manager.specs.Sections.{section_key}
use Rattle.section_manager.specs.declared.journal.Error.TheVariants as section
use Rattle.paired.specs.Crashes.{IsOwn}
use Rattle.paired.specs.Opening.{MayBeOpened, RecallsAlone}
use Rattle.paired.specs.Replaying.{LeftAtMost, Run, SameRun}
use Rattle.archives.specs.Archives.{Buffers}
use Rattle.archives.specs.Enters.{Drains, HasDrained, HasNotDrained, IsDrainCause, IsEntryCause, MayRun, ReadsLeft, kept_on}
use Rattle.archives.specs.Machine.{section_of}
use Rattle.archives.specs.Opening.{HasStray, IsPastLimits}
use Rattle.archives.specs.Rows.{HasRoom, Row, rows_of}
use Rattle.archives.specs.declared.error.Error.{Error}
use Rattle.archives.specs.declared.error.Error.TheVariants.{Full, Journal, Mem, Metadata, RecordCorrupted}
use Rattle.archives.specs.declared.prunable.limits.Limits.{Limits}
use Rattle.record_tables.specs.declared.tables.Tables.{Tables}
use Rattle.archives.proofs.opening.Errors.{Answer}
use Rattle.archives.proofs.read.Causes.{failure_of}

-- why one record was not entered
module _ {K W : Type 0} (key_bytes : K → List ℕ) (eq : W → W → Bool) (word_of : List ℕ → W) (items : ℕ) (limits : Limits) (old : Tables W K) (here : ℕ) (row : Row) where
  pub entry_is : (e : Error) → IsEntryCause key_bytes eq word_of items limits old here row e
      → (e ≡ Mem) ⊎ (((e ≡ RecordCorrupted) × (section_of items row.index ≢ here)) ⊎ ((e ≡ Full) × (HasRoom limits.sections limits.per_section (rows_of key_bytes old) here → ⊥)))
  entry_is Mem cause = inl refl
  entry_is Full cause = inr (inr (refl, cause.1))
  entry_is RecordCorrupted cause = inr (inl (refl, cause))
  entry_is (Journal (section.Runtime runtime.Fault)) cause = absurd cause
  entry_is (Journal (section.Runtime (runtime.InvalidChecksum k))) cause = absurd cause
  entry_is (Journal (section.Runtime runtime.BlobInsufficientLength)) cause = absurd cause
  entry_is (Journal (section.Runtime runtime.OffsetOverflow)) cause = absurd cause
  entry_is (Journal (section.Runtime runtime.Mem)) cause = absurd cause
  entry_is (Journal (section.Metadata m)) cause = absurd cause
  entry_is (Journal (section.Codec x)) cause = absurd cause
  entry_is (Journal (section.InvalidBlobName x)) cause = absurd cause
  entry_is (Journal (section.ItemOutOfRange x)) cause = absurd cause
  entry_is (Journal (section.SectionOutOfRange x)) cause = absurd cause
  entry_is (Journal (section.AlreadyPrunedToSection x)) cause = absurd cause
  entry_is (Journal (section.ChecksumMismatch x y)) cause = absurd cause
  entry_is (Journal section.ValueTooLarge) cause = absurd cause
  entry_is (Journal section.OffsetOverflow) cause = absurd cause
  entry_is (Journal (section.Corruption x)) cause = absurd cause
  entry_is (Journal section.ReplayFailed) cause = absurd cause
  entry_is (Journal section.Full) cause = absurd cause
  entry_is (Journal section.Mem) cause = absurd cause
  entry_is (Metadata (metadata.Runtime runtime.Fault)) cause = absurd cause
  entry_is (Metadata (metadata.Runtime (runtime.InvalidChecksum k))) cause = absurd cause
  entry_is (Metadata (metadata.Runtime runtime.BlobInsufficientLength)) cause = absurd cause
  entry_is (Metadata (metadata.Runtime runtime.OffsetOverflow)) cause = absurd cause
  entry_is (Metadata (metadata.Runtime runtime.Mem)) cause = absurd cause
  entry_is (Metadata (metadata.Corruption x)) cause = absurd cause
  entry_is (Metadata metadata.Full) cause = absurd cause
  entry_is (Metadata metadata.Mem) cause = absurd cause

module _ {F S D : Type 0} {gs : _} (buffers : Buffers F (PageBlob S gs)) (dev : device.Ghosts D) (key_size items : ℕ) (limits : Limits) (from to : Run F (PageBlob S gs)) (old new : D) where
  -- What the walk did, however it ended.
  pub record Walks (C : Type 0) (before after : C) : Type 0 where
    pub over : MayRun buffers dev to new
    pub same : SameRun from to
    pub config : after ≡ before
    pub moments : dev.Tells → MayBeOpened from.layout (disk (dev.time old))
        → Always (dev.time old) (dev.time new) (RecallsAlone from.layout (IsOwn from.layout (λ _. ⊤)) (disk (dev.time old)))
    pub untouched : dev.Tells → Always (dev.time old) (dev.time new) (SameElsewhere (IsOwn from.layout (λ _. ⊤)) (disk (dev.time old)))
    pub entries : (q : Key) → (IsOwn from.layout (λ _. ⊤) q → ⊥) → dev.opened new q ≡ dev.opened old q
    pub reads : dev.Tells → (s n : ℕ) → s < 2 ^ 64 → LeftAtMost from (disk (dev.time old)) s n
        → reads_of (dev.opened new (section_key from.layout.values s)) ≤ reads_of (dev.opened old (section_key from.layout.values s)) + n
    pub faults : dev.faults old ≤ dev.faults new

  module _ {C : Type 0} (before after : C) (walks : Walks C before after) {T : Type 0} (rows : T → ℕ → List Row) (AreTied : T → Type 0) where
    touched : Footprint dev (IsOwn from.layout (λ _. ⊤)) (ReadsLeft buffers dev key_size items limits from to old new) old new
    touched = record {
      alone = walks.untouched;
      entries = walks.entries;
      reads = λ q n left. (let at = left.1.2 in subst (λ (k : Key). reads_of (dev.opened new k) ≤ reads_of (dev.opened old k) + n) (sym at) (walks.reads left.0 left.1.0 n left.1.1 left.1.3));
      faults = walks.faults;
    }

    pub drained : (t : T) → HasDrained buffers dev key_size items limits from to old new (rows t) (AreTied t) → Drains buffers dev key_size items limits from to old new rows AreTied before after (Ok t)
    drained t done = record { over = walks.over; same = walks.same; config = walks.config; moments = walks.moments; footprint = touched; ends = done }

    failed : (r : Result T Error) (e : Error) → r ≡ Err e → HasNotDrained buffers dev key_size items limits from to old new e → Drains buffers dev key_size items limits from to old new rows AreTied before after r
    failed r e is why = subst (λ (x : Result T Error). Drains buffers dev key_size items limits from to old new rows AreTied before after x) (sym is)
        (record { over = walks.over; same = walks.same; config = walks.config; moments = walks.moments; footprint = touched; ends = why })

    error_of : (e x : Error) → IsErrOf {T = T} (Err e) x → e ≡ x
    error_of e x is = cc is

    cause_as : (e x : Error) → e ≡ x → IsDrainCause buffers dev key_size items limits from to old new x → IsDrainCause buffers dev key_size items limits from to old new e
    cause_as e x is cause = subst (IsDrainCause buffers dev key_size items limits from to old new) (sym is) cause

    -- the walk failed
    pub not_walked : (r : Result T Error) (e : Error) → r ≡ Err e → Answer dev.Tells from (disk (dev.time old)) (disk (dev.time new)) (dev.faults old) (dev.faults new) r
        → Drains buffers dev key_size items limits from to old new rows AreTied before after r
    not_walked r e is said = failed r e is (record { cause = cause; complete = λ t lawful. inr (inr (failure_of {T = T} e (dev.faults old) (dev.faults new) (answer.failed t lawful))) })
      where
        answer : Answer {T = T} dev.Tells from (disk (dev.time old)) (disk (dev.time new)) (dev.faults old) (dev.faults new) (Err e)
        answer = subst (λ (x : Result T Error). Answer dev.Tells from (disk (dev.time old)) (disk (dev.time new)) (dev.faults old) (dev.faults new) x) is said

        cause : IsDrainCause buffers dev key_size items limits from to old new e
        cause = elim answer.cause [
          | inl (inl (d, at)) ↦ cause_as e (Journal (section.Corruption d)) (error_of e (Journal (section.Corruption d)) at) (λ t. (let damage = answer.damage t d at in record { wanted = damage.0; less = damage.1; is = damage.2 }))
          | inl (inr (inl (k, at))) ↦ cause_as e (Journal (section.Runtime (runtime.InvalidChecksum k))) (error_of e (Journal (section.Runtime (runtime.InvalidChecksum k))) at) (λ t. answer.damaged t k at)
          | inl (inr (inr (inl (n, at)))) ↦ cause_as e (Journal (section.ItemOutOfRange n)) (error_of e (Journal (section.ItemOutOfRange n)) at) (λ t. answer.start_within t n at)
          | inl (inr (inr (inr (z, at)))) ↦ cause_as e (Journal (section.Codec z)) (error_of e (Journal (section.Codec z)) at) (λ t. answer.unspelled t z at)
          | inr (inl memory) ↦ cause_as e Mem (error_of e Mem memory) tt
          | inr (inr fault) ↦ cause_as e (Journal (section.Runtime runtime.Fault)) (error_of e (Journal (section.Runtime runtime.Fault)) fault.0) fault.1
        ]

    -- a record was refused
    pub not_entered : (r : Result T Error) (e : Error) → r ≡ Err e → (Stray Over : Type 0) → (e ≡ Mem) ⊎ (((e ≡ RecordCorrupted) × Stray) ⊎ ((e ≡ Full) × Over))
        → (dev.Tells → Stray → HasStray items (kept_on buffers dev key_size items limits from to old new (disk (dev.time old))))
        → (dev.Tells → Over → IsPastLimits limits.sections limits.per_section (kept_on buffers dev key_size items limits from to old new (disk (dev.time old))))
        → Drains buffers dev key_size items limits from to old new rows AreTied before after r
    not_entered r e is Stray Over why stray over = failed r e is (elim why [
      | inl memory ↦ record { cause = cause_as e Mem memory tt; complete = λ t lawful. inr (inr (inl memory)) }
      | inr (inl (bad, apart)) ↦ record { cause = cause_as e RecordCorrupted bad (λ t. stray t apart); complete = λ t lawful. inl bad }
      | inr (inr (full, none)) ↦ record { cause = cause_as e Full full (λ t. over t none); complete = λ t lawful. inr (inl full) }
    ])
