-- What an opening promises.
use Rattle.std.specs.Prelude.{◌≡◌, ◌⊎◌, ℕ, ◌^◌, ◌≤◌, List, Option, None, Some, Result, Ok, Err, IfOk}
use Rattle.blob_device.specs.Counts.{Rose}
use Rattle.blob_device.specs.Disk.{Disk}
use Rattle.blob_device.specs.Footprint.{Footprint, NoBound}
use Rattle.blob_device.specs.Timeline.{Always, disk}
use Rattle.blob_device.specs.declared.device.Device as device
use Rattle.blob_device.specs.declared.runtime.RError.TheVariants as runtime
use Rattle.sealed_pages.specs.Reading.{Unchanged}
use Rattle.sealed_pages.specs.declared.page_blob.PageBlob.{PageBlob}
use Rattle.section_manager.specs.Refusing.{IsForeign}
use Rattle.section_manager.specs.Setting.{Setting}
use Rattle.section_manager.specs.declared.buffer.SectionBuffer as buffer
use Rattle.section_manager.specs.declared.journal.Error.{Error}
use Rattle.section_manager.specs.declared.journal.Error.TheVariants.{InvalidBlobName, Runtime}
use Rattle.section_manager.specs.declared.sealed.AppendFactory.{AppendFactory}
use Rattle.value_codec.specs.declared.codec.Error as codec
use Rattle.cache_store.specs.Changes.{IsFailure, IsSoundOver, MayUse, Seen, state_over}
use Rattle.cache_store.specs.Config.{layout_of}
use Rattle.cache_store.specs.Kept.{IsStart, Layout, Lawful, sealed_bytes}
use Rattle.cache_store.specs.Machine.{Done, Reopen, State, Step}
use Rattle.cache_store.specs.Refusals.{IsRefusal}
use Rattle.cache_store.specs.Reopening.{KeepsRecords, MayOpen, NothingPending, as_read}
use Rattle.cache_store.specs.Standing.{Leaves, wanted_of}
use Rattle.cache_store.specs.declared.config.Config.{Config}

module _ {S D : Type 0} {gs : _} (g : buffer.Ghosts (PageBlob S gs))
    (gives : AppendFactory S → Setting) (dev : device.Ghosts D) (l : Layout) (old new : D) where
  -- the disk as it was
  abbrev from : Disk
  from = disk (dev.time old)

  -- Over a device that tells its disk: what the cache r holds.
  pub record HoldsImage (r : Seen g gives dev) : Type 0 where
    -- just what the image keeps, over any image
    pub start : IsStart l (as_read from) (state_over g gives dev r new)
    -- no name was to be refused
    pub names : (name : List ℕ) → IsForeign from l.partition name → ⊥
    -- nor a length or a record
    pub unrefused : (e : Error) → IsRefusal l.items l.refusal (sealed_bytes l (as_read from)) e → ⊥
    -- it is sound, of a disk that might be opened
    pub sound : (st : State (List ℕ)) → MayOpen l st from → IsSoundOver g gives dev r new
    -- and is the reopening of a state of which nothing is synced behind the last section that a u64
    -- names
    pub step : (st : State (List ℕ)) → MayOpen l st from
        → ((s : ℕ) → 2 ^ 64 ≤ s → st.synced s ≡ 0)
        → Step l.items st Reopen Done (state_over g gives dev r new)
    -- which may be opened again
    pub rest : (st : State (List ℕ)) → MayOpen l st from
        → MayOpen l (state_over g gives dev r new) (disk (dev.time new))

  -- why an opening fails: a name that is no section's, what a section has, or a failure
  abbrev pub IsOpeningCause : Error → Type 0
  IsOpeningCause e =
      ((name : List ℕ) × (e ≡ InvalidBlobName name) × IsForeign from l.partition name)
      ⊎ (IsRefusal l.items l.refusal (sealed_bytes l (as_read from)) e
      ⊎ IsFailure (dev.faults old) (dev.faults new) e)

  -- It refused, or failed.
  pub record NotOpened (e : Error) : Type 0 where
    -- why
    pub cause : dev.Tells → IsOpeningCause e
    -- a name is refused before all else
    pub first : dev.Tells → (name : List ℕ) → IsForeign from l.partition name
        → ((n : List ℕ) × (e ≡ InvalidBlobName n)) ⊎ IsFailure (dev.faults old) (dev.faults new) e
    -- then nothing was changed, and no blob was opened
    pub untouched : dev.Tells → (name : List ℕ) → IsForeign from l.partition name
        → Unchanged (dev.time old) (dev.time new) × (dev.opened new ≡ dev.opened old)
    -- over a lawful image it fails for no other reason than a failure
    pub complete : dev.Tells → Lawful l (as_read from)
        → IsFailure (dev.faults old) (dev.faults new) e
    -- over any device, a fault is answered only where its count of faults rose
    pub fault : e ≡ Runtime runtime.Fault → Rose (dev.faults old) (dev.faults new)

-- An opening of a cache by a configuration, with pages sealed so and values that a codec refuses
-- so.
module _ {S C D : Type 0} {gs : _} (g : buffer.Ghosts (PageBlob S gs))
    (gives : AppendFactory S → Setting) (dev : device.Ghosts D) (seal : List ℕ → ℕ)
    (refusal : List ℕ → C → Option codec.Error) (cfg : Config C) (old new : D) where
  -- how the cache is kept
  abbrev pub l : Layout
  l = layout_of seal refusal cfg

  -- The cache r was opened.
  pub record Opened (r : Seen g gives dev) : Type 0 where
    -- it may be used
    pub over : MayUse g gives dev r new
    -- it is kept as it was asked
    pub layout : r.layout ≡ layout_of seal refusal cfg
    -- in such pages, of which as many are cached
    pub pages : r.journal.sections.factory.pages ≡ cfg.pages
    -- and its buffers flush as it was asked
    pub write_buffer : r.journal.sections.factory.write_buffer ≡ cfg.write_buffer
    -- nothing is left to sync
    pub written : (s : ℕ) → r.written s ≡ None
    -- what it holds
    pub told : dev.Tells → HoldsImage g gives dev (layout_of seal refusal cfg) old new r

  abbrev pub OpenEnds : Result (Seen g gives dev) Error → Type 0
  OpenEnds (Ok r) = Opened r
  OpenEnds (Err e) = NotOpened g gives dev (layout_of seal refusal cfg) old new e

  pub record Opens (result : Result (Seen g gives dev) Error) (kept : Result C Error) : Type 0 where
    -- a lawful image with nothing pending may be opened: it stands for its start state
    pub begins : dev.Tells → NothingPending l (disk (dev.time old))
        → Lawful l (as_read (disk (dev.time old))) → (st : State (List ℕ))
        → IsStart l (as_read (disk (dev.time old))) st → MayOpen l st (disk (dev.time old))
    -- at each moment, also where the call fails, each crash leaves what stands for the state
    pub moments : dev.Tells → (st : State (List ℕ)) → MayOpen l st (disk (dev.time old))
        → Always (dev.time old) (dev.time new) (Leaves l (wanted_of l.items st (Some Reopen)))
    -- of any image with nothing pending it keeps the records, also where these are refused
    pub keeps : dev.Tells → NothingPending l (disk (dev.time old)) → Always (dev.time old)
        (dev.time new) (KeepsRecords l (as_read (disk (dev.time old))))
    -- no blob is touched but those of the partition
    pub footprint : Footprint dev (λ q. q.0 ≡ l.partition) NoBound old new
    -- what the codec is told is as it was given
    pub config : IfOk kept (λ c. c ≡ cfg.codec_config)
    -- how it ended
    pub ends : OpenEnds result
