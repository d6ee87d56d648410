-- What entering the records of a replay promises: one of them, and all.
use Rattle.std.specs.Prelude.{◌≡◌, ◌≢◌, ◌⊎◌, ◌↔◌, ⊤, ℕ, ◌*◌, ◌<◌, ◌^◌, true, List, [], ◌∷◌, ◌++◌, Bool, length, map, Result, Ok, Err}
use Rattle.std.specs.List.{AllByRecursion}
use Rattle.blob_device.specs.Counts.{Rose}
use Rattle.blob_device.specs.Disk.{Disk, Key}
use Rattle.blob_device.specs.Footprint.{Footprint}
use Rattle.blob_device.specs.Timeline.{Always, disk}
use Rattle.blob_device.specs.declared.device.Device as device
use Rattle.blob_device.specs.declared.runtime.RError.TheVariants as runtime
use Rattle.section_manager.specs.Sections.{section_key}
use Rattle.section_manager.specs.declared.journal.Damage.{Damage}
use Rattle.section_manager.specs.declared.journal.Error.TheVariants as journal
use Rattle.segments.specs.FixedReplay.{IsDrained}
use Rattle.sealed_pages.specs.declared.page_blob.PageBlob.{PageBlob}
use Rattle.meta_store.specs.Store.{contents_of}
use Rattle.paired.specs.Crashes.{IsOwn}
use Rattle.paired.specs.Kept.{kept, stored_records}
use Rattle.paired.specs.Opening.{IsLawful, MayBeOpened, RecallsAlone, as_read}
use Rattle.paired.specs.Records as stored
use Rattle.paired.specs.Replaying.{HasFailed, IsDue, IsRun, LeftAtMost, Run, SameRun, marker, records_given}
use Rattle.archives.specs.Archives.{Buffers}
use Rattle.archives.specs.IndexRecord.{IsSpelled}
use Rattle.archives.specs.Machine.{section_of}
use Rattle.archives.specs.Opening.{FindsShort, HasStray, IsPastLimits}
use Rattle.archives.specs.Refusing.{IsFailure}
use Rattle.archives.specs.Rows.{AreTables, AreWithin, HasRoom, Row, row_in, rows_of}
use Rattle.archives.specs.declared.error.Error.{Error}
use Rattle.archives.specs.declared.error.Error.TheVariants.{Journal, RecordCorrupted, Full, Mem}
use Rattle.archives.specs.declared.prunable.limits.Limits.{Limits}
use Rattle.record_tables.specs.declared.tables.Tables.{Tables}

-- ---- one record

module _ {K W : Type 0} (key_bytes : K → List ℕ) (eq : W → W → Bool) (word_of : List ℕ → W) (items : ℕ)
    (limits : Limits) where
  -- the rows of the tables are in their sections, and within the limits
  abbrev pub IsWithin : Tables W K → Type 0
  IsWithin t = AreWithin items limits.sections limits.per_section (rows_of key_bytes t)

  module _ (old : Tables W K) (section : ℕ) (row : Row) where
    -- the row goes last in its section, and no other section changes
    pub record HasEnteredRow (new : Tables W K) : Type 0 where
      -- the row is the last one of its section
      pub entered : rows_of key_bytes new section ≡ rows_of key_bytes old section ++ row ∷ []
      -- the other sections have the rows that they had
      pub others : (s : ℕ) → s ≢ section → rows_of key_bytes new s ≡ rows_of key_bytes old s
      -- the tables answer for it
      pub tied : AreTables key_bytes eq word_of new
      -- the limits are kept where they were
      pub within : IsWithin old → IsWithin new
      -- the section is that of the index
      pub here : section_of items row.index ≡ section

    -- there was room for it
    abbrev pub HasRoomHere : Type 0
    HasRoomHere = HasRoom limits.sections limits.per_section (rows_of key_bytes old) section

    -- it is another section's, or past the limits, in this order
    abbrev pub IsEntryCause : Error → Type 0
    IsEntryCause Mem = (section_of items row.index ≡ section) × ((HasRoomHere → ⊥) → ⊥)
    IsEntryCause RecordCorrupted = section_of items row.index ≢ section
    IsEntryCause Full = (section_of items row.index ≡ section) × (HasRoomHere → ⊥)
    IsEntryCause e = ⊥

    -- The record was entered, or refused. It is entered only where there was room.
    abbrev pub EntersRow : Result Unit Error → Tables W K → Type 0
    EntersRow (Ok done) new = HasEnteredRow new × ((HasRoomHere → ⊥) → ⊥)
    EntersRow (Err e) new = IsEntryCause e

-- ---- all of them

module _ {F S D : Type 0} {gs : _} (buffers : Buffers F (PageBlob S gs)) (dev : device.Ghosts D) where
  -- the replay may be used with the device
  abbrev pub MayRun : Run F (PageBlob S gs) → D → Type 0
  MayRun run d =
      IsRun run buffers.pages buffers.gives buffers.values buffers.takes dev.Tells (dev.opened d) (disk (dev.time d))

  -- a tracked one, of which nothing was taken
  pub record MayEnter (run : Run F (PageBlob S gs)) (d : D) : Type 0 where
    -- the replay may be used
    pub over : MayRun run d
    -- it is by markers
    pub tracked : run.tracked ≡ true
    -- it has not failed
    pub going : HasFailed run → ⊥
    -- all of its records are still to be given
    pub due : dev.Tells → (s p : ℕ)
        → IsDue run (disk (dev.time d)) s p ↔ (p < length (records_given run (disk (dev.time d)) s))

  module _ (key_size items : ℕ) (limits : Limits) (from to : Run F (PageBlob S gs)) (old new : D) where
    -- what the image keeps of each section as the disk reads
    abbrev pub kept_on : Disk → ℕ → List stored.Entry
    kept_on d s = kept from.layout (as_read d) (marker from s) s

    -- Over a device that tells its disk: the rows are those of all records that the replay gives, each of them
    -- spelled; and the disk keeps what it did.
    pub record HasEnteredAll (rows : ℕ → List Row) : Type 0 where
      -- there is a row for each record that was given, in their order
      pub listed : (s : ℕ) → rows s ≡ map (row_in key_size) (records_given to (disk (dev.time new)) s)
      -- each of these records is a spelling
      pub spelled : (s : ℕ) → AllByRecursion (IsSpelled key_size) (records_given to (disk (dev.time new)) s)
      -- what the replay gives of a section is what it gave at first
      pub given : (s : ℕ) → records_given to (disk (dev.time new)) s ≡ records_given from (disk (dev.time old)) s
      -- the image keeps what it did
      pub keeps : (s : ℕ) → s < 2 ^ 64 → kept_on (disk (dev.time new)) s ≡ kept_on (disk (dev.time old)) s
      -- it stays lawful
      pub lawful : IsLawful from.layout (as_read (disk (dev.time old))) (contents_of from.store)
          → IsLawful from.layout (as_read (disk (dev.time new))) (contents_of from.store)
      -- it may still be opened
      pub opened : MayBeOpened from.layout (disk (dev.time old)) → MayBeOpened from.layout (disk (dev.time new))

    -- The replay was drained.
    pub record HasDrained (rows : ℕ → List Row) (AreTied : Type 0) : Type 0 where
      -- the replay has not failed
      pub going : HasFailed to → ⊥
      -- it has nothing left to give
      pub drained : IsDrained to.walk
      -- the rows are in their sections, and within the limits
      pub within : AreWithin items limits.sections limits.per_section rows
      -- the tables answer for them
      pub tied : AreTied
      -- what was entered, on a device that tells its disk
      pub told : dev.Tells → HasEnteredAll rows

    -- the section has fewer whole records than its marker says
    pub record IsShortSection (x : Damage) : Type 0 where
      -- so many bytes are below the floor
      pub wanted : x.wanted ≡ from.walk.journal.floor_of x.section
      -- fewer than these are kept
      pub less : x.kept < x.wanted
      -- they are those of the whole records of the sealed prefix
      pub is : x.kept
          ≡ length (stored_records from.layout (as_read (disk (dev.time old))) x.section) * from.layout.record_size

    -- Why the replay was not drained. What is refused is among what the image keeps: the walk has gone past it, so it
    -- is sealed.
    abbrev pub IsDrainCause : Error → Type 0
    -- want of memory is free
    IsDrainCause Mem = ⊤
    -- the device failed
    IsDrainCause (Journal (journal.Runtime runtime.Fault)) = Rose (dev.faults old) (dev.faults new)
    IsDrainCause RecordCorrupted = dev.Tells → HasStray items (kept_on (disk (dev.time old)))
    IsDrainCause Full = dev.Tells → IsPastLimits limits.sections limits.per_section (kept_on (disk (dev.time old)))
    IsDrainCause (Journal (journal.Corruption x)) = dev.Tells → IsShortSection x
    IsDrainCause (Journal (journal.Runtime (runtime.InvalidChecksum k))) =
        dev.Tells → FindsShort from.layout from.walk.journal.floor_of (disk (dev.time new)) k
    -- these do not come on a device that tells its disk
    IsDrainCause (Journal (journal.ItemOutOfRange n)) = dev.Tells → ⊥
    IsDrainCause (Journal (journal.Codec e)) = dev.Tells → ⊥
    -- and no other comes at all
    IsDrainCause e = ⊥

    -- A lawful image is drained, unless records are refused, the device fails, or memory is short.
    pub record HasNotDrained (e : Error) : Type 0 where
      -- why
      pub cause : IsDrainCause e
      -- a lawful image is refused only by its records
      pub complete : dev.Tells → IsLawful from.layout (as_read (disk (dev.time old))) (contents_of from.store)
          → (e ≡ RecordCorrupted) ⊎ ((e ≡ Full) ⊎ IsFailure (dev.faults old) (dev.faults new) e)

    abbrev pub DrainEnds : {T : Type 0} → (T → ℕ → List Row) → (T → Type 0) → Result T Error → Type 0
    DrainEnds rows AreTied (Ok t) = HasDrained (rows t) (AreTied t)
    DrainEnds rows AreTied (Err e) = HasNotDrained e

    -- a value blob is read no more often than records of its section may be left to check
    abbrev pub ReadsLeft : Key → ℕ → Type 0
    ReadsLeft q n = dev.Tells
        × ((s : ℕ) × (s < 2 ^ 64) × (q ≡ section_key from.layout.values s) × LeftAtMost from (disk (dev.time old)) s n)

    -- The replay was drained into tables, or failed. How the tables show rows, when they answer for them, and what
    -- the codec of the replay's values was told before and after, is given.
    pub record Drains {T C : Type 0} (rows : T → ℕ → List Row) (AreTied : T → Type 0)
        (config_before config_after : C) (result : Result T Error) : Type 0 where
      -- the replay may be used further
      pub over : MayRun to new
      -- it is over the same sections, markers and values
      pub same : SameRun from to
      -- its values are spelled by the same codec
      pub config : config_after ≡ config_before
      -- at each moment, also where the call fails, each crash leaves what a crash before the call would have left
      pub moments : dev.Tells → MayBeOpened from.layout (disk (dev.time old))
          → Always (dev.time old) (dev.time new)
          (RecallsAlone from.layout (IsOwn from.layout (λ _. ⊤)) (disk (dev.time old)))
      -- no blob is touched but those of the layout
      pub footprint : Footprint dev (IsOwn from.layout (λ _. ⊤)) ReadsLeft old new
      -- how it ended
      pub ends : DrainEnds rows AreTied result
