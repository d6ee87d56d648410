-- What an opening promises.
use Rattle.std.specs.Prelude.{◌≡◌, ◌≢◌, ◌⊎◌, ◌↔◌, ⊤, ℕ, ◌-◌, ◌*◌, ◌<◌, ◌≤◌, ◌^◌, false, List, length, map, None, Some, Result, Ok, Err}
use Rattle.blob_device.specs.Counts.{Rose}
use Rattle.blob_device.specs.Disk.{Disk, Key}
use Rattle.blob_device.specs.Footprint.{Footprint}
use Rattle.blob_device.specs.Timeline.{Always, disk}
use Rattle.blob_device.specs.declared.device.Device as device
use Rattle.blob_device.specs.declared.runtime.RError.TheVariants as runtime
use Rattle.meta_store.specs.Opening.{PairOn}
use Rattle.meta_store.specs.declared.error.Error.TheVariants as metadata
use Rattle.meta_store.specs.declared.error.Side.{Side}
use Rattle.section_manager.specs.Refusing.{IsForeign}
use Rattle.section_manager.specs.Sections.{section_key}
use Rattle.section_manager.specs.declared.journal.Damage.{Damage}
use Rattle.section_manager.specs.declared.journal.Error.TheVariants as journal
use Rattle.section_manager.specs.declared.sealed.AppendFactory.{AppendFactory}
use Rattle.sealed_pages.specs.Reads.{IsShort}
use Rattle.sealed_pages.specs.declared.page_blob.PageBlob.{PageBlob}
use Rattle.paired.specs.Crashes.{HoldMarkers, IsOwn}
use Rattle.paired.specs.glob.Sections as glob
use Rattle.paired.specs.Kept.{content_at, IsMarked, Markers, marker_of, stored_records}
use Rattle.paired.specs.Opening.{MayBeOpened, RecallsAlone, as_read}
use Rattle.paired.specs.OpeningRefusing.{IsLost, IsProved}
use Rattle.paired.specs.Pair.{length_of, records_of}
use Rattle.archives.specs.Changes.{IsSoundOver, MayUse, state_over}
use Rattle.archives.specs.Commands.{Reopen}
use Rattle.archives.specs.Filing.{Filing, IsSameFiling, floor_of, kept_entries}
use Rattle.archives.specs.Lawful.{Lawful}
use Rattle.archives.specs.Machine.{State, Step, stored_floor}
use Rattle.archives.specs.Opening.{HasNoVersion, HasStray, IsPastLimits, LeavesLawful, OfKept}
use Rattle.archives.specs.Prunable.{Prunable, Setup, filing_by, meaning, value_buffer_of, write_buffer_of}
use Rattle.archives.specs.Putting.{record_tail, value_tail}
use Rattle.archives.specs.Refusing.{IsFailure, IsLostMarkers}
use Rattle.archives.specs.Replies as reply
use Rattle.archives.specs.Standing.{IsStart, Leaves}
use Rattle.archives.specs.declared.error.Error.{Error}
use Rattle.archives.specs.declared.error.Error.TheVariants.{Journal, Metadata, RecordCorrupted, Full, Mem}

-- there was no memory, or the device failed, and its count of faults rose from one number to another
abbrev pub IsOpeningFailure : ℕ → ℕ → Error → Type 0
IsOpeningFailure before now e = IsFailure before now e ⊎ IsLostMarkers before now e

module _ (f : Filing) where
  -- ---- what an image has that is refused

  module _ (d : Disk) (markers : Markers) where
    -- a section's marker is not the number of records that are kept of it: an opening has to move it
    abbrev pub HasToMove : Type 0
    HasToMove = (s : ℕ) × (s < 2 ^ 64) × (marker_of markers.entries s ≢ length (kept_entries f (as_read d) markers s))

    -- a marker is lost, or the whole records of its section's sealed prefix are fewer than it says
    abbrev pub IsShortOf : Damage → Type 0
    IsShortOf x = IsLost f.layout (IsMarked markers.entries) d x
        ⊎ ((m : ℕ) × IsMarked markers.entries x.section m × (x.wanted ≡ m * f.layout.record_size)
        × (x.kept ≡ length (stored_records f.layout (as_read d) x.section) * f.layout.record_size)
        × (x.kept < x.wanted))

  -- page k of a section is not covered by a matching slot as far as a record goes that a marker counts
  pub record HasDamagedPage (d : Disk) (markers : Markers) (k : ℕ) : Type 0 where
    -- of this section
    pub section : ℕ
    -- whose marker is this
    pub marker : ℕ
    -- it has bytes of this record
    pub position : ℕ
    -- the markers say so
    pub marked : IsMarked markers.entries section marker
    -- the marker counts the record
    pub below : position < marker
    -- no slot covers the page so far
    pub page : IsShort f.layout.seal f.layout.page_size (d (section_key f.layout.index section)).content
        (position * f.layout.record_size) f.layout.record_size k

  -- the disk, as it reads, holds markers, and P holds of them
  abbrev pub OfMarkers : Disk → (Markers → Type 0) → Type 0
  OfMarkers d P = (markers : Markers) × HoldMarkers f.layout (as_read d) markers × P markers

  -- the markers' copies refuse
  abbrev pub HaveBadCopy : Disk → Side → Type 0
  HaveBadCopy d side = PairOn f.layout.markers f.layout.metadata d (Err side)

  -- a name in the partition of records, or of values, is no section's
  abbrev pub HasForeign : Disk → List ℕ → Type 0
  HasForeign d name = IsForeign d f.layout.index name ⊎ IsForeign d f.layout.values name

  -- The disk has nothing for which an opening would have to refuse: no bad copy of the markers, no foreign name, no
  -- record in another section than its index, no more than the limits allow, and a next version where a marker has to
  -- move.
  pub record MayBeKept (d : Disk) : Type 0 where
    -- no copy of the markers refuses
    pub copies : (side : Side) → HaveBadCopy d side → ⊥
    -- no name is foreign
    pub names : (name : List ℕ) → HasForeign d name → ⊥
    -- each record that is kept is in the section of its index
    pub in_section : OfKept f (as_read d) (HasStray f.items) → ⊥
    -- the limits are kept
    pub within : OfKept f (as_read d) (IsPastLimits f.most_sections f.most_records) → ⊥
    -- where a marker has to move, the markers have a next version
    pub version : HasNoVersion f.layout d → OfMarkers d (HasToMove d) → ⊥

  -- ---- why an opening fails, which began with the device `old` and left it as `new`

  module _ {D : Type 0} (dev : device.Ghosts D) (old new : D) where
    -- the disk as it was, and as it is
    abbrev from : Disk
    from = disk (dev.time old)

    abbrev to : Disk
    to = disk (dev.time new)

    abbrev pub IsOpeningCause : Error → Type 0
    -- want of memory is free
    IsOpeningCause Mem = ⊤
    -- the device failed
    IsOpeningCause (Journal (journal.Runtime runtime.Fault)) = Rose (dev.faults old) (dev.faults new)
    IsOpeningCause (Metadata (metadata.Runtime runtime.Fault)) = Rose (dev.faults old) (dev.faults new)
    -- the copies of the markers, or a name
    IsOpeningCause (Metadata (metadata.Corruption side)) = dev.Tells → HaveBadCopy from side
    IsOpeningCause (Journal (journal.InvalidBlobName name)) = dev.Tells → HasForeign from name
    -- a section has less than its marker says
    IsOpeningCause (Journal (journal.Corruption x)) = dev.Tells → OfMarkers from (λ markers. IsShortOf from markers x)
    -- a page below a marker is damaged
    IsOpeningCause (Journal (journal.Runtime (runtime.InvalidChecksum k))) =
        dev.Tells → OfMarkers from (λ markers. HasDamagedPage to markers k)
    -- a record that is kept stands in another section than its index
    IsOpeningCause RecordCorrupted = dev.Tells → OfKept f (as_read from) (HasStray f.items)
    -- more is kept than the limits allow, or a marker has to move, and the markers have no next version
    IsOpeningCause Full = dev.Tells → OfKept f (as_read from) (IsPastLimits f.most_sections f.most_records)
        ⊎ (HasNoVersion f.layout from × OfMarkers from (HasToMove from))
    -- these do not come on a device that tells its disk
    IsOpeningCause (Journal (journal.ItemOutOfRange n)) = dev.Tells → ⊥
    IsOpeningCause (Journal (journal.Codec e)) = dev.Tells → ⊥
    -- and no other comes at all
    IsOpeningCause e = ⊥

    -- Why an opening over a lawful image fails, of which nothing is refused.
    abbrev pub IsLawfulCause : Error → Type 0
    -- want of memory is free
    IsLawfulCause Mem = ⊤
    -- the device failed
    IsLawfulCause (Journal (journal.Runtime runtime.Fault)) = Rose (dev.faults old) (dev.faults new)
    IsLawfulCause (Metadata (metadata.Runtime runtime.Fault)) = Rose (dev.faults old) (dev.faults new)
    -- a marker has to move, and the markers have no next version
    IsLawfulCause Full = HasNoVersion f.layout from × OfMarkers from (HasToMove from)
    -- and no other comes at all
    IsLawfulCause e = ⊥

    -- How often each value blob is read: no more often than its section has records at or above its marker.
    pub record ReadsOnOpening (q : Key) (n : ℕ) : Type 0 where
      -- the device tells its disk
      pub told : dev.Tells
      -- these are the markers
      pub markers : Markers
      -- the disk holds them
      pub held : HoldMarkers f.layout (as_read from) markers
      -- of this section
      pub section : ℕ
      -- which a u64 names
      pub in_range : section < 2 ^ 64
      -- the blob is that of its values
      pub is : q ≡ section_key f.layout.values section
      -- the bound is the number of its records at or above the marker
      pub bound : n ≡ length (stored_records f.layout (as_read from) section) - marker_of markers.entries section

    -- What crashes leave, of a disk that may be opened, at every moment of the call, also where it fails.
    pub record OpeningLeaves : Type 0 where
      -- just what a crash before the call would have kept
      pub keeps : Always (dev.time old) (dev.time new) (RecallsAlone f.layout (IsOwn f.layout (λ _. ⊤)) from)
      -- so it stays lawful,
      pub lawful : LeavesLawful f from → Always (dev.time old) (dev.time new) (LeavesLawful f)
      -- and stands for each state for which it stood, with a reopening under way.
      pub stands : (st : State (List ℕ)) → Leaves f st None from
          → Always (dev.time old) (dev.time new) (Leaves f st (Some Reopen))

module _ {A V S D : Type 0} {gs : _} (p : Prunable A V (AppendFactory S) (PageBlob S gs)) (dev : device.Ghosts D)
    (setup : Setup V) where
  module _ (old new : D) where
    -- the disk as it was, and as it is
    abbrev before : Disk
    before = disk (dev.time old)

    abbrev after : Disk
    after = disk (dev.time new)

    -- what the opening was to be by, and where
    abbrev f : Filing
    f = setup.filing

    -- Over a device that tells its disk: what is held, and what its image means.
    pub record OpenedOver (r : A) : Type 0 where
      -- the records are those that the image keeps
      pub records : OfKept f (as_read before)
          (λ entries. (s : ℕ) → s < 2 ^ 64 → records_of (p.see r).pair after s ≡ map (λ e. e.stored) (entries s))
      -- over any image: all bytes of a section's values are in its blob
      pub values : (s : ℕ) → s < 2 ^ 64
          → glob.section_size (p.see r).pair.values s ≡ length (content_at (as_read after) f.layout.values s)
      -- the floor is what is left of the one that stands with the markers: 0, whatever the copies name
      pub floor : OfMarkers f before (λ markers. (p.see r).floor ≡ stored_floor (floor_of markers))
      -- of a lawful image the state is its start state
      pub start : (markers : Markers) → Lawful f (as_read before) markers
          → IsStart f (as_read before) markers (state_over (meaning p) dev r new)
      -- nothing that has to be refused was passed over
      pub kept : MayBeKept f before
      -- each marker's records are there: the last one is sealed, and its value stands within the section's values
      pub proved : (markers : Markers) → HoldMarkers f.layout (as_read before) markers
          → (s m : ℕ) → IsMarked markers.entries s m → IsProved f.layout before s m
      -- The archive is sound where crashes leave lawful images now: where they did before, and where what was unlawful
      -- has been cut off.
      pub sound : MayBeOpened f.layout before → LeavesLawful f after → IsSoundOver (meaning p) dev r new
      -- It is the reopening of each state for which the disk stood, and of which nothing is synced behind the last
      -- section that a u64 names.
      pub step : MayBeOpened f.layout before → (st : State (List ℕ)) → Leaves f st None before
          → ((s : ℕ) → 2 ^ 64 ≤ s → st.synced s ≡ 0)
          → Step (p.see r).items st Reopen reply.Done (state_over (meaning p) dev r new)
      -- each crash now leaves what stands for the state
      pub rest : MayBeOpened f.layout before → (st : State (List ℕ)) → Leaves f st None before
          → Leaves f (state_over (meaning p) dev r new) None after

  -- The archive r was opened.
  pub record Opened (r : A) (old new : D) : Type 0 where
    -- the archive may be used
    pub over : MayUse (meaning p) dev r new
    -- it is as it was asked for
    pub filing : IsSameFiling setup.filing (filing_by p r)
    -- its buffers of records flush as it was asked
    pub write_buffer : write_buffer_of (p.see r) ≡ setup.write_buffer
    -- and so do those of values
    pub value_buffer : value_buffer_of (p.see r) ≡ setup.value_buffer
    -- it allows just the values that it was asked to allow
    pub accepts : (v : V) → p.Accepts r v ↔ setup.Allows v
    -- it makes words of keys as it was asked: two keys have one word just where they were to have one
    pub alike : p.alike r ≡ setup.alike
    -- no section counts as written: all that is kept is synced
    pub none_written : (s : ℕ) → (p.see r).is_written s ≡ false
    -- each marker counts the records of its section
    pub counts : (s : ℕ) → marker_of (p.see r).pair.store.entries s ≡ length_of (p.see r).pair s
    -- nothing is left to flush
    pub flushed : dev.Tells → (s : ℕ) → (record_tail (p.see r) s ≡ 0) × (value_tail (p.see r) s ≡ 0)
    -- what is held, on a device that tells its disk
    pub told : dev.Tells → OpenedOver old new r

  -- The opening refused, or failed.
  pub record NotOpened (e : Error) (old new : D) : Type 0 where
    -- why
    pub cause : IsOpeningCause setup.filing dev old new e
    -- bad copies of the markers are told before anything else, unless the device fails or memory is short
    pub copies : dev.Tells → (side : Side) → HaveBadCopy setup.filing (disk (dev.time old)) side
        → (e ≡ Metadata (metadata.Corruption side)) ⊎ IsOpeningFailure (dev.faults old) (dev.faults new) e
    -- Over a lawful image nothing is refused: that is opened, unless the device fails, memory is short, a marker has
    -- to move and the markers have no next version, or a blob of records is longer than a u64 counts.
    pub complete : dev.Tells → (markers : Markers) → Lawful setup.filing (as_read (disk (dev.time old))) markers
        → IsLawfulCause setup.filing dev old new e

  abbrev pub OpenEnds : Result A Error → D → D → Type 0
  OpenEnds (Ok r) old new = Opened r old new
  OpenEnds (Err e) old new = NotOpened e old new

  -- An opening over what the blobs keep.
  pub record Opens (result : Result A Error) (old new : D) : Type 0 where
    -- what crashes leave at every moment, also where the call fails
    pub moments : dev.Tells → MayBeOpened setup.filing.layout (disk (dev.time old))
        → OpeningLeaves setup.filing dev old new
    -- no blob is touched but those of the archive
    pub footprint : Footprint dev (IsOwn setup.filing.layout (λ _. ⊤)) (ReadsOnOpening setup.filing dev old new) old new
    -- how it ended
    pub ends : OpenEnds result old new
