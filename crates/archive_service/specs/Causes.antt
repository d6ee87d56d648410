-- Why a run of commands over a prunable archive ends in an error: by the state of the record machine that it has come
-- to, and over any image by the rows and the bytes that it holds.
use Rattle.std.specs.Prelude.{◌≡◌, ◌≢◌, ◌⊎◌, ℕ, ◌+◌, ◌-◌, ◌*◌, ◌^◌, ◌<◌, ◌≤◌, ◌||◌, ◌&&◌, not, nat_lt, ◌==◌, if◌then◌else◌, Bool, true, false, ⊤, List, [], ◌∷◌, ◌++◌, length, sum_by, Option, Some, None, IsSomeAnd, IsTrue}
use Rattle.std.specs.List.{list_any}
use Rattle.blob_device.specs.Disk.{Disk}
use Rattle.blob_device.specs.declared.runtime.RError.TheVariants as runtime
use Rattle.sealed_pages.specs.Buffer.{extent}
use Rattle.meta_store.specs.declared.error.Error.TheVariants as metadata
use Rattle.meta_store.specs.declared.error.Side.{Side}
use Rattle.section_manager.specs.declared.journal.Error.TheVariants as journal
use Rattle.paired.specs.Kept.{IsMarked}
use Rattle.paired.specs.Opening.{as_read}
use Rattle.archives.specs.Changes.{Asked}
use Rattle.archives.specs.Commands.{Destroy, Reopen}
use Rattle.archives.specs.Filing.{Filing}
use Rattle.archives.specs.Machine.{Entry, State, after_multi, after_put, has_index, section_of}
use Rattle.archives.specs.Opening.{HasNoVersion, HasStray, IsPastLimits, OfKept}
use Rattle.archives.specs.Opens.{HasDamagedPage, HasForeign, HasToMove, HaveBadCopy, IsShortOf, OfMarkers}
use Rattle.archives.specs.Putting.{frame_size}
use Rattle.archives.specs.Rows.{HasRoom, Row}
use Rattle.archives.specs.Syncing.{IsMovingBy, IsMovingIn}
use Rattle.archives.specs.declared.error.Error.{Error}
use Rattle.archives.specs.declared.error.Error.TheVariants.{Journal, Metadata, RecordCorrupted, Full, Mem}
use Rattle.archive_service.specs.Families.{AsksHeld, AsksStored, Family, DestroysAll, IfFree, InAnyCase, OpensAnew, PrunesBelow, PutOf, PutsDurably, PutsRecord, SyncsAll, family_of, put_of}

-- ---- what is under way

-- with none under way an archive is opened, as it is by a reopening
abbrev pub IsOpening : Option Asked → Type 0
IsOpening None = ⊤
IsOpening (Some command) = command ≡ Reopen

-- ---- which commands stage a change of the markers

-- Over the disk, where `Moves` says that a sync behind what is put has to move a marker, and `Raises` that a
-- prune up to a bound moves the floor: it then drops the markers below. A destroy stages nothing, since it
-- removes the markers whole.
module _ (f : Filing) (Moves : Option PutOf → Type 0) (Raises : ℕ → Type 0) (d : Disk) where
  abbrev pub Stages : Family → Type 0
  Stages (PutsDurably put) = Moves (Some put)
  Stages SyncsAll = Moves None
  Stages (PrunesBelow bound) = Raises bound
      × OfMarkers f d (λ markers. (s m : ℕ) × IsMarked markers.entries s m × (s < section_of f.items bound))
  Stages OpensAnew = OfMarkers f d (HasToMove f d)
  Stages DestroysAll = ⊥
  Stages (PutsRecord put) = ⊥
  Stages AsksHeld = ⊥
  Stages AsksStored = ⊥

  -- so does what is under way; an opening as a reopening does
  abbrev pub StagesNow : Option Asked → Type 0
  StagesNow None = Stages OpensAnew
  StagesNow (Some command) = Stages (family_of command)

-- ---- what a put finds

-- the archive is open, and the bound, rounded down to the start of a section, is above the floor
abbrev pub IsRaisedTo : ℕ → Bool → ℕ → ℕ → Type 0
IsRaisedTo items is_open floor bound = IsTrue is_open × (floor < section_of items bound)

-- nothing is put: the archive is closed, or the index is below the floor
abbrev pub drops : Bool → ℕ → ℕ → Bool
drops is_open floor index = not is_open || nat_lt index floor

-- Of a record that is put to lists by section, whose values have so many bytes of each section.
module _ {X : Type 0} (f : Filing) (lists : ℕ → List X) (bytes : ℕ → ℕ) (r : Entry (List ℕ)) where
  -- with the record one section, or the records of its section, would be one more than the limits allow
  abbrev pub IsOverLimits : Type 0
  IsOverLimits = HasRoom f.most_sections f.most_records lists (section_of f.items r.index) → ⊥

  -- a u32 does not count the bytes of its frame
  abbrev pub IsTooLarge : Type 0
  IsTooLarge = 2 ^ 32 - 1 < frame_size f.layout r.value

  -- the records of its section, with both slots of their last page, or the frames of its values, would pass 2^64
  abbrev pub PassesNumbers : Type 0
  PassesNumbers =
      (2 ^ 64 ≤ extent f.layout.page_size ((length (lists (section_of f.items r.index)) + 1) * f.layout.record_size))
      ⊎ (2 ^ 64 ≤ bytes (section_of f.items r.index) + frame_size f.layout r.value)

  -- Why a put of the record is refused, in this order.
  abbrev pub IsFull : Type 0
  IsFull = IsOverLimits ⊎ ((IsTooLarge → ⊥) × PassesNumbers)

  pub record IsLargeAlone : Type 0 where
    -- the limits allow it,
    pub allowed : IsOverLimits → ⊥
    -- and its frame is too large
    pub large : IsTooLarge

-- ---- by the state of the machine

module _ (f : Filing) (st : State (List ℕ)) where
  -- The record that goes last in its section by the step of a put: none where the archive is closed, or its index is
  -- below the floor, nor, of a put that keeps one record at an index, where the index is taken.
  abbrev pub added_by : PutOf → Option (Entry (List ℕ))
  added_by (IfFree r) = if drops st.is_open st.floor r.index || has_index f.items st r.index then None else Some r
  added_by (InAnyCase r) = if drops st.is_open st.floor r.index then None else Some r

  -- the record that the command under way adds, if it adds one, has P
  abbrev pub Adds : Option Asked → (Entry (List ℕ) → Type 0) → Type 0
  Adds None P = ⊥
  Adds (Some command) P = IsSomeAnd (put_of command) (λ put. IsSomeAnd (added_by put) P)

  -- how many bytes the frames of a section's values have
  abbrev pub framed : ℕ → ℕ
  framed s = sum_by (λ r. frame_size f.layout r.value) (st.lists s)

  -- why a put of the record is refused
  abbrev pub IsRefusedAsFull : Entry (List ℕ) → Type 0
  IsRefusedAsFull r = IsFull f st.lists framed r

  abbrev pub IsRefusedAsTooLarge : Entry (List ℕ) → Type 0
  IsRefusedAsTooLarge r = IsLargeAlone f st.lists framed r

  -- the state with what is put; a closed one stays
  abbrev pub with_put_of : Option PutOf → State (List ℕ)
  with_put_of None = st
  with_put_of (Some (IfFree r)) = if st.is_open then after_put f.items r.index r.key r.value st else st
  with_put_of (Some (InAnyCase r)) = if st.is_open then after_multi f.items r.index r.key r.value st else st

  -- Over the disk, the command has to move a marker, or what is under way has: the put has settled, if it is
  -- one. A closed archive moves none but by being opened.
  abbrev pub Moves : Disk → Option PutOf → Type 0
  Moves d put = IsTrue st.is_open × IsMovingIn f d (with_put_of put)

  abbrev pub MustMoveNow : Disk → Option Asked → Type 0
  MustMoveNow d = StagesNow f (Moves d) (IsRaisedTo f.items st.is_open st.floor) d

  abbrev pub MustMove : Disk → Asked → Type 0
  MustMove d command = MustMoveNow d (Some command)

  -- What is under way has to call the markers: an opening reads them, a destroy removes them, and others move one.
  abbrev pub MustTouchMarkers : Disk → Option Asked → Type 0
  MustTouchMarkers d under_way = IsOpening under_way
      ⊎ ((IsTrue st.is_open × (under_way ≡ Some Destroy)) ⊎ MustMoveNow d under_way)

  -- The command is one that is refused, whatever the device does: a put, or one that has to move a marker where the
  -- markers have no next version.
  abbrev pub MustRefuse : Disk → Asked → Type 0
  MustRefuse d command = Adds (Some command) (λ r. IsRefusedAsFull r ⊎ IsRefusedAsTooLarge r)
      ⊎ (MustMove d command × HasNoVersion f.layout d)

  -- the error refuses the put
  abbrev pub RefusesPut : Asked → Error → Type 0
  RefusesPut command e = ((e ≡ Full) × Adds (Some command) IsRefusedAsFull)
      ⊎ ((e ≡ Journal journal.ValueTooLarge) × Adds (Some command) IsRefusedAsTooLarge)

  -- What an error says of a state that a lawful image has led to, where it ends the command that was then under way,
  -- or, with none under way, the opening. `from` is the disk as the command began.
  module _ (under_way : Option Asked) (from : Disk) where
    abbrev pub IsCause : Error → Type 0
    -- want of memory is free
    IsCause Mem = ⊤
    -- the device failed, and counted it; in a call of the markers only where one has to be made
    IsCause (Journal (journal.Runtime runtime.Fault)) = ⊤
    IsCause (Metadata (metadata.Runtime runtime.Fault)) = MustTouchMarkers from under_way
    -- a put of such a value
    IsCause (Journal journal.ValueTooLarge) = Adds under_way IsRefusedAsTooLarge
    -- a put that passes a limit or a number, or a marker to move where the markers have no next version
    IsCause Full = Adds under_way IsRefusedAsFull ⊎ (MustMoveNow from under_way × HasNoVersion f.layout from)
    -- no other comes
    IsCause e = ⊥

-- ---- over any image

-- What an archive knows of itself, and of each section.
pub record Held : Type 0 where
  -- it is open, and not destroyed
  pub is_open : Bool
  -- below this index all was pruned
  pub floor : ℕ
  -- a row for each record
  pub rows : ℕ → List Row
  -- how many bytes its values have
  pub bytes : ℕ → ℕ
  -- how many records are synced
  pub synced : ℕ → ℕ
  -- how many bytes of its records are not flushed
  pub record_tail : ℕ → ℕ
  -- and how many of its values
  pub value_tail : ℕ → ℕ

-- what is known of an archive that was not opened: only a reopening is asked of it, and for that it counts as open
abbrev pub holding_nothing : Held
holding_nothing = record {
  is_open = true;
  floor = 0;
  rows = λ s. [];
  bytes = λ s. 0;
  synced = λ s. 0;
  record_tail = λ s. 0;
  value_tail = λ s. 0;
}

-- A lookup that reads stored bytes. The others go by what is held in memory.
abbrev pub ReadsBytes : Family → Type 0
ReadsBytes AsksStored = ⊤
ReadsBytes AsksHeld = ⊥
ReadsBytes (PutsRecord put) = ⊥
ReadsBytes (PutsDurably put) = ⊥
ReadsBytes SyncsAll = ⊥
ReadsBytes (PrunesBelow bound) = ⊥
ReadsBytes OpensAnew = ⊥
ReadsBytes DestroysAll = ⊥

-- of an open archive a lookup that reads stored bytes is under way
abbrev pub IsLooking : Held → Option Asked → Type 0
IsLooking held None = ⊥
IsLooking held (Some command) = IsTrue held.is_open × ReadsBytes (family_of command)

-- the row of what is put
abbrev pub row_by : PutOf → List Row
row_by (IfFree r) = record { index = r.index; key = r.key } ∷ []
row_by (InAnyCase r) = record { index = r.index; key = r.key } ∷ []

module _ (f : Filing) where
  -- how many bytes its frame has
  abbrev pub frame_by : PutOf → ℕ
  frame_by (IfFree r) = frame_size f.layout r.value
  frame_by (InAnyCase r) = frame_size f.layout r.value

  module _ (held : Held) where
    -- a record has the index
    abbrev pub holds : ℕ → Bool
    holds index = list_any (λ r. r.index == index) (held.rows (section_of f.items index))

    -- what is put at the index is dropped
    abbrev pub skips : ℕ → Bool
    skips index = drops held.is_open held.floor index

    -- a record is added to the section: that of the index, unless it is dropped, where the index is free or need not be
    abbrev pub adds_to : PutOf → ℕ → Bool
    adds_to (IfFree r) s = not (skips r.index || holds r.index) && (s == section_of f.items r.index)
    adds_to (InAnyCase r) s = not (skips r.index) && (s == section_of f.items r.index)

    -- the rows of a section then, and how many bytes its values have
    abbrev pub rows_with : PutOf → ℕ → List Row
    rows_with put s = if adds_to put s then held.rows s ++ row_by put else held.rows s

    abbrev pub bytes_with : PutOf → ℕ → ℕ
    bytes_with put s = if adds_to put s then held.bytes s + frame_by put else held.bytes s

    -- the put of a record is refused by what is held, as by a state: at the limits, for its size, or for a number
    abbrev pub IsPastAll : Entry (List ℕ) → Type 0
    IsPastAll r = IsFull f held.rows held.bytes r

    abbrev pub IsPastSizeAlone : Entry (List ℕ) → Type 0
    IsPastSizeAlone r = IsLargeAlone f held.rows held.bytes r

    -- Surely so: a number is passed only in a section that has rows, since the first record of one passes none.
    abbrev pub IsSurelyFull : Entry (List ℕ) → Type 0
    IsSurelyFull r = IsPastAll r
        × (IsOverLimits f held.rows held.bytes r ⊎ (held.rows (section_of f.items r.index) ≢ []))

    -- something is put and not dropped, at an index that has to be free where it must be, and the record has P
    abbrev pub PutsBy : PutOf → (Entry (List ℕ) → Type 0) → Type 0
    PutsBy (IfFree r) P = ((skips r.index || holds r.index) ≡ false) × P r
    PutsBy (InAnyCase r) P = (skips r.index ≡ false) × P r

    abbrev pub PutsHere : Option Asked → (Entry (List ℕ) → Type 0) → Type 0
    PutsHere None P = ⊥
    PutsHere (Some command) P = IsSomeAnd (put_of command) (λ put. PutsBy put P)

    -- how many rows the section then has, if anything is put
    abbrev pub rows_then : Option PutOf → ℕ → ℕ
    rows_then None s = length (held.rows s)
    rows_then (Some put) s = length (rows_with put s)

    -- Over the disk, what is under way has to move a marker. It is an opening, or it syncs where a section with all
    -- its records synced has another marker.
    abbrev pub MustMoveHeld : Disk → Option Asked → Type 0
    MustMoveHeld d = StagesNow f
        (λ put. IsTrue held.is_open × IsMovingBy f d (λ s. rows_then put s) held.synced)
        (IsRaisedTo f.items held.is_open held.floor) d

    -- What is under way has to call the markers: an opening reads them, a destroy removes them, and others move one.
    abbrev pub MustTouchHeld : Disk → Option Asked → Type 0
    MustTouchHeld d under_way = IsOpening under_way
        ⊎ ((IsTrue held.is_open × (under_way ≡ Some Destroy)) ⊎ MustMoveHeld d under_way)

  -- the disk has what an opening refuses: a bad copy of the markers, a foreign name, a record in another section than
  -- its index, or more than the limits
  abbrev pub IsUnfit : Disk → Type 0
  IsUnfit d = ((side : Side) × HaveBadCopy f d side) ⊎ (((name : List ℕ) × HasForeign f d name)
      ⊎ (OfKept f (as_read d) (HasStray f.items) ⊎ OfKept f (as_read d) (IsPastLimits f.most_sections f.most_records)))

  -- Over the disk, from any image on, the command is one that is refused, whatever the device does: a put, one that
  -- has to move a marker where the markers have no next version, or a reopening of an unfit disk.
  abbrev pub MustRefuseAnywhere : Held → Disk → Asked → Type 0
  MustRefuseAnywhere held d command = PutsHere held (Some command) (λ r. IsSurelyFull held r ⊎ IsPastSizeAlone held r)
      ⊎ ((MustMoveHeld held d (Some command) × HasNoVersion f.layout d) ⊎ ((command ≡ Reopen) × IsUnfit d))

  -- the error refuses the put
  abbrev pub RefusesAnywhere : Held → Asked → Error → Type 0
  RefusesAnywhere held command e = ((e ≡ Full) × PutsHere held (Some command) (IsSurelyFull held))
      ⊎ ((e ≡ Journal journal.ValueTooLarge) × PutsHere held (Some command) (IsPastSizeAlone held))

  -- Why an error ends what was under way, from any image on, where the store held so much. `from` is the disk as it
  -- began, and `to` as it ended. Which stored bytes a lookup met is not said here.
  module _ (held : Held) (under_way : Option Asked) (from to : Disk) where
    abbrev pub IsCauseAnywhere : Error → Type 0
    -- want of memory is free
    IsCauseAnywhere Mem = ⊤
    -- the device failed, and counted it; in a call of the markers only where one has to be made
    IsCauseAnywhere (Journal (journal.Runtime runtime.Fault)) = ⊤
    IsCauseAnywhere (Metadata (metadata.Runtime runtime.Fault)) = MustTouchHeld held from under_way
    -- a put, of a record at a free index: the limits first, then its size, then the numbers
    IsCauseAnywhere (Journal journal.ValueTooLarge) = PutsHere held under_way (IsPastSizeAlone held)
    -- or an opening that keeps more than the limits, or a marker to move where the markers have no next version
    IsCauseAnywhere Full = PutsHere held under_way (IsPastAll held)
        ⊎ ((IsOpening under_way × OfKept f (as_read from) (IsPastLimits f.most_sections f.most_records))
        ⊎ (MustMoveHeld held from under_way × HasNoVersion f.layout from))
    -- the copies of the markers, a name, or a record that is kept in another section than its index
    IsCauseAnywhere (Metadata (metadata.Corruption side)) = IsOpening under_way × HaveBadCopy f from side
    IsCauseAnywhere (Journal (journal.InvalidBlobName name)) = IsOpening under_way × HasForeign f from name
    IsCauseAnywhere RecordCorrupted = IsOpening under_way × OfKept f (as_read from) (HasStray f.items)
    -- a section has less than its marker says
    IsCauseAnywhere (Journal (journal.Corruption x)) = IsOpening under_way
        × OfMarkers f from (λ markers. IsShortOf f from markers x)
    -- a page below a marker is damaged, or stored bytes that a lookup met
    IsCauseAnywhere (Journal (journal.Runtime (runtime.InvalidChecksum k))) =
        (IsOpening under_way × OfMarkers f from (λ markers. HasDamagedPage f to markers k)) ⊎ IsLooking held under_way
    -- stored bytes that a lookup met
    IsCauseAnywhere (Journal (journal.Runtime runtime.OffsetOverflow)) = IsLooking held under_way
    IsCauseAnywhere (Journal (journal.Runtime runtime.BlobInsufficientLength)) = IsLooking held under_way
    IsCauseAnywhere (Journal (journal.SectionOutOfRange n)) = IsLooking held under_way
    IsCauseAnywhere (Journal (journal.ChecksumMismatch stored computed)) = IsLooking held under_way
    IsCauseAnywhere (Journal (journal.Codec e)) = IsLooking held under_way
    -- no other comes
    IsCauseAnywhere e = ⊥
