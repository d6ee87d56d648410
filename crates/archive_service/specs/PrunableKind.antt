-- The prunable archive as a kind of store.
use Rattle.std.specs.Prelude.{◌≢◌, ◌≡◌, ◌⊎◌, ⊤, ℕ, ◌+◌, ◌<◌, ◌≤◌, ◌^◌, max, if◌then◌else◌, true, false, List, [], length, map}
use Rattle.blob_device.specs.Disk.{Disk, Key}
use Rattle.sealed_pages.specs.Tails.{tail_after}
use Rattle.paired.specs.Crashes.{IsBlobOf, IsOwn}
use Rattle.paired.specs.Kept.{Markers, content_at}
use Rattle.paired.specs.Opening.{as_read}
use Rattle.archives.specs.Changes.{Asked}
use Rattle.archives.specs.Commands.{Reopen}
use Rattle.archives.specs.Filing.{Filing, IsBlobAt, floor_of}
use Rattle.archives.specs.Lawful.{Lawful}
use Rattle.archives.specs.Machine.{State, Step, section_of, stored_floor}
use Rattle.archives.specs.Opening.{OfKept}
use Rattle.archives.specs.Opens.{OfMarkers}
use Rattle.archives.specs.Rows.{row_in}
use Rattle.archives.specs.Standing.{IsStart, Leaves}
use Rattle.archive_service.specs.Causes.{Held, IsCause, IsCauseAnywhere, MustRefuse, MustRefuseAnywhere, RefusesAnywhere, RefusesPut, adds_to, bytes_with, frame_by, holding_nothing, rows_with}
use Rattle.archive_service.specs.Families.{AsksHeld, AsksStored, Family, DestroysAll, IfFree, InAnyCase, OpensAnew, PrunesBelow, PutOf, PutsDurably, PutsRecord, SyncsAll, family_of}
use Rattle.archive_service.specs.Kinds.{Kind}

-- The buffers of a section's records, and of its values, flush from so many bytes on.
module _ (f : Filing) (write_buffer value_buffer : ℕ) where
  -- both blobs of the section into which is put
  abbrev pub IsBlobFor : PutOf → Key → Type 0
  IsBlobFor (IfFree r) q = IsBlobAt f r.index q
  IsBlobFor (InAnyCase r) q = IsBlobAt f r.index q

  -- the blobs that a command may change: none by a lookup; by a put that does not sync the two of its
  -- section; by a prune those of the sections below its bound and of the markers; else all of the archive
  abbrev pub MayChange : Family → Key → Type 0
  MayChange AsksHeld q = ⊥
  MayChange AsksStored q = ⊥
  MayChange (PutsRecord put) q = IsBlobFor put q
  MayChange (PutsDurably put) q = IsOwn f.layout (λ _. ⊤) q
  MayChange SyncsAll q = IsOwn f.layout (λ _. ⊤) q
  MayChange (PrunesBelow bound) q = IsOwn f.layout (λ s. s < section_of f.items bound) q
  MayChange OpensAnew q = IsOwn f.layout (λ _. ⊤) q
  MayChange DestroysAll q = IsOwn f.layout (λ _. ⊤) q

  -- the blobs that are not there once the command got a reply: of an open archive, by a prune both of each
  -- section below its bound, and by a destroy all
  abbrev pub ClearsOpen : Family → Key → Type 0
  ClearsOpen (PrunesBelow bound) q = IsBlobOf f.layout (λ s. s < section_of f.items bound) q
  ClearsOpen DestroysAll q = IsOwn f.layout (λ _. ⊤) q
  ClearsOpen AsksHeld q = ⊥
  ClearsOpen AsksStored q = ⊥
  ClearsOpen (PutsRecord put) q = ⊥
  ClearsOpen (PutsDurably put) q = ⊥
  ClearsOpen SyncsAll q = ⊥
  ClearsOpen OpensAnew q = ⊥

  -- ---- what an archive holds, over any image

  -- nothing is left to flush, and all is synced
  pub record IsSettled (held : Held) : Type 0 where
    -- all rows are synced
    pub synced : (s : ℕ) → held.synced s ≡ length (held.rows s)
    -- no bytes of records are left to flush
    pub record_tail : (s : ℕ) → held.record_tail s ≡ 0
    -- nor of values
    pub value_tail : (s : ℕ) → held.value_tail s ≡ 0

  -- once it was opened
  pub record IsFound (from to : Disk) (held : Held) : Type 0 where
    -- it is open
    pub is_open : held.is_open ≡ true
    -- its floor is what is left of the one that stands with the markers: 0, whatever the copies name
    pub floor : OfMarkers f from (λ markers. held.floor ≡ stored_floor (floor_of markers))
    -- a row for each record that the image keeps
    pub rows : OfKept f (as_read from) (λ entries. (s : ℕ) → s < 2 ^ 64
        → held.rows s ≡ map (λ e. row_in f.key_size e.stored) (entries s))
    -- none behind the last section that a u64 names
    pub no_more : (s : ℕ) → 2 ^ 64 ≤ s → held.rows s ≡ []
    -- all bytes of its value blobs
    pub bytes : (s : ℕ) → s < 2 ^ 64
        → held.bytes s ≡ length (content_at (as_read to) f.layout.values s)
    -- all is synced and flushed
    pub settled : IsSettled held

  -- both buffers of the section are there, and have room for what is put
  pub record FitsBuffers (held : Held) (put : PutOf) (s : ℕ) : Type 0 where
    -- the section has records
    pub records_there : held.rows s ≢ []
    -- and values
    pub values_there : held.bytes s ≢ 0
    -- with one more, the buffer of records is not full
    pub record_room : held.record_tail s + f.layout.record_size < write_buffer
    -- nor that of values
    pub value_room : held.value_tail s + frame_by f put < value_buffer

  -- it is open as before, and its floor is the same
  pub record IsOpenAsBefore (held next : Held) : Type 0 where
    -- it is open just where it was
    pub is_open : next.is_open ≡ held.is_open
    -- below the same index all was pruned
    pub floor : next.floor ≡ held.floor

  -- Of a section, behind a put into it: what was not flushed and what is new stay unflushed, until they fill their
  -- buffer. Then nothing does.
  pub record AreTailsWith (held : Held) (put : PutOf) (next : Held) (s : ℕ) : Type 0 where
    -- of its records
    pub records : next.record_tail s ≡ tail_after write_buffer (held.record_tail s) f.layout.record_size
    -- and of its values
    pub values : next.value_tail s ≡ tail_after value_buffer (held.value_tail s) (frame_by f put)

  -- What is put was added, where it adds a record.
  pub record HoldsPut (held : Held) (put : PutOf) (next : Held) : Type 0 where
    -- the row goes last in its section
    pub rows : (s : ℕ) → next.rows s ≡ rows_with f held put s
    -- the bytes of values are those of its frame more
    pub bytes : (s : ℕ) → next.bytes s ≡ bytes_with f held put s
    -- nothing is synced
    pub synced : (s : ℕ) → next.synced s ≡ held.synced s
    -- what is then not flushed of the section put into
    pub own_tails : (s : ℕ) → adds_to f held put s ≡ true → AreTailsWith held put next s
    -- what is not flushed of other sections stays
    pub other_tails : (s : ℕ) → adds_to f held put s ≡ false
        → (next.record_tail s ≡ held.record_tail s) × (next.value_tail s ≡ held.value_tail s)
    -- nothing else changes
    pub stays : IsOpenAsBefore held next

  -- a put that does not sync makes no call of the device where it adds nothing, or both buffers have room
  abbrev pub IsBuffered : Held → PutOf → Type 0
  IsBuffered held put = (s : ℕ) → adds_to f held put s ≡ true → FitsBuffers held put s

  -- A sync changes no row and no number of bytes.
  pub record HoldsSynced (held next : Held) : Type 0 where
    -- the rows stay
    pub rows : (s : ℕ) → next.rows s ≡ held.rows s
    -- so do the numbers of bytes
    pub bytes : (s : ℕ) → next.bytes s ≡ held.bytes s
    -- all is synced and flushed
    pub settled : IsSettled next
    -- nothing else changes
    pub stays : IsOpenAsBefore held next

  -- a put, and then a sync
  pub record HoldsPutAndSynced (held : Held) (put : PutOf) (next : Held) : Type 0 where
    -- what is held between them
    pub between : Held
    -- what is put was added
    pub holds_put : HoldsPut held put between
    -- and then all was synced
    pub synced : HoldsSynced between next

  -- of a section nothing changes
  pub record StaysAt (held next : Held) (s : ℕ) : Type 0 where
    -- its rows
    pub rows : next.rows s ≡ held.rows s
    -- its bytes
    pub bytes : next.bytes s ≡ held.bytes s
    -- how many rows are synced
    pub synced : next.synced s ≡ held.synced s
    -- what is not flushed of its records
    pub record_tail : next.record_tail s ≡ held.record_tail s
    -- and of its values
    pub value_tail : next.value_tail s ≡ held.value_tail s

  -- of a section nothing is left
  pub record IsEmptyAt (held : Held) (s : ℕ) : Type 0 where
    -- no row
    pub rows : held.rows s ≡ []
    -- no bytes
    pub bytes : held.bytes s ≡ 0
    -- nothing synced
    pub synced : held.synced s ≡ 0
    -- no bytes of records to flush
    pub record_tail : held.record_tail s ≡ 0
    -- nor of values
    pub value_tail : held.value_tail s ≡ 0

  -- An open archive was pruned: the sections below the bound, rounded down to the start of a section, are gone, and
  -- no other changes. Below the floor they were gone before. A closed one stays.
  pub record HoldsPruned (held : Held) (bound : ℕ) (next : Held) : Type 0 where
    -- it is open as before
    pub is_open : next.is_open ≡ held.is_open
    -- the floor is the greater of what it was and the bound, rounded down to the start of a section
    pub floor : next.floor ≡ (if held.is_open then max held.floor (section_of f.items bound) else held.floor)
    -- the sections below the bound are gone
    pub below : held.is_open ≡ true → (s : ℕ) → s < section_of f.items bound → IsEmptyAt next s
    -- the others stay; all do where it is closed
    pub others : (s : ℕ) → (section_of f.items bound ≤ s) ⊎ (held.is_open ≡ false)
        → StaysAt held next s

  -- it was destroyed: it is closed, and of no section anything is left
  pub record IsDestroyed (next : Held) : Type 0 where
    -- it is closed
    pub closed : next.is_open ≡ false
    -- it has no section
    pub empty : (s : ℕ) → IsEmptyAt next s

  -- once a command got a reply
  abbrev pub Learns : Held → Family → Disk → Disk → Held → Type 0
  Learns held (PutsRecord put) from to next = HoldsPut held put next
  Learns held (PutsDurably put) from to next = HoldsPutAndSynced held put next
  Learns held SyncsAll from to next = HoldsSynced held next
  Learns held (PrunesBelow bound) from to next = HoldsPruned held bound next
  Learns held OpensAnew from to next = IsFound from to next
  Learns held DestroysAll from to next = IsDestroyed next
  Learns held AsksHeld from to next = next ≡ held
  Learns held AsksStored from to next = next ≡ held

  -- a closed one clears nothing away
  abbrev pub Clears : Held → Asked → Key → Type 0
  Clears held command q = (held.is_open ≡ true) × ClearsOpen (family_of command) q

  -- commands to an open archive that make no call of the device: they are answered by what is held, or find
  -- nothing to do
  abbrev pub IsQuietOpen : Held → Family → Type 0
  IsQuietOpen held AsksHeld = ⊤
  IsQuietOpen held (PutsRecord put) = IsBuffered held put
  IsQuietOpen held (PrunesBelow bound) = section_of f.items bound ≤ held.floor
  IsQuietOpen held AsksStored = ⊥
  IsQuietOpen held (PutsDurably put) = ⊥
  IsQuietOpen held SyncsAll = ⊥
  IsQuietOpen held OpensAnew = ⊥
  IsQuietOpen held DestroysAll = ⊥

  -- so do all commands to a closed one, but the one that opens it
  abbrev pub IsQuiet : Held → Asked → Type 0
  IsQuiet held command =
      ((held.is_open ≡ false) × (command ≡ Reopen → ⊥)) ⊎ IsQuietOpen held (family_of command)

  -- ---- the kind

  abbrev pub prunable_kind : Kind
  prunable_kind = record {
    State = State (List ℕ);
    Lawful = λ image. (markers : Markers) × Lawful f image markers;
    IsStart = λ image st. (markers : Markers) × IsStart f image markers st;
    Step = Step f.items;
    Leaves = Leaves f;
    MustRefuse = λ st d. MustRefuse f st d;
    Refuses = RefusesPut f;
    IsCause = IsCause f;
    Known = Held;
    unknown = holding_nothing;
    IsFound = IsFound;
    Learns = λ held command. Learns held (family_of command);
    Clears = Clears;
    IsCauseAnywhere = IsCauseAnywhere f;
    MustRefuseAnywhere = MustRefuseAnywhere f;
    RefusesAnywhere = RefusesAnywhere f;
    IsOwn = IsOwn f.layout (λ _. ⊤);
    MayChange = λ command. MayChange (family_of command);
    IsQuiet = IsQuiet;
  }
