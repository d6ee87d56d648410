-- What opening a map finds, and in which order.
use Rattle.std.specs.Prelude.{◌≡◌, ◌⊎◌, ◌≤◌, ⊤, ℕ, true, false, List, length, Result, Ok, Err}
use Rattle.blob_device.specs.Counts.{Rose}
use Rattle.blob_device.specs.Disk.{Blob, Disk, settled_at}
use Rattle.blob_device.specs.Change.{Make, during}
use Rattle.blob_device.specs.Opened.{entered}
use Rattle.blob_device.specs.Timeline.{Always, disk}
use Rattle.blob_device.specs.declared.device.Device as device
use Rattle.blob_device.specs.declared.error.DevError.{DevError}
use Rattle.blob_device.specs.declared.error.DevError.TheVariants as failure
use Rattle.blob_device.specs.declared.runtime.RError.TheVariants.{Fault}
use Rattle.meta_store.specs.declared.copy.Contents.{Contents}
use Rattle.meta_store.specs.declared.error.Error.{Error}
use Rattle.meta_store.specs.declared.error.Error.TheVariants.{Runtime, Corruption, Mem}
use Rattle.meta_store.specs.declared.error.Side.{Side}
use Rattle.meta_store.specs.declared.error.Side.TheVariants.{Left, Right}
use Rattle.meta_store.specs.declared.pair.Chosen.{Chosen}
use Rattle.meta_store.specs.Format.{Format}
use Rattle.meta_store.specs.Pairs.{ReadsPair}
use Rattle.meta_store.specs.Blobs.{blob_of, read_bytes, OthersStay}
use Rattle.meta_store.specs.Calls.{IsOpened, OthersOpened, NoReads, ReadAtMostOnce, MayRead, CalledAtMost, IsFailure}
use Rattle.meta_store.specs.Crashes.{Keeps, Mapping, ReadsNoChance}
use Rattle.meta_store.specs.Store.{Seen, Stands, MayBeSynced, chosen_by, contents_of}

-- the two blobs, as they read, are copies with this outcome
abbrev pub PairOn : {K V : Type 0} → Format K V → List ℕ → Disk → Result (Chosen K V) Side → Type 0
PairOn f partition d outcome = ReadsPair f (read_bytes (d (blob_of partition Left))) (read_bytes (d (blob_of partition Right))) outcome

-- the right blob is as on the disk `from`, or the left one has settled as it read there
abbrev pub LeftFirst : List ℕ → Disk → Disk → Type 0
LeftFirst partition from d = (d (blob_of partition Right) ≡ from (blob_of partition Right))
    ⊎ (d (blob_of partition Left) ≡ settled_at (read_bytes (from (blob_of partition Left))))

-- the blob while it is opened: as it was, being made where it was absent, or settled as it read
pub data Opens (old b : Blob) : Type 0 where
  as_before : b ≡ old → Opens old b
  begun : b ≡ during Make old → Opens old b
  made : b ≡ record (during Make old) { there = true } → Opens old b
  settled : b ≡ settled_at (read_bytes old) → Opens old b

-- Both blobs are being opened, the left one first, and every other blob is as on the disk `from`.
pub record Opening (partition : List ℕ) (from d : Disk) : Type 0 where
  pub left : Opens (from (blob_of partition Left)) (d (blob_of partition Left))
  pub right : Opens (from (blob_of partition Right)) (d (blob_of partition Right))
  pub order : LeftFirst partition from d
  pub others : OthersStay partition from d

-- ---- the two calls that open the blobs, and the one that reads a copy

module _ {D : Type 0} (dev : device.Ghosts D) (partition : List ℕ) (old new : D) where
  -- Both blobs were opened, and have these lengths.
  pub record BothOpened (lengths : ℕ × ℕ) : Type 0 where
    -- they are in the list of opened blobs, with these lengths
    pub list : dev.opened new ≡ entered (entered (dev.opened old) (blob_of partition Left) lengths.0) (blob_of partition Right) lengths.1
    -- the left one has settled as it read,
    pub left : dev.Tells → disk (dev.time new) (blob_of partition Left) ≡ settled_at (read_bytes (disk (dev.time old) (blob_of partition Left)))
    -- and so has the right one
    pub right : dev.Tells → disk (dev.time new) (blob_of partition Right) ≡ settled_at (read_bytes (disk (dev.time old) (blob_of partition Right)))
    -- each is as long as was answered
    pub left_length : dev.Tells → lengths.0 ≡ length (disk (dev.time new) (blob_of partition Left)).content
    pub right_length : dev.Tells → lengths.1 ≡ length (disk (dev.time new) (blob_of partition Right)).content

  -- they were, or the device failed, or memory was short
  abbrev pub BothOpenedEnds : Result (ℕ × ℕ) DevError → Type 0
  BothOpenedEnds (Ok lengths) = BothOpened lengths
  BothOpenedEnds (Err failure.Fault) = Rose (dev.faults old) (dev.faults new)
  BothOpenedEnds (Err failure.Mem) = ⊤

  -- The blobs of both copies are opened.
  pub record OpensBoth (result : Result (ℕ × ℕ) DevError) : Type 0 where
    -- what is done at each moment
    pub moments : dev.Tells → Always (dev.time old) (dev.time new) (Opening partition (disk (dev.time old)))
    -- of the list of opened blobs only the entries of the two change,
    pub entries : OthersOpened partition (dev.opened old) (dev.opened new)
    -- and no read of them begins
    pub reads : NoReads partition (dev.opened old) (dev.opened new)
    -- two calls at most
    pub calls : CalledAtMost 2 (dev.time old).calls (dev.time new).calls
    -- faults never fall
    pub faults : dev.faults old ≤ dev.faults new
    -- how it ended
    pub ends : BothOpenedEnds result

  -- the bytes of a blob of this length were read: they are what it holds
  abbrev pub LoadEnds : Side → ℕ → Result (List ℕ) Error → Type 0
  LoadEnds side len (Ok bytes) = dev.Tells → length (disk (dev.time old) (blob_of partition side)).content ≡ len
      → bytes ≡ (disk (dev.time old) (blob_of partition side)).content
  LoadEnds side len (Err e) = IsFailure (dev.faults old) (dev.faults new) e

  -- The bytes of an opened blob are read, which has this length.
  pub record Loads (side : Side) (len : ℕ) (result : Result (List ℕ) Error) : Type 0 where
    -- no blob changes
    pub unchanged : dev.Tells → Always (dev.time old) (dev.time new) (λ d. d ≡ disk (dev.time old))
    -- one read of it begins at most
    pub read : MayRead (blob_of partition side) (dev.opened old) (dev.opened new)
    -- one call at most
    pub calls : CalledAtMost 1 (dev.time old).calls (dev.time new).calls
    -- faults never fall
    pub faults : dev.faults old ≤ dev.faults new
    -- how it ended
    pub ends : LoadEnds side len result

-- the map with what was chosen, with nothing staged
pub record HoldsChosen {K V C : Type 0} (partition : List ℕ) (config : C) (chosen : Chosen K V) (m : Seen K V C) : Type 0 where
  -- in this partition,
  pub place : m.store.partition ≡ partition
  -- under this configuration
  pub setting : m.config ≡ config
  -- it has what was chosen,
  pub has : chosen_by m.store (contents_of m.store) ≡ chosen
  -- and nothing is staged
  pub staged : m.store.staged ≡ false

-- that, or memory was short
abbrev pub Holds : {K V C : Type 0} → List ℕ → C → Chosen K V → Result (Seen K V C) Error → Type 0
Holds partition config chosen (Ok m) = HoldsChosen partition config chosen m
Holds partition config chosen (Err e) = e ≡ Mem

-- ---- an opening

module _ {K V C D : Type 0} (dev : device.Ghosts D) (f : C → Format K V) (config : C) (partition : List ℕ) (old new : D) where
  -- What is done to the device, also where the opening fails.
  pub record Looks : Type 0 where
    -- what is done at each moment
    pub moments : dev.Tells → Always (dev.time old) (dev.time new) (Opening partition (disk (dev.time old)))
    -- What a crash leaves at each moment is what it left before. What the two blobs read as settles here, so it must have no
    -- chance seal. It has none where they had settled.
    pub crashes : dev.Tells → (one other : Contents K V) → Keeps (f config) partition one other (disk (dev.time old))
        → ReadsNoChance (f config).seal (disk (dev.time old) (blob_of partition Left))
        → ReadsNoChance (f config).seal (disk (dev.time old) (blob_of partition Right))
        → Mapping (f config) partition one other (dev.time old) (dev.time new)
    -- four calls at most
    pub calls : CalledAtMost 4 (dev.time old).calls (dev.time new).calls
    -- of the list of opened blobs only the entries of the two change
    pub entries : OthersOpened partition (dev.opened old) (dev.opened new)
    -- each of them is read once at most
    pub left_read : ReadAtMostOnce (blob_of partition Left) (dev.opened old) (dev.opened new)
    pub right_read : ReadAtMostOnce (blob_of partition Right) (dev.opened old) (dev.opened new)
    -- faults never fall
    pub faults : dev.faults old ≤ dev.faults new

  -- The map m was opened, on a device that tells its disk.
  pub record OpenedOver (m : Seen K V C) : Type 0 where
    -- it is what the two blobs held, as they read before the call,
    pub reads : PairOn (f config) partition (disk (dev.time old)) (Ok (chosen_by m.store (contents_of m.store)))
    -- and they held nothing else,
    pub only : (chosen : Chosen K V) → PairOn (f config) partition (disk (dev.time old)) (Ok chosen)
        → chosen_by m.store (contents_of m.store) ≡ chosen
    -- nor a copy that is refused
    pub sound : (side : Side) → ¬ PairOn (f config) partition (disk (dev.time old)) (Err side)
    -- it stands
    pub stands : Stands (f config) m.store (contents_of m.store) (disk (dev.time new))

  -- The map m was opened.
  pub record Opened (m : Seen K V C) : Type 0 where
    -- in the partition that was asked for,
    pub place : m.store.partition ≡ partition
    -- under the configuration that was
    pub setting : m.config ≡ config
    -- nothing is staged
    pub staged : m.store.staged ≡ false
    -- its values may be stored
    pub storable : MayBeSynced (f config) m.store.entries
    -- both blobs are opened
    pub opened : IsOpened partition (dev.opened new)
    -- what it is
    pub told : dev.Tells → OpenedOver m

  -- why an opening fails
  abbrev pub IsOpeningCause : Error → Type 0
  -- want of memory is free
  IsOpeningCause Mem = ⊤
  -- the device failed
  IsOpeningCause (Runtime Fault) = Rose (dev.faults old) (dev.faults new)
  -- this copy is sealed and no text of a map, or it is the right one and has the version of the left one
  IsOpeningCause (Corruption side) = dev.Tells → PairOn (f config) partition (disk (dev.time old)) (Err side)
  -- no other comes
  IsOpeningCause e = ⊥

  -- The opening failed.
  pub record NotOpened (e : Error) : Type 0 where
    -- why
    pub cause : IsOpeningCause e
    -- where a copy is refused that is told, unless the device fails or memory is short
    pub refused : dev.Tells → (side : Side) → PairOn (f config) partition (disk (dev.time old)) (Err side)
        → (e ≡ Corruption side) ⊎ IsFailure (dev.faults old) (dev.faults new) e
    -- where the blobs hold a map the device failed or memory was short
    pub complete : dev.Tells → (chosen : Chosen K V) → PairOn (f config) partition (disk (dev.time old)) (Ok chosen)
        → IsFailure (dev.faults old) (dev.faults new) e

  abbrev pub InitEnds : Result (Seen K V C) Error → Type 0
  InitEnds (Ok m) = Opened m
  InitEnds (Err e) = NotOpened e

  -- A map is opened in the partition.
  pub record Inits (result : Result (Seen K V C) Error) : Type 0 where
    -- what is done to the device, also where the call fails
    pub looks : Looks
    -- how it ended
    pub ends : InitEnds result
