-- What each call of a store of slots promises: one relation between what it was called with, what it answered, and the device before and after.
--
-- In each, `told` is whether the device tells its disk, `o` the store before, `old` and `new` what the device shows at the beginning and at the end.
-- `moments` holds from the beginning of the call to its end, inside each call of the device, and where the call refuses.
use Rattle.std.specs.Prelude.{◌≡◌, ◌≢◌, ◌⊎◌, ◌↔◌, ℕ, ◌^◌, ◌<◌, ◌≤◌, true, false, cond, nat_eq, List, length, Option, Some, None, unwrap_or, Result, Ok, Err, IfOk, OnOk, OnErr, MatchResult, IsTrue, IsSome}
use Rattle.std.specs.Result.{IsErrOf}
use Rattle.blob_device.specs.declared.runtime.RError.TheVariants.{Fault}
use Rattle.blob_device.specs.Counts.{Rose}
use Rattle.blob_device.specs.Disk.{Disk, Image, Key, nothing, reads, settled_at}
use Rattle.blob_device.specs.Opened.{OpenedList, reads_of}
use Rattle.blob_device.specs.Timeline.{Always}
use Rattle.sealed_pages.specs.Entries.{ReadsAtMost}
use Rattle.sealed_pages.specs.Reading.{Unchanged}
use Rattle.ordinal_store.specs.declared.ordinal.Error.{Error}
use Rattle.ordinal_store.specs.declared.ordinal.Error.TheVariants.{Full, InvalidBlobName, InvalidRecord, Mem, MissingRecord, Runtime}
use Rattle.ordinal_store.specs.Durable.{Going, Stays}
use Rattle.ordinal_store.specs.Marking.{AreWhole, IsFirstRefused, IsKept, IsMended, IsPast, Marking, is_wanted}
use Rattle.ordinal_store.specs.Numbers.{AddsNumber}
use Rattle.ordinal_store.specs.Ranges.{set_of}
use Rattle.ordinal_store.specs.Slots.{HasValue, HoldsSlot, IsSealed, Layout, blob_of, position_of, section_of}
use Rattle.ordinal_store.specs.Stores.{IsCommitted, IsQuiet, IsUsable, Sight, Store, has, key_of, now, slots_of}

-- no read began: no blob has more reads than before
abbrev pub StartsNoRead : OpenedList → OpenedList → Type 0
StartsNoRead old new = (q : Key) → reads_of (new q) ≤ reads_of (old q)

-- there was no memory, or the device failed, and then its count of faults rose
abbrev pub HasFailed : {T : Type 0} → Result T Error → Sight → Sight → Type 0
HasFailed result old new = IsErrOf result Mem ⊎ (IsErrOf result (Runtime Fault) × Rose old.faults new.faults)

-- a slot is missing, or stands where none may
abbrev pub HasRecordError : {T : Type 0} → Result T Error → ℕ → Type 0
HasRecordError result i = IsErrOf result (MissingRecord i) ⊎ IsErrOf result (InvalidRecord i)

-- the partition, the sizes and the codec stay, and so does the buffers' capacity
pub record SamePlace (o r : Store) : Type 0 where
  -- where and how values are stored
  pub layout : r.layout ≡ o.layout
  -- from how many bytes on buffers flush
  pub capacity : r.capacity ≡ o.capacity

-- the blob of a section that has one, and that P names
abbrev pub IsBlobOf : Store → (ℕ → Type 0) → Key → Type 0
IsBlobOf o P q = (s : ℕ) × IsSome (o.buffers s) × P s × (q ≡ key_of o s)

module _ {T : Type 0} (show : T → Store) (told : Type 0) (o : Store) where
  -- `put` at an index of a value with this slot: the last one wins.
  pub record Putting (i : ℕ) (slot : List ℕ) (result : Result T Error) (old new : Sight) : Type 0 where
    -- the place, the sizes and the codec stay
    pub same : IfOk result (λ r. SamePlace o (show r))
    -- the store may be used as it is then
    pub usable : IfOk result (λ r. IsUsable (show r) told new.opened (now new))
    -- the index is held beside those that were
    pub held : IfOk result (λ r. AddsNumber (set_of o.ranges) (set_of (show r).ranges) i)
    -- its slot is the new one; each other index has what it had
    pub slots : told → IfOk result (λ r. (j : ℕ) → slots_of (show r) (now new) j ≡ cond (nat_eq j i) (Some slot) (slots_of o (now old) j))
    -- what was committed at any other index is committed
    pub quiet : IfOk result (λ r. (j : ℕ) → j ≢ i → IsQuiet o j → IsQuiet (show r) j)
    -- at every moment each other committed slot is durable, and no blob but that of the section changes
    pub moments : told → Always old.time new.time (Stays o.layout (λ j. (j ≢ i) × IsQuiet o j) (λ q. q ≡ key_of o (section_of o.layout i)) (now old))
    -- no other blob is opened, closed or read
    pub entries : (q : Key) → q ≢ key_of o (section_of o.layout i) → new.opened q ≡ old.opened q
    -- no read begins
    pub unread : StartsNoRead old.opened new.opened
    -- the count of faults never falls
    pub faults : old.faults ≤ new.faults
    -- it fails for want of memory, or with the device
    pub cause : OnErr result (HasFailed result old new)

  -- `sync`: all that is held is committed then.
  pub record Syncing (result : Result T Error) (old new : Sight) : Type 0 where
    -- the place, the sizes and the codec stay
    pub same : IfOk result (λ r. SamePlace o (show r))
    -- the store may be used as it is then
    pub usable : IfOk result (λ r. IsUsable (show r) told new.opened (now new))
    -- the held indices stay
    pub held : IfOk result (λ r. (show r).ranges ≡ o.ranges)
    -- and so do their slots
    pub slots : told → IfOk result (λ r. (j : ℕ) → slots_of (show r) (now new) j ≡ slots_of o (now old) j)
    -- each of them is committed
    pub committed : told → IfOk result (λ r. (j : ℕ) (slot : List ℕ) → slots_of (show r) (now new) j ≡ Some slot → IsCommitted (show r) (now new) j slot)
    -- at every moment each committed slot is durable, and no blob changes but those of written sections
    pub moments : told → Always old.time new.time (Stays o.layout (IsQuiet o) (IsBlobOf o (λ s. IsTrue (o.written s))) (now old))
    -- no other blob is opened, closed or read
    pub entries : (q : Key) → (IsBlobOf o (λ s. IsTrue (o.written s)) q → ⊥) → new.opened q ≡ old.opened q
    -- no read begins
    pub unread : StartsNoRead old.opened new.opened
    -- the count of faults never falls
    pub faults : old.faults ≤ new.faults
    -- it fails for want of memory, or with the device
    pub cause : OnErr result (HasFailed result old new)

  -- `prune`: the sections below that of `min` are gone, the others as they were.
  pub record Pruning (min : ℕ) (result : Result T Error) (old new : Sight) : Type 0 where
    -- the place, the sizes and the codec stay
    pub same : IfOk result (λ r. SamePlace o (show r))
    -- the store may be used as it is then
    pub usable : IfOk result (λ r. IsUsable (show r) told new.opened (now new))
    -- the indices below the section of the bound are not held any more, and all others are
    pub held : IfOk result (λ r. (j : ℕ) → IsTrue (has (show r) j) ↔ (IsTrue (has o j) × (section_of o.layout min ≤ section_of o.layout j)))
    -- what is held has its slot
    pub slots : told → IfOk result (λ r. (j : ℕ) → section_of o.layout min ≤ section_of o.layout j → slots_of (show r) (now new) j ≡ slots_of o (now old) j)
    -- what was committed there is
    pub quiet : IfOk result (λ r. (j : ℕ) → section_of o.layout min ≤ section_of o.layout j → IsQuiet o j → IsQuiet (show r) j)
    -- no blob of a section below stands
    pub gone : told → OnOk result ((s : ℕ) → s < section_of o.layout min → (now new (key_of o s)).there ≡ false)
    -- no crash brings them back, and they are no longer opened
    pub lost : told → OnOk result ((s : ℕ) → IsSome (o.buffers s) → s < section_of o.layout min → now new (key_of o s) ≡ nothing)
    pub closed : OnOk result ((s : ℕ) → IsSome (o.buffers s) → s < section_of o.layout min → new.opened (key_of o s) ≡ None)
    -- at every moment each durable slot from that section on is durable, and no blob changes but those below it
    pub moments : told → Always old.time new.time (Stays o.layout (λ j. section_of o.layout min ≤ section_of o.layout j) (IsBlobOf o (λ s. s < section_of o.layout min)) (now old))
    -- at every moment the sections below go one by one, the least first
    pub going : told → Always old.time new.time (Going o.layout (λ s. IsSome (o.buffers s) × (s < section_of o.layout min)) (now old))
    -- no entry changes but those of the removed blobs, which are closed
    pub entries : (q : Key) → (new.opened q ≡ old.opened q) ⊎ (IsBlobOf o (λ s. s < section_of o.layout min) q × (new.opened q ≡ None))
    -- the count of faults never falls
    pub faults : old.faults ≤ new.faults
    -- it fails for want of memory, or with the device
    pub cause : OnErr result (HasFailed result old new)

module _ (told : Type 0) (o : Store) where
  -- `destroy`: no section's blob is left, and no blob of another partition was touched.
  pub record Destroying (result : Result Unit Error) (old new : Sight) : Type 0 where
    -- no blob of a section stands
    pub gone : told → OnOk result ((s : ℕ) → s < 2 ^ 64 → (now new (key_of o s)).there ≡ false)
    -- no crash brings them back, and they are no longer opened
    pub lost : told → OnOk result ((s : ℕ) → IsSome (o.buffers s) → now new (key_of o s) ≡ nothing)
    pub closed : OnOk result ((s : ℕ) → IsSome (o.buffers s) → new.opened (key_of o s) ≡ None)
    -- at every moment no blob changes but those of the store's sections
    pub moments : told → Always old.time new.time (Stays o.layout (λ j. ⊥) (IsBlobOf o (λ s. Unit {0})) (now old))
    -- at every moment these go one by one, the least first
    pub going : told → Always old.time new.time (Going o.layout (λ s. IsSome (o.buffers s)) (now old))
    -- no entry changes but those of the removed blobs, which are closed
    pub entries : (q : Key) → (new.opened q ≡ old.opened q) ⊎ (IsBlobOf o (λ s. Unit {0}) q × (new.opened q ≡ None))
    -- the count of faults never falls
    pub faults : old.faults ≤ new.faults
    -- it fails for want of memory, or with the device
    pub cause : OnErr result (HasFailed result old new)

  -- `get`: None exactly where the index is not held; else the value in its slot; and exactly where that holds none, `InvalidRecord`.
  pub record Getting {V : Type 0} (spelling : V → List ℕ) (i : ℕ) (result : Result (Option V) Error) (old new : Sight) : Type 0 where
    -- None is the answer exactly where the index is not held
    pub absent : (result ≡ Ok None) ↔ (has o i ≡ false)
    -- a value is the one whose spelling and seal the slot has
    pub found : told → (v : V) → result ≡ Ok (Some v) → (slot : List ℕ) × (slots_of o (now old) i ≡ Some slot) × IsSealed o.layout slot (spelling v)
    -- the slot is refused only where it holds no value
    pub invalid : told → IsErrOf result (InvalidRecord i) → (slot : List ℕ) × (slots_of o (now old) i ≡ Some slot) × (HasValue o.layout slot → ⊥)
    -- the store may be used on
    pub usable : IsUsable o told new.opened (now new)
    -- no blob changes
    pub unchanged : told → Unchanged old.time new.time
    -- one read at most begins, of the blob of the section
    pub reads : ReadsAtMost 1 (key_of o (section_of o.layout i)) old.opened new.opened
    -- the count of faults never falls
    pub faults : old.faults ≤ new.faults
    -- it fails by such a slot, for want of memory, or with the device
    pub cause : OnErr result (IsErrOf result (InvalidRecord i) ⊎ HasFailed result old new)

-- the marking that a caller gives; with none no slot is wanted
abbrev pub marking_of : Option Marking → Marking
marking_of map = unwrap_or map (λ s. None)

-- the image that the disk reads as
abbrev pub as_read : Disk → Image
as_read d q = reads (d q)

module _ (l : Layout) (map : Option Marking) where
  -- with a map, a name that is not eight bytes long is no section's
  pub record IsForeign (image : Image) (name : List ℕ) : Type 0 where
    -- there is a map
    pub marked : IsSome map
    -- the blob is there
    pub there : IsSome (image (l.partition, name))
    -- its name is not eight bytes long
    pub size : length name ≢ 8

  -- no name is refused, and no wanted index passes the greatest u64
  pub record MayOpen (image : Image) : Type 0 where
    -- no name is refused
    pub names : (name : List ℕ) → IsForeign image name → ⊥
    -- no wanted index passes the greatest u64
    pub numbers : IsPast l (marking_of map) → ⊥

  -- Why an opening refuses, want of memory and faults of the device aside. No two of these hold together, and none where all kept sections are whole.
  abbrev pub IsCause : Image → Error → Type 0
  IsCause image e =
      ((name : List ℕ) × IsForeign image name × (e ≡ InvalidBlobName name))
      ⊎ ((((name : List ℕ) → IsForeign image name → ⊥) × IsPast l (marking_of map) × (e ≡ Full))
      ⊎ (MayOpen image × ((s : ℕ) × IsFirstRefused l (marking_of map) image s e)))

  -- what an opening leaves of the partition: each kept section's blob, mended and settled, and no other blob
  pub record IsLeft (from d : Disk) : Type 0 where
    -- each kept section's blob has its mended bytes, and is settled
    pub mended : (s : ℕ) (c : List ℕ) → IsKept l (marking_of map) s → as_read from (blob_of l s) ≡ Some c
        → (m : List ℕ) × IsMended l (marking_of map s) c m × (d (blob_of l s) ≡ settled_at m)
    -- no other blob of the partition stands
    pub gone : (name : List ℕ) → ((s : ℕ) → IsKept l (marking_of map) s → (l.partition, name) ≢ blob_of l s) → (d (l.partition, name)).there ≡ false
    -- of those that were there no crash brings one back
    pub lost : (name : List ℕ) → ((s : ℕ) → IsKept l (marking_of map) s → (l.partition, name) ≢ blob_of l s) → IsTrue (from (l.partition, name)).there → d (l.partition, name) ≡ nothing

  -- `init`
  module _ {T : Type 0} (show : T → Store) (told : Type 0) where
    pub record Opening (write_buffer : ℕ) (result : Result T Error) (old new : Sight) : Type 0 where
      -- values are stored as was asked
      pub layout : IfOk result (λ r. (show r).layout ≡ l)
      -- and buffered so
      pub capacity : IfOk result (λ r. (show r).capacity ≡ write_buffer)
      -- the store may be used
      pub usable : IfOk result (λ r. IsUsable (show r) told new.opened (now new))
      -- it holds exactly the wanted indices, each with the slot that the image had, and all of them are committed
      pub held : IfOk result (λ r. (j : ℕ) → j < 2 ^ 64 → has (show r) j ≡ is_wanted l.items (marking_of map (section_of l j)) (position_of l j))
      -- each slot is the one that the image had
      pub slots : told → IfOk result (λ r. (j : ℕ) (slot : List ℕ) → slots_of (show r) (now new) j ≡ Some slot → HoldsSlot l (as_read (now old)) j slot)
      -- and is committed
      pub committed : told → IfOk result (λ r. (j : ℕ) (slot : List ℕ) → slots_of (show r) (now new) j ≡ Some slot → IsCommitted (show r) (now new) j slot)
      -- and this is left of the partition
      pub left : told → OnOk result (IsLeft (now old) (now new))
      -- the answer, over every image: Ok only where all kept sections are whole, and each refusal by its cause
      pub answer : told → MatchResult result (λ r. MayOpen (as_read (now old)) × AreWhole l (marking_of map) (as_read (now old)))
          (λ e. IsCause (as_read (now old)) e ⊎ HasFailed result old new)
      -- names and numbers are tested before anything is written
      pub tested : told → (MayOpen (as_read (now old)) → ⊥) → Unchanged old.time new.time
      -- and before any blob is opened
      pub unopened : IsErrOf result Full ⊎ ((name : List ℕ) × (result ≡ Err (InvalidBlobName name))) → new.opened ≡ old.opened
      -- each wanted slot that every crash left is left at every moment
      pub moments : told → Always old.time new.time (Stays l (λ j. is_wanted l.items (marking_of map (section_of l j)) (position_of l j) ≡ true)
          (λ q. (q.0 ≡ l.partition) × IsSome (as_read (now old) q)) (now old))
      -- no blob of another partition is opened, closed or read
      pub entries : (q : Key) → q.0 ≢ l.partition → new.opened q ≡ old.opened q
      -- the count of faults never falls
      pub faults : old.faults ≤ new.faults
      -- over any device these are all answers
      pub failed : OnErr result (((name : List ℕ) × (result ≡ Err (InvalidBlobName name)) × (length name ≢ 8)) ⊎ (IsErrOf result Full ⊎ (((i : ℕ) × HasRecordError result i) ⊎ HasFailed result old new)))
