-- What each call of a cache promises: one relation between the cache, what it was called with, what
-- it answered, and the device before and after.
use Rattle.std.specs.Prelude.{◌≡◌, ◌⊎◌, ⊤, ℕ, ◌<◌, ◌≤◌, ◌^◌, false, List, length, Option, Some, None, Result, Ok, Err, IfOk, IsTrue, ◌||◌, ◌&&◌, ◌==◌, max, nat_le}
use Rattle.blob_device.specs.Counts.{Rose}
use Rattle.blob_device.specs.Disk.{Key, Disk}
use Rattle.blob_device.specs.Footprint.{Footprint, NoBound}
use Rattle.blob_device.specs.Timeline.{Always, disk}
use Rattle.blob_device.specs.declared.device.Device as device
use Rattle.blob_device.specs.declared.runtime.RError.TheVariants as runtime
use Rattle.ordinal_store.specs.Numbers.{Set, AreMissing}
use Rattle.sealed_pages.specs.Buffer.{FlushesNothing}
use Rattle.sealed_pages.specs.Reading.{Unchanged}
use Rattle.sealed_pages.specs.Shown.{shown}
use Rattle.sealed_pages.specs.declared.page_blob.PageBlob.{PageBlob}
use Rattle.section_manager.specs.Lasting.{Going}
use Rattle.section_manager.specs.Sections.{key_of, IsHeld, IsKeyOf, IsKnown, SamePlace}
use Rattle.section_manager.specs.declared.buffer.SectionBuffer as buffer
use Rattle.section_manager.specs.declared.journal.Error.{Error}
use Rattle.section_manager.specs.declared.journal.Error.TheVariants.{Full, Mem, Runtime, ValueTooLarge}
use Rattle.section_manager.specs.declared.sealed.AppendFactory.{AppendFactory}
use Rattle.section_manager.specs.Setting.{Setting}
use Rattle.segments.specs.FixedAdding.{Overfills, WouldOverfill}
use Rattle.variable_journal.specs.Frames.{frame}
use Rattle.cache_store.specs.Caches.{Cache, IsCache, IsSound, IsTold, holds, state_of}
use Rattle.cache_store.specs.Machine.{Answer, Call, Done, Put, PutSync, Sync, Prune, Get, Value, Missing, Items, State, Step, nothing_put, section_of}
use Rattle.cache_store.specs.Records.{record_bytes}
use Rattle.cache_store.specs.Reopening.{MayOpen}
use Rattle.cache_store.specs.Standing.{Leaves, Wanted, wanted_at_destroy, wanted_of}

-- there was no memory, or the device failed, and then its count of faults rose
abbrev pub IsFailure : ℕ → ℕ → Error → Type 0
IsFailure before now e = (e ≡ Mem) ⊎ ((e ≡ Runtime runtime.Fault) × Rose before now)

-- the value as spelled, where there is one
abbrev pub spelled_value : {V : Type 0} → (V → List ℕ) → Option V → Option (List ℕ)
spelled_value spelling None = None
spelled_value spelling (Some v) = Some (spelling v)

-- What a cache has in memory, over any device: it holds just these indices, and has this floor.
pub record Recalls {F S : Type 0} {gs : _} (c : Cache F (PageBlob S gs)) (least : ℕ) (indices : Set)
    : Type 0 where
  pub floor : c.floor ≡ least
  pub held : (i : ℕ) → holds c i ≡ indices i

-- the indices that are held, and one more unless it is below the floor
abbrev pub with_index : {F S : Type 0} {gs : _} → Cache F (PageBlob S gs) → ℕ → Set
with_index c index i = holds c i || ((i == index) && nat_le c.floor index)

-- the indices that are held from a bound on
abbrev pub held_from : {F S : Type 0} {gs : _} → Cache F (PageBlob S gs) → ℕ → Set
held_from c bound i = holds c i && nat_le bound i

-- What a call answers that asks about indices. It makes no call of a device.
pub record Says {F S : Type 0} {gs : _} (c : Cache F (PageBlob S gs))
    (IsRight : Cache F (PageBlob S gs) → Type 0) (call : Call (List ℕ)) (answer : Answer (List ℕ))
    : Type 0 where
  -- it is right of what the cache has in memory, over any device
  pub memory : IsRight c
  -- and is the answer of the machine, over each disk with which memory agrees
  pub step : (d : Disk) → IsTold c d → Step c.layout.items (state_of c d) call answer (state_of c d)

-- the numbers, or want of memory
abbrev pub SaysItems : {F S : Type 0} {gs : _} → Cache F (PageBlob S gs) → ℕ → ℕ
    → Result (List ℕ) Error → Type 0
SaysItems c start most (Ok numbers) =
    Says c (λ x. AreMissing x.indices start most numbers) (Missing start most) (Items numbers)
SaysItems c start most (Err e) = e ≡ Mem

module _ {S D : Type 0} {gs : _} (g : buffer.Ghosts (PageBlob S gs))
    (gives : AppendFactory S → Setting) (dev : device.Ghosts D) where
  -- what contracts see of a cache
  abbrev pub Seen : Type 0
  Seen = Cache (AppendFactory S) (PageBlob S gs)

  -- the cache may be used with the device
  abbrev pub MayUse : Seen → D → Type 0
  MayUse c d = IsCache c g gives dev.Tells (dev.opened d) (disk (dev.time d))

  -- it is sound over the device's disk
  abbrev pub IsSoundOver : Seen → D → Type 0
  IsSoundOver c d = IsSound c (disk (dev.time d))

  -- its state over that disk
  abbrev pub state_over : Seen → D → State (List ℕ)
  state_over c d = state_of c (disk (dev.time d))

  module _ (c : Seen) where
    -- what crashes have to leave of it with a call under way
    abbrev pub wanted : Option (Call (List ℕ)) → D → Wanted
    wanted under_way d = wanted_of c.layout.items (state_over c d) under_way

    -- The call was carried out, and the cache is now r.
    pub record Changed (call : Call (List ℕ)) (r : Seen) (old new : D) : Type 0 where
      -- it may be used
      pub over : MayUse r new
      -- it is kept as before
      pub layout : r.layout ≡ c.layout
      -- and its buffers flush as before
      pub place : SamePlace c.journal.sections r.journal.sections
      -- it is sound where it was
      pub sound : dev.Tells → IsSoundOver c old → IsSoundOver r new
      -- then each crash leaves what stands for its state, and it may be opened again
      pub rest : dev.Tells → IsSoundOver c old
          → MayOpen r.layout (state_over r new) (disk (dev.time new))
      -- the call was a step
      pub step : dev.Tells → Step c.layout.items (state_over c old) call Done (state_over r new)

    -- A call that takes the cache, may touch some blobs, and may fail for some causes.
    module _ (call : Call (List ℕ)) (MayTouch : Key → Type 0) (IsCause : Error → Type 0) where
      abbrev pub ChangeEnds : Result Seen Error → D → D → Type 0
      ChangeEnds (Ok r) old new = Changed call r old new
      ChangeEnds (Err e) old new = IsCause e

      -- The answer is seen also as what the codec is told then.
      pub record Changes {C : Type 0} (result : Result Seen Error) (cfg : C) (kept : Result C Error)
          (old new : D) : Type 0 where
        -- at each moment, also inside calls of the device and where the call fails, each crash
        -- leaves what stands for the state with this call under way
        pub moments : dev.Tells → IsSoundOver c old
            → Always (dev.time old) (dev.time new) (Leaves c.layout (wanted (Some call) old))
        -- no other blob is touched
        pub footprint : Footprint dev MayTouch NoBound old new
        -- what the codec is told stays
        pub config : IfOk kept (λ x. x ≡ cfg)
        -- how it ended
        pub ends : ChangeEnds result old new

    -- ---- put

    -- a put at this index stores nothing
    abbrev pub IsSkipped : ℕ → Type 0
    IsSkipped index = (index < c.floor) ⊎ IsTrue (holds c index)

    module _ (index : ℕ) (spelled : List ℕ) where
      abbrev section : ℕ
      section = section_of c.layout.items index

      abbrev item : List ℕ
      item = record_bytes index spelled

      -- its record is longer than a u32 counts
      abbrev pub IsTooLarge : Type 0
      IsTooLarge = 2 ^ 32 ≤ length item

      -- its section is held, and would be longer than a u64 counts
      abbrev pub IsOverfull : Type 0
      IsOverfull = Overfills c.journal section (length (frame item))

      -- its section would be longer than a u64 counts
      abbrev pub HasNoRoom : Type 0
      HasNoRoom = WouldOverfill c.journal section (length (frame item))

      -- why a put fails: the record is too large, or its section is full, or a failure
      abbrev pub IsPutCause : ℕ → ℕ → Error → Type 0
      IsPutCause before now e = ((e ≡ ValueTooLarge) × (IsSkipped index → ⊥) × IsTooLarge)
          ⊎ (((e ≡ Full) × (IsSkipped index → ⊥)
          × (dev.Tells ⊎ IsHeld c.journal.sections section → HasNoRoom))
          ⊎ IsFailure before now e)

      -- What a put, and one that syncs, tell of the limits.
      pub record Limits (result : Result Seen Error) (old new : D) : Type 0 where
        -- a record that is too large is refused
        pub large : (IsSkipped index → ⊥) → IsTooLarge → result ≡ Err ValueTooLarge
        -- and nothing was written then
        pub refuses : result ≡ Err ValueTooLarge → new ≡ old
        -- so is one for which there is no room, unless there was no memory to see it
        pub full : (IsSkipped index → ⊥) → (IsTooLarge → ⊥) → IsOverfull
            → (result ≡ Err Full) ⊎ (result ≡ Err Mem)
        -- then nothing was written to a section that is held
        pub full_refuses : result ≡ Err Full → IsHeld c.journal.sections section → new ≡ old

      -- the sections that a sync settles then: that of the index where its record is stored, and
      -- those that it would have settled
      abbrev pub IsWritten : ℕ → Type 0
      IsWritten s = ((s ≡ section) × (IsSkipped index → ⊥)) ⊎ (c.written s ≡ None → ⊥)

      -- `put`: where the index is below the floor, or is held, nothing is stored.
      pub record Puts {C : Type 0} (result : Result Seen Error) (cfg : C) (kept : Result C Error)
          (old new : D) : Type 0 where
        -- it is a step of the machine, that touches the section's blob alone
        pub changes : Changes (Put index spelled)
            (λ q. (q ≡ key_of c.journal.sections section) × (IsSkipped index → ⊥))
            (IsPutCause (dev.faults old) (dev.faults new)) result cfg kept old new
        -- where nothing is stored the device is not touched
        pub skips : IsSkipped index → (result ≡ Ok c) × (new ≡ old)
        -- nor below the capacity of its section's buffer
        pub buffered : (u : _) → c.journal.sections.held section ≡ Some u
            → FlushesNothing (shown u) (length (frame item)) → new ≡ old
        -- the index is held then
        pub memory : (r : Seen) → result ≡ Ok r → Recalls r c.floor (with_index c index)
        -- a sync settles no other sections
        pub written : (r : Seen) → result ≡ Ok r → (s : ℕ) → (r.written s ≡ None → ⊥) → IsWritten s
        -- the limits
        pub limits : Limits result old new

      -- `put_sync`: as `put` and then `sync`; below the floor neither.
      pub record PutSyncs {C : Type 0} (result : Result Seen Error) (cfg : C)
          (kept : Result C Error) (old new : D) : Type 0 where
        -- it is a step of the machine
        pub changes : Changes (PutSync index spelled) (IsKeyOf c.journal.sections IsWritten)
            (IsPutCause (dev.faults old) (dev.faults new)) result cfg kept old new
        -- below the floor nothing is synced
        pub skips : index < c.floor → (result ≡ Ok c) × (new ≡ old)
        -- where nothing is stored, and nothing was written, the device is not touched
        pub idle : IsSkipped index → ((s : ℕ) → c.written s ≡ None) → new ≡ old
        -- the index is held then
        pub memory : (r : Seen) → result ≡ Ok r → Recalls r c.floor (with_index c index)
        -- else nothing is left to sync
        pub written : c.floor ≤ index → (r : Seen) → result ≡ Ok r → (s : ℕ) → r.written s ≡ None
        -- the limits
        pub limits : Limits result old new

    -- ---- sync

    -- `sync`: what was written settles.
    pub record Syncs {C : Type 0} (result : Result Seen Error) (cfg : C) (kept : Result C Error)
        (old new : D) : Type 0 where
      -- it is a step of the machine
      pub changes : Changes Sync (IsKeyOf c.journal.sections (λ s. c.written s ≡ None → ⊥))
          (IsFailure (dev.faults old) (dev.faults new)) result cfg kept old new
      -- where nothing was written the device is not touched
      pub idle : ((s : ℕ) → c.written s ≡ None) → new ≡ old
      -- the indices are held as before
      pub memory : (r : Seen) → result ≡ Ok r → Recalls r c.floor (holds c)
      -- nothing is left to sync
      pub written : (r : Seen) → result ≡ Ok r → (s : ℕ) → r.written s ≡ None

    -- ---- prune and destroy

    -- no blob is there of a section that P names
    abbrev pub NoneThere : (ℕ → Type 0) → Disk → Type 0
    NoneThere P d = (s : ℕ) → s < 2 ^ 64 → P s → (d (key_of c.journal.sections s)).there ≡ false

    -- At each moment, also where the call fails, the blob of a section that P names is as before,
    -- under removal, or gone. It is as before until those of all older ones are gone.
    abbrev pub OldestFirst : (ℕ → Type 0) → D → D → Type 0
    OldestFirst P old new = Always (dev.time old) (dev.time new) (Going c.journal.sections
        (λ s. IsKnown c.journal.sections s × P s) (λ s t. s < t) (disk (dev.time old)))

    module _ (bound : ℕ) where
      -- the start of the bound's section
      abbrev rounded : ℕ
      rounded = section_of c.layout.items bound

      -- `prune`: the sections below that are gone.
      pub record Prunes {C : Type 0} (result : Result Seen Error) (cfg : C) (kept : Result C Error)
          (old new : D) : Type 0 where
        -- it is a step of the machine, that touches the blobs of these alone
        pub changes : Changes (Prune bound) (IsKeyOf c.journal.sections (λ s. s < rounded))
            (IsFailure (dev.faults old) (dev.faults new)) result cfg kept old new
        -- at or below the floor nothing is done
        pub low : rounded ≤ c.floor → (result ≡ Ok c) × (new ≡ old)
        -- none of these blobs is left
        pub gone : dev.Tells → (r : Seen) → result ≡ Ok r
            → NoneThere (λ s. s < rounded) (disk (dev.time new))
        -- they go in order
        pub oldest_first : dev.Tells → OldestFirst (λ s. s < rounded) old new
        -- no index below is held, and the floor is no lower
        pub memory : (r : Seen) → result ≡ Ok r
            → Recalls r (max c.floor rounded) (held_from c rounded)
        -- of the others a sync settles what it would have settled
        pub written : (r : Seen) → result ≡ Ok r → (s : ℕ)
            → (r.written s ≡ c.written s) ⊎ ((s < rounded) × (r.written s ≡ None))

    -- `destroy`: the sections are gone.
    pub record Destroys (result : Result Unit Error) (old new : D) : Type 0 where
      -- at each moment, also where it fails, each crash leaves of each section what it would have
      -- left, or nothing
      pub moments : dev.Tells → IsSoundOver c old → Always (dev.time old) (dev.time new)
          (Leaves c.layout (wanted_at_destroy (state_over c old)))
      -- no blob is touched but the sections'
      pub footprint : Footprint dev (IsKeyOf c.journal.sections (λ s. ⊤)) NoBound old new
      -- no blob of a section is left
      pub gone : dev.Tells → result ≡ Ok tt → NoneThere (λ s. ⊤) (disk (dev.time new))
      -- a cache of which nothing was put may be opened then
      pub rest : dev.Tells → IsSoundOver c old → result ≡ Ok tt
          → MayOpen c.layout nothing_put (disk (dev.time new))
      -- they go in order
      pub oldest_first : dev.Tells → OldestFirst (λ s. ⊤) old new
      -- why it fails
      pub cause : (e : Error) → result ≡ Err e → IsFailure (dev.faults old) (dev.faults new) e

    -- ---- get

    -- `get`: the value at the index, if it is held.
    pub record Gets (index : ℕ) (result : Result (Option (List ℕ)) Error) (old new : D)
        : Type 0 where
      -- it is a step of the machine
      pub step : dev.Tells → (v : Option (List ℕ)) → result ≡ Ok v
          → Step c.layout.items (state_over c old) (Get index) (Value v) (state_over c new)
      -- the cache may still be used
      pub over : MayUse c new
      -- no blob's history has changed
      pub unchanged : dev.Tells → Unchanged (dev.time old) (dev.time new)
      -- so each crash during it leaves the state
      pub moments : dev.Tells → IsSoundOver c old
          → Always (dev.time old) (dev.time new) (Leaves c.layout (wanted None old))
      -- the device is not touched where the index is not held
      pub absent : holds c index ≡ false → (result ≡ Ok None) × (new ≡ old)
      -- no blob is read but that of the section
      pub footprint : Footprint dev
          (λ q. q ≡ key_of c.journal.sections (section_of c.layout.items index)) NoBound old new
      -- why it fails, over a device that tells its disk
      pub cause : dev.Tells → (e : Error) → result ≡ Err e
          → IsFailure (dev.faults old) (dev.faults new) e
      -- over any device, a fault is answered only where its count of faults rose
      pub fault : result ≡ Err (Runtime runtime.Fault) → Rose (dev.faults old) (dev.faults new)
