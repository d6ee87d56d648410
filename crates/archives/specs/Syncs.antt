-- What a sync promises, and a put that syncs.
use Rattle.std.specs.Prelude.{◌≡◌, ◌⊎◌, ⊤, ℕ, ◌+◌, ◌<◌, ◌≤◌, ◌^◌, Bool, false, List, length, None, Result, Ok, Err}
use Rattle.blob_device.specs.Counts.{Rose}
use Rattle.blob_device.specs.Footprint.{Footprint, NoBound}
use Rattle.blob_device.specs.Timeline.{Always, disk}
use Rattle.blob_device.specs.declared.device.Device as device
use Rattle.blob_device.specs.declared.runtime.RError.TheVariants as runtime
use Rattle.meta_store.specs.declared.error.Error.TheVariants as metadata
use Rattle.section_manager.specs.declared.journal.Error.TheVariants as journal
use Rattle.section_manager.specs.declared.sealed.AppendFactory.{AppendFactory}
use Rattle.sealed_pages.specs.declared.page_blob.PageBlob.{PageBlob}
use Rattle.paired.specs.Crashes.{IsOwn}
use Rattle.paired.specs.glob.Sections as glob
use Rattle.paired.specs.Kept.{content_at, marker_of}
use Rattle.paired.specs.Opening.{as_read}
use Rattle.paired.specs.Pair.{synced_length}
use Rattle.paired.specs.PairSync.{IsSyncOf}
use Rattle.archives.specs.Archives.{Archive}
use Rattle.archives.specs.Changes.{ChangesDurably, IsSoundOver, Settles, state_over}
use Rattle.archives.specs.Filing.{IsSameFiling}
use Rattle.archives.specs.Machine.{after_sync}
use Rattle.archives.specs.Prunable.{Prunable, filing_by, meaning}
use Rattle.archives.specs.Putting.{IsFullFor, IsFullOver, IsMovingAfter, IsTooLargeFor, IsWrittenAfter, Times, after_putting, frame_size, put_start_command, put_sync_command, record_tail, value_tail}
use Rattle.archives.specs.Puts.{Puts, Refuses, skips}
use Rattle.archives.specs.Standing.{Leaves}
use Rattle.archives.specs.Syncing.{IsIdle, IsMoving, IsWritten}
use Rattle.archives.specs.declared.error.Error.{Error}
use Rattle.archives.specs.declared.error.Error.TheVariants.{Journal, Metadata, Full, Mem}

-- Why a sync fails. The numbers are the device's counts of faults before and after.
abbrev pub IsSyncCause : {F S : Type 0} {gs : _} → Archive F (PageBlob S gs) → ℕ → ℕ → Error → Type 0
-- want of memory is free
IsSyncCause a before now Mem = ⊤
-- the device failed: in a call of the markers only where one has to move
IsSyncCause a before now (Journal (journal.Runtime runtime.Fault)) = Rose before now
IsSyncCause a before now (Metadata (metadata.Runtime runtime.Fault)) = Rose before now × IsMoving a
-- a marker has to move, and the version of the markers would pass the greatest u64
IsSyncCause a before now Full = (2 ^ 64 ≤ a.pair.store.version + 1) × IsMoving a
-- no other comes
IsSyncCause a before now e = ⊥

-- Why a put that syncs fails, whose frame has n bytes, and which stores nothing where it is skipped: for a
-- reason of the put, or of the sync.
abbrev pub IsPutSyncCause : {F S : Type 0} {gs : _} → Archive F (PageBlob S gs) → ℕ → Bool → ℕ
    → Type 0 → ℕ → ℕ
    → Error → Type 0
-- want of memory is free
IsPutSyncCause a index skip n told before now Mem = ⊤
-- the device failed: in a call of the markers only where one has to move
IsPutSyncCause a index skip n told before now (Journal (journal.Runtime runtime.Fault)) =
    Rose before now
IsPutSyncCause a index skip n told before now (Metadata (metadata.Runtime runtime.Fault)) =
    Rose before now × IsMovingAfter a index skip
-- the limits, or a number that would pass its type; or a marker has to move, and the markers have no next version
IsPutSyncCause a index skip n told before now Full =
    IsFullOver a index skip told n
    ⊎ ((2 ^ 64 ≤ a.pair.store.version + 1) × IsMovingAfter a index skip)
IsPutSyncCause a index skip n told before now (Journal journal.ValueTooLarge) =
    IsTooLargeFor a index skip n
-- no other comes
IsPutSyncCause a index skip n told before now e = ⊥

-- an error with which the markers stop a sync
abbrev pub IsOfMarkers : Error → Type 0
IsOfMarkers e = (e ≡ Full) ⊎ (e ≡ Metadata (metadata.Runtime runtime.Fault))

module _ {A V S D : Type 0} {gs : _} (p : Prunable A V (AppendFactory S) (PageBlob S gs)) (dev : device.Ghosts D) where
  -- All is synced.
  pub record Synced (a r : A) (old new : D) : Type 0 where
    -- records are filed as before
    pub filing : IsSameFiling (filing_by p a) (filing_by p r)
    -- the words by which lookups look stay
    pub alike : p.alike r ≡ p.alike a
    -- the floor stays
    pub floor : (p.see r).floor ≡ (p.see a).floor
    -- over any image: the rows stay
    pub rows : (s : ℕ) → (p.see r).rows s ≡ (p.see a).rows s
    -- the values have as many bytes as before
    pub values : (s : ℕ) → glob.section_size (p.see r).pair.values s ≡ glob.section_size (p.see a).pair.values s
    -- and those of sections that were written are all in their blobs
    pub stored : dev.Tells → (s : ℕ) → s < 2 ^ 64 → IsWritten (p.see a) s
        → glob.section_size (p.see r).pair.values s
        ≡ length (content_at (as_read (disk (dev.time new))) (filing_by p a).layout.values s)
    -- what is held is the same, and all of it is synced
    pub state : dev.Tells → state_over (meaning p) dev r new ≡ after_sync (state_over (meaning p) dev a old)
    -- Records and values of the sections that were written settle; the markers of the other ones are moved to what
    -- was synced of them.
    pub tracked : IsSyncOf (p.see a).pair (IsWritten (p.see a)) (IsWritten (p.see a)) (p.see r).pair
    -- no section counts as written
    pub none_written : (s : ℕ) → (p.see r).is_written s ≡ false
    -- nothing is left to flush of what was written
    pub flushed : dev.Tells → (s : ℕ) → IsWritten (p.see a) s
        → (record_tail (p.see r) s ≡ 0) × (value_tail (p.see r) s ≡ 0)
    -- where a marker had to move, the markers had a next version
    pub version : IsMoving (p.see a) → (p.see a).pair.store.version + 1 < 2 ^ 64

  -- The sync failed. Where the markers stopped it, all has settled that was written.
  pub record SyncFailed (a : A) (e : Error) (old new : D) : Type 0 where
    -- why
    pub cause : IsSyncCause (p.see a) (dev.faults old) (dev.faults new) e
    -- where the markers stopped it, each crash leaves what stands for all that was put
    pub settled : dev.Tells → IsSoundOver (meaning p) dev a old → IsOfMarkers e
        → Leaves (filing_by p a) (after_sync (state_over (meaning p) dev a old)) None (disk (dev.time new))

  abbrev pub SyncEnds : A → Result A Error → D → D → Type 0
  SyncEnds a (Ok r) old new = Synced a r old new
  SyncEnds a (Err e) old new = SyncFailed a e old new

  -- A sync of the archive a, or one that is started.
  pub record Syncs (a : A) (result : Result A Error) (old new : D) : Type 0 where
    -- what every archive promises
    pub settles : Settles (meaning p) dev a result old new
    -- at each moment, also where the call fails, each crash leaves what stands for the state, with no command under
    -- way that might add to it
    pub moments : dev.Tells → IsSoundOver (meaning p) dev a old
        → Always (dev.time old) (dev.time new) (Leaves (filing_by p a) (state_over (meaning p) dev a old) None)
    -- only blobs of sections that were written are touched, and those of the markers
    pub footprint : Footprint dev (IsOwn (filing_by p a).layout (IsWritten (p.see a))) NoBound old new
    -- where nothing is left to settle and no marker moves, no call of the device is made
    pub idle : IsIdle p.buffers.pages (p.see a) → (IsMoving (p.see a) → ⊥) → new ≡ old
    -- how it ended
    pub ends : SyncEnds a result old new

-- A put of one record to an index, or of one of several, and then a sync.
module _ {A V S D : Type 0} {gs : _} (p : Prunable A V (AppendFactory S) (PageBlob S gs))
    (dev : device.Ghosts D) (times : Times) where
  -- The put, and where it ended Ok the sync of what it made.
  pub data PutThenSync (a : A) (index : ℕ) (key value : List ℕ) (result : Result A Error) (old new : D) : Type 0 where
    refused : (e : Error) → result ≡ Err e → Puts p dev times a index key value (Err e) old new
        → PutThenSync a index key value result old new
    put : (mid : A) (between : D) → Puts p dev times a index key value (Ok mid) old between
        → Syncs p dev mid result between new
        → PutThenSync a index key value result old new

  -- The put was carried out, and all is synced.
  pub record PutSynced (a : A) (index : ℕ) (r : A) : Type 0 where
    -- records are filed as before
    pub filing : IsSameFiling (filing_by p a) (filing_by p r)
    -- no section counts as written
    pub none_written : (s : ℕ) → (p.see r).is_written s ≡ false
    -- the markers of sections that were not written are moved to what was synced of them
    pub moved : (s : ℕ) → (IsWrittenAfter (p.see a) index (skips p times a index) s → ⊥)
        → marker_of (p.see r).pair.store.entries s ≡ synced_length (p.see a).pair s
    -- and no other marker moves
    pub unmoved : (s : ℕ) → IsWrittenAfter (p.see a) index (skips p times a index) s
        → marker_of (p.see r).pair.store.entries s ≡ marker_of (p.see a).pair.store.entries s
    -- where a marker had to move, the markers had a next version
    pub version : IsMovingAfter (p.see a) index (skips p times a index)
        → (p.see a).pair.store.version + 1 < 2 ^ 64

  -- the put has to be refused by `Full`
  abbrev pub IsFullOf : A → ℕ → List ℕ → Type 0
  IsFullOf a index value =
      IsFullFor (p.see a) index (skips p times a index) (frame_size (filing_by p a).layout value)

  -- The put was refused, or failed, or the sync failed. Where the markers stopped the sync, the record has settled.
  pub record PutSyncFailed (a : A) (index : ℕ) (key value : List ℕ) (e : Error) (old new : D) : Type 0 where
    -- why
    pub cause : IsPutSyncCause (p.see a) index (skips p times a index)
        (frame_size (filing_by p a).layout value)
        dev.Tells (dev.faults old) (dev.faults new) e
    -- a value that is too large was not written
    pub too_large : e ≡ Journal journal.ValueTooLarge → new ≡ old
    -- `Full` is that of the put, with nothing written, or that of the markers
    pub full : dev.Tells → e ≡ Full
        → (IsFullOf a index value × (new ≡ old))
        ⊎ ((2 ^ 64 ≤ (p.see a).pair.store.version + 1)
        × IsMovingAfter (p.see a) index (skips p times a index))
    -- Where the markers stopped the sync, the record has settled. `Full` is that of the markers, where the put itself
    -- had room.
    pub settled : dev.Tells → IsSoundOver (meaning p) dev a old → IsOfMarkers e
        → (e ≡ Full → IsFullOf a index value → ⊥)
        → Leaves (filing_by p a)
        (after_sync
        (after_putting times (p.see a).items index key value (state_over (meaning p) dev a old)))
        None (disk (dev.time new))

  abbrev pub PutSyncEnds : A → ℕ → List ℕ → List ℕ → Result A Error → D → D → Type 0
  PutSyncEnds a index key value (Ok r) old new = PutSynced a index r
  PutSyncEnds a index key value (Err e) old new = PutSyncFailed a index key value e old new

  -- A put into the archive a and then a sync, also where nothing was stored. The sync may be one that is started.
  pub record PutSyncs (a : A) (index : ℕ) (key value : List ℕ) (result : Result A Error) (old new : D) : Type 0 where
    -- the two, from which the rest follows
    pub parts : PutThenSync a index key value result old new
    -- what every archive promises
    pub changes : ChangesDurably (meaning p) dev a (put_sync_command times index key value)
        (put_start_command times index key value) result old new
    -- only blobs of sections that are then written are touched, and those of the markers
    pub footprint : Footprint dev
        (IsOwn (filing_by p a).layout
        (IsWrittenAfter (p.see a) index (skips p times a index))) NoBound old new
    -- where the put has to be refused
    pub refuses : Refuses (p.see a) index (skips p times a index)
        (frame_size (filing_by p a).layout value) dev.Tells
        result old new
    -- how it ended
    pub ends : PutSyncEnds a index key value result old new
