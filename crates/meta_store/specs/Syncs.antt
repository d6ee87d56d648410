-- What a sync of a map promises, and a put with a sync.
use Rattle.std.specs.Prelude.{◌≡◌, ◌⊎◌, ◌≤◌, ◌+◌, ◌<◌, ◌^◌, ⊤, true, false, Result, Ok, Err}
use Rattle.std.specs.Result.{IsErrOf}
use Rattle.std.specs.BTreeMap.{insert_entry}
use Rattle.blob_device.specs.Change.{written}
use Rattle.blob_device.specs.Counts.{Rose, next}
use Rattle.blob_device.specs.Disk.{settled_at}
use Rattle.blob_device.specs.Timeline.{Always, disk}
use Rattle.blob_device.specs.declared.device.Device as device
use Rattle.blob_device.specs.declared.runtime.RError.TheVariants.{Fault}
use Rattle.meta_store.specs.declared.copy.Contents.{Contents}
use Rattle.meta_store.specs.declared.error.Error.{Error}
use Rattle.meta_store.specs.declared.error.Error.TheVariants.{Runtime, Full, Mem}
use Rattle.meta_store.specs.Blobs.{blob_of, OnlyOne}
use Rattle.meta_store.specs.Calls.{IsOpened, OthersOpened, NoReads, CalledAtMost}
use Rattle.meta_store.specs.Copies.{copy_of}
use Rattle.meta_store.specs.Crashes.{Mapping}
use Rattle.meta_store.specs.Format.{Format}
use Rattle.meta_store.specs.Store.{Seen, Stands, contents_of, staging, synced_store}

module _ {K V C D : Type 0} (dev : device.Ghosts D) (f : C → Format K V) (m : Seen K V C) where
  module _ (old new : D) where
    -- What each moment of a sync has, also where it fails, on a device that tells its disk.
    pub record SyncMoments : Type 0 where
      -- a crash leaves what was last synced, or what the map has now
      pub crashes : (synced : Contents K V) → Stands (f m.config) m.store synced (disk (dev.time old))
          → Mapping (f m.config) m.store.partition synced (contents_of m.store) (dev.time old) (dev.time new)
      -- no blob changes but that of the older or absent copy
      pub alone : Always (dev.time old) (dev.time new) (OnlyOne m.store.partition m.store.older (disk (dev.time old)))

    -- Over a device that tells its disk: where the map goes, and that it stands.
    pub record SyncedOver (r : Seen K V C) : Type 0 where
      -- a change is written over the older or absent copy, as the next version, and that has settled
      pub wrote : m.store.staged ≡ true → disk (dev.time new) (blob_of m.store.partition m.store.older)
          ≡ settled_at (written (disk (dev.time old) (blob_of m.store.partition m.store.older)).content 0
          (copy_of (f m.config) (m.store.version + 1) (contents_of m.store)))
      -- what the map has is then what was last synced
      pub stands : (synced : Contents K V) → Stands (f m.config) m.store synced (disk (dev.time old))
          → Stands (f m.config) r.store (contents_of m.store) (disk (dev.time new))

    -- The map is synced, and then it is r.
    pub record Synced (r : Seen K V C) : Type 0 where
      -- it is as before; where a change was staged it has the next version, the other copy is the older one, and none is
      pub same : r.store ≡ synced_store m.store
      -- its configuration stays
      pub setting : r.config ≡ m.config
      -- with nothing staged no call is made,
      pub idle : m.store.staged ≡ false → new ≡ old
      -- else there are two,
      pub calls : m.store.staged ≡ true → (dev.time new).calls ≡ next (next (dev.time old).calls)
      -- and the next version is a u64
      pub room : m.store.staged ≡ true → m.store.version + 1 < 2 ^ 64
      -- what became of the disk
      pub told : dev.Tells → SyncedOver r

    -- why a sync fails
    abbrev pub IsSyncCause : Error → Type 0
    -- want of memory is free
    IsSyncCause Mem = ⊤
    -- the device failed
    IsSyncCause (Runtime Fault) = Rose (dev.faults old) (dev.faults new)
    -- the next version would pass the greatest u64; then no call was made
    IsSyncCause Full = (2 ^ 64 ≤ m.store.version + 1) × (new ≡ old)
    -- no other comes
    IsSyncCause e = ⊥

    -- The sync failed.
    pub record NotSynced (e : Error) : Type 0 where
      -- a change was staged
      pub staged : m.store.staged ≡ true
      -- why
      pub cause : IsSyncCause e
      -- with no next version that is told, and nothing else
      pub full : 2 ^ 64 ≤ m.store.version + 1 → e ≡ Full

    abbrev pub SyncEnds : Result (Seen K V C) Error → Type 0
    SyncEnds (Ok r) = Synced r
    SyncEnds (Err e) = NotSynced e

    -- The map m is synced.
    pub record Syncs (result : Result (Seen K V C) Error) : Type 0 where
      -- what each moment has, also where the call fails
      pub moments : dev.Tells → SyncMoments
      -- both blobs are still opened,
      pub opened : IsOpened m.store.partition (dev.opened new)
      -- the entries of all others in the list of opened blobs stay,
      pub entries : OthersOpened m.store.partition (dev.opened old) (dev.opened new)
      -- and no read began
      pub reads : NoReads m.store.partition (dev.opened old) (dev.opened new)
      -- two calls at most
      pub most_calls : CalledAtMost 2 (dev.time old).calls (dev.time new).calls
      -- faults never fall
      pub faults : dev.faults old ≤ dev.faults new
      -- how it ended
      pub ends : SyncEnds result

-- the map with a value put at a key, and a change that has not been synced
abbrev pub putting : {K V C : Type 0} → (C → Format K V) → Seen K V C → K → V → Seen K V C
putting f m key value =
    record m { store = staging m.store (insert_entry (f m.config).compare m.store.entries key value) }

-- A value is put and synced: memory was short for the put, and no call was made; or the map with the value put is synced.
abbrev pub PutSyncs : {K V C D : Type 0} → device.Ghosts D → (C → Format K V) → Seen K V C → K → V → D → D
    → Result (Seen K V C) Error → Type 0
PutSyncs dev f m key value old new result =
    (IsErrOf result Mem × (new ≡ old)) ⊎ Syncs dev f (putting f m key value) old new result
