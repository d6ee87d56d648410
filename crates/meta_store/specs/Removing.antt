-- In which order the copies of a map are removed, and what a removal promises.
use Rattle.std.specs.Prelude.{◌≡◌, ◌⊎◌, ◌≤◌, ℕ, false, List, None, Result, Ok, Err}
use Rattle.blob_device.specs.Disk.{Blob, Disk, nothing}
use Rattle.blob_device.specs.Change.{Remove, during}
use Rattle.blob_device.specs.Timeline.{Always, disk}
use Rattle.blob_device.specs.declared.device.Device as device
use Rattle.meta_store.specs.declared.copy.Contents.{Contents}
use Rattle.meta_store.specs.declared.error.Error.{Error}
use Rattle.meta_store.specs.declared.error.Side.{Side}
use Rattle.meta_store.specs.Blobs.{blob_of, other_side, OthersStay}
use Rattle.meta_store.specs.Calls.{OthersOpened, CalledAtMost, IsFailure}
use Rattle.meta_store.specs.Crashes.{Mapping}
use Rattle.meta_store.specs.Format.{Format}
use Rattle.meta_store.specs.Pairs.{empty_map}
use Rattle.meta_store.specs.Store.{Seen, Stands}

-- the blob while it is removed: as it was, being removed, or gone
pub data Removes (old b : Blob) : Type 0 where
  as_before : b ≡ old → Removes old b
  begun : b ≡ during Remove old → Removes old b
  unseen : b ≡ record (during Remove old) { there = false } → Removes old b
  gone : b ≡ nothing → Removes old b

-- both blobs are being removed, the one of the older copy first, and every other blob is as on the disk `from`
pub record Removing (partition : List ℕ) (older : Side) (from d : Disk) : Type 0 where
  pub older_blob : Removes (from (blob_of partition older)) (d (blob_of partition older))
  pub newer_blob : Removes (from (blob_of partition (other_side older))) (d (blob_of partition (other_side older)))
  pub order : (d (blob_of partition (other_side older)) ≡ from (blob_of partition (other_side older))) ⊎ (d (blob_of partition older) ≡ nothing)
  pub others : OthersStay partition from d

module _ {K V C D : Type 0} (dev : device.Ghosts D) (f : C → Format K V) (m : Seen K V C) (old new : D) where
  -- What each moment of a removal has, also where it fails, on a device that tells its disk.
  pub record RemovalMoments : Type 0 where
    -- a crash leaves what was last synced, or the empty map and floor 0
    pub crashes : (synced : Contents K V) → Stands (f m.config) m.store synced (disk (dev.time old))
        → Mapping (f m.config) m.store.partition synced empty_map (dev.time old) (dev.time new)
    -- the older or absent copy's blob is removed, then the other one
    pub removing : Always (dev.time old) (dev.time new) (Removing m.store.partition m.store.older (disk (dev.time old)))

  -- Both copies are removed.
  pub record Removed : Type 0 where
    -- their blobs are gone,
    pub gone : dev.Tells → (side : Side) → disk (dev.time new) (blob_of m.store.partition side) ≡ nothing
    -- and not opened
    pub closed : (side : Side) → dev.opened new (blob_of m.store.partition side) ≡ None

  -- they are, or the device failed, or memory was short
  abbrev pub RemovalEnds : Result (Unit {0}) Error → Type 0
  RemovalEnds (Ok x) = Removed
  RemovalEnds (Err e) = IsFailure (dev.faults old) (dev.faults new) e

  -- The map m is removed from the device.
  pub record Destroys (result : Result (Unit {0}) Error) : Type 0 where
    -- what each moment has, also where the call fails
    pub moments : dev.Tells → RemovalMoments
    -- each of the two entries in the list of opened blobs is as before, or gone,
    pub listed : (side : Side) → (dev.opened new (blob_of m.store.partition side) ≡ dev.opened old (blob_of m.store.partition side))
        ⊎ (dev.opened new (blob_of m.store.partition side) ≡ None)
    -- and all others stay
    pub entries : OthersOpened m.store.partition (dev.opened old) (dev.opened new)
    -- two calls at most
    pub calls : CalledAtMost 2 (dev.time old).calls (dev.time new).calls
    -- faults never fall
    pub faults : dev.faults old ≤ dev.faults new
    -- how it ended
    pub ends : RemovalEnds result
