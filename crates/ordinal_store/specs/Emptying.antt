-- Removing blobs of a partition, one after another.
use Rattle.std.specs.Prelude.{◌≡◌, ◌⊎◌, ℕ, ◌^◌, ◌<◌, ◌≤◌, List, None, Result, OnOk, OnErr, IsTrue}
use Rattle.blob_device.specs.Disk.{Disk, Key, nothing}
use Rattle.blob_device.specs.Timeline.{Always}
use Rattle.ordinal_store.specs.declared.ordinal.Error.{Error}
use Rattle.ordinal_store.specs.Calls.{HasFailed}
use Rattle.ordinal_store.specs.Durable.{IsGoing}
use Rattle.ordinal_store.specs.Marking.{IsKept, Marking}
use Rattle.ordinal_store.specs.Slots.{Layout, blob_of}
use Rattle.ordinal_store.specs.Stores.{Sight, now}

-- a blob of the partition
abbrev pub IsIn : List ℕ → Key → Type 0
IsIn partition q = q.0 ≡ partition

-- the blob of a section that is not kept
abbrev pub IsUnkept : Layout → Marking → Key → Type 0
IsUnkept l marking q = (s : ℕ) × (s < 2 ^ 64) × (IsKept l marking s → ⊥) × (q ≡ blob_of l s)

module _ (MayGo : Key → Type 0) where
  -- At a moment: each blob that may go and was there is as before, under removal or gone, and no other blob changed.
  pub record Empties (from d : Disk) : Type 0 where
    pub each : (q : Key) → IsGoing (from q) (d q)
    pub others : (q : Key) → (MayGo q × IsTrue (from q).there → ⊥) → d q ≡ from q

  -- What holds of it however it ends.
  pub record GoesAll (told : Type 0) (old new : Sight) : Type 0 where
    pub moments : told → Always old.time new.time (Empties (now old))
    pub entries : (q : Key) → (new.opened q ≡ old.opened q) ⊎ (MayGo q × (new.opened q ≡ None))
    pub faults : old.faults ≤ new.faults

  -- The removal of all blobs that may go: on Ok no crash brings one back that was there.
  pub record Emptying (told : Type 0) (result : Result (Unit {0}) Error) (old new : Sight) : Type 0 where
    pub goes : GoesAll told old new
    pub gone : told → OnOk result ((q : Key) → MayGo q → IsTrue (now old q).there → now new q ≡ nothing)
    pub cause : OnErr result (HasFailed result old new)
