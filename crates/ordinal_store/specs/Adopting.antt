-- Opening a section's blob, and making a buffer over it.
use Rattle.std.specs.Prelude.{◌≡◌, ◌≢◌, ◌⊎◌, ℕ, ◌≤◌, false, length, Result, IfOk, OnOk, OnErr}
use Rattle.blob_device.specs.Change.{Make, FailedTo, done, during}
use Rattle.blob_device.specs.Disk.{Blob, Key}
use Rattle.blob_device.specs.Opened.{OpenedList}
use Rattle.blob_device.specs.Timeline.{Always, OnlyAt}
use Rattle.sealed_pages.specs.declared.write_blob.WriteBlob.{WriteBlob}
use Rattle.sealed_pages.specs.Entries.{IsOpenAt}
use Rattle.sealed_pages.specs.unsealed.Writing.{Over, blob_key, is_unsettled, shown, size_of}
use Rattle.ordinal_store.specs.Calls.{HasFailed, StartsNoRead}
use Rattle.ordinal_store.specs.Stores.{Sight, now}
use Rattle.ordinal_store.specs.declared.ordinal.Error.{Error}

-- a buffer over an opened blob, all of whose bytes have settled
pub record IsRested (key : Key) (capacity : ℕ) (opened : OpenedList) (u : WriteBlob) : Type 0 where
  pub key_is : blob_key (shown u) ≡ key
  pub capacity_is : u.capacity ≡ capacity
  pub is_open : IsOpenAt opened key u.end
  pub clean : is_unsettled (shown u) ≡ false
  pub size : size_of (shown u) ≡ u.settled

-- that, where the disk is told with the blob's bytes for its own
pub record IsReady (told : Type 0) (key : Key) (capacity : ℕ) (v : Sight) (u : WriteBlob) : Type 0 where
  pub rested : IsRested key capacity v.opened u
  pub over : told → Over (shown u) (now v key)
  pub size : told → size_of (shown u) ≡ length (now v key).content

-- the blob is as before, or its making is under way, failed or done
abbrev pub IsMaking : Blob → Blob → Type 0
IsMaking from b = (b ≡ from) ⊎ ((b ≡ during Make from) ⊎ (FailedTo Make from b ⊎ (b ≡ done Make from)))

-- The blob is opened, and made where it is absent. The buffer stands over all of it.
pub record Adopting (told : Type 0) (key : Key) (capacity : ℕ) (result : Result WriteBlob Error) (old new : Sight) : Type 0 where
  pub ready : IfOk result (IsReady told key capacity new)
  pub made : told → OnOk result (now new key ≡ done Make (now old key))
  pub moments : told → Always old.time new.time (OnlyAt key (now old) (IsMaking (now old key)))
  pub entries : (q : Key) → q ≢ key → new.opened q ≡ old.opened q
  pub unread : StartsNoRead old.opened new.opened
  pub faults : old.faults ≤ new.faults
  pub cause : OnErr result (HasFailed result old new)
