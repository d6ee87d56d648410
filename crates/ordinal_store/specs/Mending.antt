-- Mending a section when it is opened: it is cut to whole slots, those that are not marked are cleared, and it is settled.
use Rattle.std.specs.Prelude.{◌≡◌, ◌≢◌, ◌⊎◌, ℕ, ◌+◌, ◌*◌, ◌/◌, ◌<◌, ◌≤◌, ◌∷◌, Bool, true, false, List, [], length, take, replicate, unwrap_or, slice_get, Option, Some, None, Result, Err, IfOk, OnErr}
use Rattle.blob_device.specs.declared.runtime.RError.{RError}
use Rattle.blob_device.specs.declared.runtime.RError.TheVariants.{Fault, Mem}
use Rattle.blob_device.specs.Counts.{Rose}
use Rattle.blob_device.specs.Disk.{Key, Outside, longest}
use Rattle.blob_device.specs.Timeline.{Always, Timeline, disk}
use Rattle.sealed_pages.specs.declared.write_blob.WriteBlob.{WriteBlob}
use Rattle.sealed_pages.specs.Entries.{IsOpenAt}
use Rattle.sealed_pages.specs.Sparing.{Sparing}
use Rattle.sealed_pages.specs.View.{Within}
use Rattle.sealed_pages.specs.unsealed.Writing.{Over, WriteBuffer, blob_key, bytes_of, run_of, shown, size_of}
use Rattle.ordinal_store.specs.declared.ordinal.Error.{Error}
use Rattle.ordinal_store.specs.Adopting.{IsReady}
use Rattle.ordinal_store.specs.Calls.{HasFailed}
use Rattle.ordinal_store.specs.Slots.{slot_at}
use Rattle.ordinal_store.specs.Stores.{Sight, now}

-- the slot at a position is marked
abbrev pub is_marked : List Bool → ℕ → Bool
is_marked bits p = unwrap_or (slice_get bits p) false

-- without bits each slot stays as it is, and with bits those that are marked
abbrev pub is_left : Option (List Bool) → ℕ → Bool
is_left None p = true
is_left (Some bits) p = is_marked bits p

-- a place of a slot that is marked
pub record IsInMarked (size : ℕ) (bits : List Bool) (i : ℕ) : Type 0 where
  pub position : ℕ
  pub marked : is_marked bits position ≡ true
  pub within : Within (position * size) size i

-- a place of a slot that stays, below a length
pub record IsInLeft (size : ℕ) (bits : Option (List Bool)) (len i : ℕ) : Type 0 where
  pub position : ℕ
  pub left : is_left bits position ≡ true
  pub within : Within (position * size) size i
  pub below : i < len

-- the buffer's run lies outside the marked slots
abbrev pub IsApart : ℕ → List Bool → WriteBuffer → Type 0
IsApart size bits u = (i : ℕ) → IsInMarked size bits i → Outside (run_of u ∷ []) i

-- The slots that are not marked from position a up to b are zeros, and all other slots are as before.
pub record IsCleared (size : ℕ) (bits : List Bool) (a b : ℕ) (old new : List ℕ) : Type 0 where
  pub size_is : length new ≡ length old
  pub kept : (p : ℕ) → p * size + size ≤ length old → (is_marked bits p ≡ true) ⊎ ((p < a) ⊎ (b ≤ p)) → slot_at size new p ≡ slot_at size old p
  pub cleared : (p : ℕ) → a ≤ p → p < b → p * size + size ≤ length old → is_marked bits p ≡ false → slot_at size new p ≡ replicate size 0

-- the buffer is of the same blob, as long, and with as much settled
pub record IsClearedFrom (u r : WriteBuffer) : Type 0 where
  pub key : blob_key r ≡ blob_key u
  pub capacity : r.capacity ≡ u.capacity
  pub long : size_of r ≡ size_of u
  pub settled : r.settled ≡ u.settled

-- The slots of the buffer may be cleared: it stands over its opened blob, and its run lies outside the marked slots.
pub record IsClearable (told : Type 0) (size : ℕ) (bits : List Bool) (v : Sight) (u : WriteBlob) : Type 0 where
  pub is_open : IsOpenAt v.opened (blob_key (shown u)) u.end
  pub apart : IsApart size bits (shown u)
  pub over : told → Over (shown u) (now v (blob_key (shown u)))
  pub long : told → length (bytes_of (shown u) (now v (blob_key (shown u))).content) ≡ size_of (shown u)

-- at each moment a crash may leave of the blob no more than n bytes, where it may leave no more now
abbrev pub StaysShort : ℕ → Key → Timeline → Timeline → Type 0
StaysShort least key old new = (n : ℕ) → least ≤ n → longest (disk old key) ≤ n → Always old new (λ d. longest (d key) ≤ n)

-- The slots from position a up to b that are not marked are cleared. At every moment, also where the call fails, no place of a marked slot is
-- touched, and what had settled there outlasts each crash.
pub record Clearing (told : Type 0) (size : ℕ) (bits : List Bool) (a b : ℕ) (u : WriteBuffer) (result : Result WriteBlob RError) (old new : Sight) : Type 0 where
  pub moments : told → Sparing (IsInMarked size bits) u.settled (blob_key u) old.time new.time
  pub short : told → StaysShort (size_of u) (blob_key u) old.time new.time
  pub same : IfOk result (λ r. IsClearedFrom u (shown r))
  pub clearable : IfOk result (IsClearable told size bits new)
  pub bytes : told → IfOk result (λ r. IsCleared size bits a b (bytes_of u (now old (blob_key u)).content) (bytes_of (shown r) (now new (blob_key u)).content))
  pub entries : (q : Key) → q ≢ blob_key u → new.opened q ≡ old.opened q
  pub faults : old.faults ≤ new.faults
  pub cause : OnErr result ((result ≡ Err Mem) ⊎ ((result ≡ Err Fault) × Rose old.faults new.faults))

-- so many bytes of whole slots
abbrev pub whole : ℕ → ℕ → ℕ
whole size n = n / size * size

-- The bytes cut to whole slots.
abbrev pub IsCut : ℕ → List ℕ → List ℕ → Type 0
IsCut size old new = new ≡ take (whole size (length old)) old

-- What mending makes of a section's bytes: whole slots, those that stay as they were, and the others zeros.
pub record IsMade (size : ℕ) (bits : Option (List Bool)) (old new : List ℕ) : Type 0 where
  pub size_is : length new ≡ whole size (length old)
  pub kept : (p : ℕ) → p < length old / size → is_left bits p ≡ true → slot_at size new p ≡ slot_at size old p
  pub cleared : (p : ℕ) → p < length old / size → is_left bits p ≡ false → slot_at size new p ≡ replicate size 0

-- A step of mending, through a buffer with nothing unsettled. At every moment the places that R names are not touched, below a length, and what
-- had settled there outlasts each crash. On Ok nothing is unsettled.
pub record Mending (told : Type 0) (key : Key) (capacity : ℕ) (R : ℕ → Type 0) (len : ℕ) (Makes : List ℕ → List ℕ → Type 0) (u : WriteBlob) (result : Result WriteBlob Error) (old new : Sight) : Type 0 where
  pub moments : told → Sparing R len key old.time new.time
  pub short : told → StaysShort (size_of (shown u)) key old.time new.time
  pub ready : IfOk result (IsReady told key capacity new)
  pub bytes : told → IfOk result (λ v. Makes (now old key).content (now new key).content)
  pub entries : (q : Key) → q ≢ key → new.opened q ≡ old.opened q
  pub faults : old.faults ≤ new.faults
  pub cause : OnErr result (HasFailed result old new)
