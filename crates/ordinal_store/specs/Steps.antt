-- The steps that puts and syncs are made of, each on the buffer of one section.
use Rattle.std.specs.Prelude.{◌≡◌, ℕ, ◌≤◌, ◌<◌, List, length, Option, Some, None, Result, IfOk, OnErr, IsTrue, IsSome}
use Rattle.blob_device.specs.Disk.{Key}
use Rattle.blob_device.specs.Timeline.{Always}
use Rattle.ordinal_store.specs.Calls.{HasFailed, IsBlobOf, SamePlace, StartsNoRead}
use Rattle.sealed_pages.specs.Entries.{ReadsAtMost}
use Rattle.sealed_pages.specs.Reading.{Unchanged}
use Rattle.sealed_pages.specs.unsealed.Writing.{WriteBuffer, blob_key, bytes_of}
use Rattle.ordinal_store.specs.Durable.{Stays}
use Rattle.ordinal_store.specs.Slots.{part_at}
use Rattle.ordinal_store.specs.Stores.{IsQuiet, IsUsable, Sight, Store, now, slots_of}
use Rattle.ordinal_store.specs.declared.ordinal.Error.{Error}

-- So many bytes of a buffer's are read from a place on, by one read at most. Nothing changes.
pub record PartRead {T : Type 0} (items : T → List ℕ) (told : Type 0) (u : WriteBuffer) (at n : ℕ) (result : Result T Error) (old new : Sight) : Type 0 where
  pub bytes : told → IfOk result (λ r. items r ≡ part_at (bytes_of u (now old (blob_key u)).content) at n)
  pub size : IfOk result (λ r. length (items r) ≡ n)
  pub unchanged : told → Unchanged old.time new.time
  pub reads : ReadsAtMost 1 (blob_key u) old.opened new.opened
  pub faults : old.faults ≤ new.faults
  pub cause : OnErr result (HasFailed result old new)

-- a section that was written since the last sync, or none where there is none
abbrev pub IsWrittenOne : Store → Option ℕ → Type 0
IsWrittenOne o None = (s : ℕ) → IsTrue (o.written s) → ⊥
IsWrittenOne o (Some s) = IsTrue (o.written s)

-- the store shows the same slots, and what was quiet is quiet
pub record SameSlots (told : Type 0) (o : Store) (old new : Sight) (r : Store) : Type 0 where
  pub place : SamePlace o r
  pub usable : IsUsable r told new.opened (now new)
  pub ranges : r.ranges ≡ o.ranges
  pub slots : told → (j : ℕ) → slots_of r (now new) j ≡ slots_of o (now old) j
  pub quiet : (j : ℕ) → IsQuiet o j → IsQuiet r j

-- A step on the blobs that it may touch. At each moment, however it ends, the quiet slots that are durable stay so.
pub record Stepping {T : Type 0} (show : T → Store) (told : Type 0) (o : Store) (MayTouch : Key → Type 0) (result : Result T Error) (old new : Sight) : Type 0 where
  pub kept : IfOk result (λ r. SameSlots told o old new (show r))
  pub moments : told → Always old.time new.time (Stays o.layout (IsQuiet o) MayTouch (now old))
  pub entries : (q : Key) → (MayTouch q → ⊥) → new.opened q ≡ old.opened q
  pub unread : StartsNoRead old.opened new.opened
  pub faults : old.faults ≤ new.faults
  pub cause : OnErr result (HasFailed result old new)

-- The buffer of one section is settled. `size` tells how many sections are noted as written.
pub record Settling {T : Type 0} (show : T → Store) (size : T → ℕ) (told : Type 0) (o : Store) (before s : ℕ) (result : Result T Error) (old new : Sight) : Type 0 where
  -- it is a step on the section's blob
  pub stepping : Stepping show told o (IsBlobOf o (λ t. t ≡ s)) result old new
  -- no section has a buffer that had none
  pub domain : IfOk result (λ r. (t : ℕ) → IsSome ((show r).buffers t) → IsSome (o.buffers t))
  -- none is noted as written that was not
  pub written : IfOk result (λ r. (t : ℕ) → IsTrue ((show r).written t) → IsTrue (o.written t))
  -- and where this one was, there are fewer
  pub fewer : IsTrue (o.written s) → IfOk result (λ r. size r < before)
