-- What an opening gives back of what a crash left.
use Rattle.std.specs.Prelude.{◌≡◌, ℕ, ◌^◌, ◌<◌, ◌≤◌, List, [], length, Option, Result, Ok, Err}
use Rattle.blob_device.specs.Disk.{Disk, IsCrashOf}
use Rattle.blob_device.specs.Timeline.{disk}
use Rattle.blob_device.specs.declared.device.Device as device
use Rattle.sealed_pages.specs.declared.page_blob.PageBlob.{PageBlob}
use Rattle.section_manager.specs.Setting.{Setting}
use Rattle.section_manager.specs.declared.buffer.SectionBuffer as buffer
use Rattle.section_manager.specs.declared.journal.Error.{Error}
use Rattle.section_manager.specs.declared.sealed.AppendFactory.{AppendFactory}
use Rattle.value_codec.specs.declared.codec.Error as codec
use Rattle.cache_store.specs.Changes.{IsFailure, IsSoundOver, Seen, state_over}
use Rattle.cache_store.specs.Config.{layout_of}
use Rattle.cache_store.specs.Kept.{Layout, NoChanceSeal}
use Rattle.cache_store.specs.Opens.{Opens}
use Rattle.cache_store.specs.Reopening.{MayOpen, NothingPending, as_read}
use Rattle.cache_store.specs.Standing.{IsHeld, Leaves, Wanted}
use Rattle.cache_store.specs.declared.config.Config.{Config}

-- The disk has what a crash of the disk d left, without a chance seal.
pub record IsLeft (l : Layout) (d from : Disk) : Type 0 where
  -- it reads as an image that a crash leaves
  pub crash : IsCrashOf d (as_read from)
  -- that has no chance seal
  pub clear : NoChanceSeal l d (as_read from)
  -- and nothing is pending
  pub settled : NothingPending l from

module _ {S D : Type 0} {gs : _} (g : buffer.Ghosts (PageBlob S gs))
    (gives : AppendFactory S → Setting) (dev : device.Ghosts D) where
  module _ (l : Layout) (w : Wanted) (old new : D) where
    -- The cache r holds what is wanted of the sections, and nothing else.
    pub record HoldsWanted (r : Seen g gives dev) : Type 0 where
      -- of each section a prefix with all that was synced, or nothing of one that goes
      pub each : (s : ℕ) → s < 2 ^ 64 → IsHeld l w s ((state_over g gives dev r new).lists s)
      -- behind the last section that a u64 names nothing
      pub no_more : (s : ℕ) → 2 ^ 64 ≤ s → (state_over g gives dev r new).lists s ≡ []
      -- all that is held counts as synced
      pub synced : (s : ℕ) → (state_over g gives dev r new).synced s
          ≡ length ((state_over g gives dev r new).lists s)
      -- the floor is none
      pub floor : (state_over g gives dev r new).floor ≡ 0
      -- so its calls keep what they say of moments
      pub sound : IsSoundOver g gives dev r new
      -- and it may be opened again
      pub rest : MayOpen l (state_over g gives dev r new) (disk (dev.time new))

    -- or there was a failure
    abbrev pub Recovers : Result (Seen g gives dev) Error → Type 0
    Recovers (Ok r) = HoldsWanted r
    Recovers (Err e) = IsFailure (dev.faults old) (dev.faults new) e

  -- An opening of what a crash left holds what each crash had to leave.
  abbrev pub Recovery : {C : Type 0} → (List ℕ → ℕ) → (List ℕ → C → Option codec.Error) → Config C
      → Wanted → Type 0
  Recovery {C = C} seal refusal cfg w = dev.Tells → (d : Disk) (old new : D)
      → Leaves (layout_of seal refusal cfg) w d
      → IsLeft (layout_of seal refusal cfg) d (disk (dev.time old))
      → (result : Result (Seen g gives dev) Error) (kept : Result C Error)
      → Opens g gives dev seal refusal cfg old new result kept
      → Recovers (layout_of seal refusal cfg) w old new result
