-- What follows of an archive by itself, and of a disk before one is opened: what a crash now leaves, and what the
-- state of the machine says of a put or a sync that comes next.
use Rattle.std.specs.Prelude.{◌≡◌, ◌↔◌, ℕ, ◌+◌, ◌<◌, ◌≤◌, ◌^◌, List, [], None}
use Rattle.blob_device.specs.Disk.{Disk, NothingPending}
use Rattle.blob_device.specs.Timeline.{disk}
use Rattle.blob_device.specs.declared.device.Device as device
use Rattle.sealed_pages.specs.declared.page_blob.PageBlob.{PageBlob}
use Rattle.paired.specs.Kept.{Markers}
use Rattle.paired.specs.Opening.{MayBeOpened, as_read}
use Rattle.archives.specs.Changes.{IsSoundOver, state_over}
use Rattle.archives.specs.Filing.{Filing}
use Rattle.archives.specs.Lawful.{Lawful}
use Rattle.archives.specs.Machine.{State, has_index, section_of}
use Rattle.archives.specs.Opening.{HasNoVersion}
use Rattle.archives.specs.Prunable.{Prunable, filing_by, meaning}
use Rattle.archives.specs.Putting.{IsAllowed, IsMovingAfter, IsPassed, Times, WouldPass, after_putting, is_skipped, is_taken}
use Rattle.archives.specs.Rows.{HasRoom}
use Rattle.archives.specs.Standing.{IsStart, Leaves}
use Rattle.archives.specs.Syncing.{IsMoving, IsMovingIn}

module _ {A V F S D : Type 0} {gs : _} (p : Prunable A V F (PageBlob S gs)) (dev : device.Ghosts D) (a : A)
    (now : D) where
  -- Over a device that tells its disk: the state says what the archive would find.
  pub record SaysState : Type 0 where
    -- a put finds its index taken where the state says so
    pub taken : (i : ℕ) → is_taken (p.see a) i ≡ has_index (p.see a).items (state_over (meaning p) dev a now) i
    -- and the limits not reached
    pub allowed : (i : ℕ) → IsAllowed (p.see a) i
        ↔ HasRoom (p.see a).most_sections (p.see a).most_records (state_over (meaning p) dev a now).lists
        (section_of (p.see a).items i)
    -- and no room for what is put, of a sound archive
    pub passed : IsSoundOver (meaning p) dev a now → (i n : ℕ) → n < 2 ^ 64
        → IsPassed (p.see a) i n ↔ WouldPass (filing_by p a) (state_over (meaning p) dev a now) i n
    -- a sync has to move a marker where the state and the markers on the disk say so
    pub moving : IsMoving (p.see a)
        ↔ IsMovingIn (filing_by p a) (disk (dev.time now)) (state_over (meaning p) dev a now)
    -- and a put that syncs where the state after the put does
    pub moving_after : (times : Times) (i : ℕ) (key value : List ℕ)
        → IsMovingAfter (p.see a) i (is_skipped (p.see a) i times)
        ↔ IsMovingIn (filing_by p a) (disk (dev.time now))
        (after_putting times (p.see a).items i key value (state_over (meaning p) dev a now))
    -- where the markers have no next version, those on the disk have none
    pub version : (2 ^ 64 ≤ (p.see a).pair.store.version + 1)
        ↔ HasNoVersion (filing_by p a).layout (disk (dev.time now))

  -- Of an archive that may be used.
  pub record Outlasts : Type 0 where
    -- what a crash now leaves stands for the state
    pub leaves : dev.Tells → IsSoundOver (meaning p) dev a now
        → Leaves (filing_by p a) (state_over (meaning p) dev a now) None (disk (dev.time now))
    -- and the disk may be opened again
    pub opened : dev.Tells → IsSoundOver (meaning p) dev a now
        → MayBeOpened (filing_by p a).layout (disk (dev.time now))
    -- no section with a number of 2^64 or more has records
    pub no_lists : (s : ℕ) → 2 ^ 64 ≤ s → (state_over (meaning p) dev a now).lists s ≡ []
    -- nor is anything synced of it
    pub none_synced : (s : ℕ) → 2 ^ 64 ≤ s → (state_over (meaning p) dev a now).synced s ≡ 0
    -- what a put or a sync would find
    pub state : dev.Tells → SaysState

-- A disk of which nothing is pending may be opened; and where it reads as a lawful image, each crash leaves an image
-- that stands for its start state.
pub record MayStart (f : Filing) (d : Disk) : Type 0 where
  -- it may be opened
  pub opened : NothingPending d → MayBeOpened f.layout d
  -- each crash of a lawful one leaves what stands for its start state
  pub stands : NothingPending d → (markers : Markers) (st : State (List ℕ)) → Lawful f (as_read d) markers
      → IsStart f (as_read d) markers st → Leaves f st None d
