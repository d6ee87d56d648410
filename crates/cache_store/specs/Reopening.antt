-- Over which disks a cache may be opened, and what crashes keep of an image.
use Rattle.std.specs.Prelude.{◌≡◌, ℕ, ◌^◌, ◌<◌, false, List, None}
use Rattle.blob_device.specs.Disk.{Disk, Image, IsCrashOf, IsSettled, longest, reads}
use Rattle.section_manager.specs.Sections.{section_key}
use Rattle.cache_store.specs.Kept.{Layout, NoChanceSeal, kept}
use Rattle.cache_store.specs.Machine.{State}
use Rattle.cache_store.specs.Standing.{Leaves, wanted_of}

-- the image that the disk reads as
abbrev pub as_read : Disk → Image
as_read d q = reads (d q)

module _ (l : Layout) where
  -- no blob of the partition has anything pending
  abbrev pub NothingPending : Disk → Type 0
  NothingPending d = (name : List ℕ) → IsSettled (d (l.partition, name))

  -- Each image that a crash leaves without a chance seal keeps in each section the records of this
  -- one.
  abbrev pub KeepsRecords : Image → Disk → Type 0
  KeepsRecords old d = (image : Image) → IsCrashOf d image → NoChanceSeal l d image
      → (s : ℕ) → s < 2 ^ 64 → kept l image s ≡ kept l old s

  -- A cache may be opened: the disk stands for this state.
  pub record MayOpen (st : State (List ℕ)) (d : Disk) : Type 0 where
    -- as it reads it has no chance seal
    pub no_chance : NoChanceSeal l d (as_read d)
    -- no crash brings bytes back into a section's blob that is not there
    pub absent : (s : ℕ) → s < 2 ^ 64 → (d (section_key l.partition s)).there ≡ false
        → longest (d (section_key l.partition s)) ≡ 0
    -- each crash leaves what stands for the state
    pub stands : Leaves l (wanted_of l.items st None) d
