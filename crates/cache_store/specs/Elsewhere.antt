-- A cache between calls on other partitions of its device.
use Rattle.std.specs.Prelude.{◌≡◌, ℕ, List}
use Rattle.blob_device.specs.Disk.{Disk, Key}
use Rattle.blob_device.specs.Timeline.{disk}
use Rattle.blob_device.specs.declared.device.Device as device
use Rattle.sealed_pages.specs.declared.page_blob.PageBlob.{PageBlob}
use Rattle.section_manager.specs.Setting.{Setting}
use Rattle.section_manager.specs.declared.buffer.SectionBuffer as buffer
use Rattle.section_manager.specs.declared.sealed.AppendFactory.{AppendFactory}
use Rattle.cache_store.specs.Changes.{IsSoundOver, MayUse, Seen, state_over}

-- the blobs of the partition are as on the other disk
abbrev pub IsSameIn : List ℕ → Disk → Disk → Type 0
IsSameIn partition old new = (q : Key) → q.0 ≡ partition → new q ≡ old q

module _ {S D : Type 0} {gs : _} (g : buffer.Ghosts (PageBlob S gs))
    (gives : AppendFactory S → Setting) (dev : device.Ghosts D) (c : Seen g gives dev) (old new : D)
  where
    -- Nothing was done in the cache's partition.
    pub record IsSpared : Type 0 where
      -- its entries in the list of opened blobs are as before
      pub entries : (q : Key) → q.0 ≡ c.layout.partition → dev.opened new q ≡ dev.opened old q
      -- and its blobs
      pub blobs : dev.Tells
          → IsSameIn c.layout.partition (disk (dev.time old)) (disk (dev.time new))

    -- The cache is as it was.
    pub record GoesOn : Type 0 where
      -- it may be used
      pub over : MayUse g gives dev c new
      -- it is sound where it was
      pub sound : dev.Tells → IsSoundOver g gives dev c old → IsSoundOver g gives dev c new
      -- its state is the same
      pub state : dev.Tells → state_over g gives dev c new ≡ state_over g gives dev c old
