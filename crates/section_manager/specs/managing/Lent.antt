-- What the lending of a section's buffer leaves: it is taken out, a step is made on it, and it is put back.
use Rattle.std.specs.Prelude.{◌≡◌, ◌≢◌, ◌≤◌, ℕ, None}
use Rattle.blob_device.specs.Disk.{Key}
use Rattle.blob_device.specs.Timeline.{disk}
use Rattle.blob_device.specs.declared.device.Device as device
use Rattle.sealed_pages.specs.Entries.{IsOpenAt}
use Rattle.section_manager.specs.declared.buffer.SectionBuffer as buffer
use Rattle.section_manager.specs.Entries.{OnlyOwnEntry}
use Rattle.section_manager.specs.Sections.{Sections, key_of, IsOver, IsSame, SameBounds}
use Rattle.section_manager.specs.Setting.{Setting}

-- Calls touched the blob at k alone, also where one failed.
pub record OnlyTouches {D : Type 0} (dev : device.Ghosts D) (k : Key) (old new : D) : Type 0 where
  -- no other entry changed
  pub entries : OnlyOwnEntry k (dev.opened old) (dev.opened new)
  -- no other blob changed
  pub blobs : dev.Tells → (q : Key) → q ≢ k → disk (dev.time new) q ≡ disk (dev.time old) q

module _ {B : Type 0} (g : buffer.Ghosts B) where
  -- A step on the buffer u made v of it.
  pub record StepsTo {D : Type 0} (dev : device.Ghosts D) (u v : B) (old new : D) : Type 0 where
    -- it touched its blob alone
    pub touches : OnlyTouches dev (g.key u) old new
    -- v is of the same blob
    pub key : g.key v ≡ g.key u
    -- and made with the same setting
    pub setting : g.setting v ≡ g.setting u
    -- its blob is opened
    pub «open» : IsOpenAt (dev.opened new) (g.key u) (g.extent v)
    -- and v stands over it
    pub stands : dev.Tells → g.Stands v (disk (dev.time new) (g.key u))

  -- What is asked of a buffer v that is put back into a section.
  pub record PutsBack {F : Type 0} (n : Sections F B) (section : ℕ) (v : B) : Type 0 where
    -- it is not held,
    pub absent : n.held section ≡ None
    -- and may be
    pub floor : n.floor ≤ section
    pub ceiling : section ≤ n.ceiling
    -- v is of its blob
    pub key : g.key v ≡ key_of n section

-- The section was lent, and the manager is o. That section alone has changed, however the lending ended.
pub record IsLent {F B D : Type 0} (g : buffer.Ghosts B) (gives : F → Setting)
    (dev : device.Ghosts D) (m : Sections F B) (section : ℕ) (o : Sections F B) (old new : D)
    : Type 0 where
  -- its blob alone was touched
  pub touches : OnlyTouches dev (key_of m section) old new
  -- the other sections stay
  pub others : (q : ℕ) → q ≢ section → IsSame m o q
  -- the place with its bounds stays
  pub bounds : SameBounds m o
  -- the sections are those of the partition again
  pub over : IsOver g gives dev.Tells o (dev.opened new) (disk (dev.time new))
