-- What a prune promises.
use Rattle.std.specs.Prelude.{◌≡◌, ⊤, ℕ, ◌+◌, ◌^◌, ◌<◌, ◌≤◌, max, false, Result, Ok, Err}
use Rattle.blob_device.specs.Counts.{Rose}
use Rattle.blob_device.specs.Disk.{Key}
use Rattle.blob_device.specs.Footprint.{Footprint, NoBound}
use Rattle.blob_device.specs.Timeline.{disk}
use Rattle.blob_device.specs.declared.device.Device as device
use Rattle.blob_device.specs.declared.runtime.RError.TheVariants as runtime
use Rattle.meta_store.specs.declared.error.Error.TheVariants as metadata
use Rattle.section_manager.specs.Sections.{IsHeld, SamePlace}
use Rattle.section_manager.specs.declared.journal.Error.TheVariants as journal
use Rattle.sealed_pages.specs.declared.page_blob.PageBlob.{PageBlob}
use Rattle.paired.specs.Crashes.{IsBlobOf, IsOwn}
use Rattle.paired.specs.glob.Sections as glob
use Rattle.paired.specs.Kept.{IsMarked, marker_of}
use Rattle.paired.specs.Pair.{synced_length}
use Rattle.archives.specs.Archives.{Archive, IsBare}
use Rattle.archives.specs.Changes.{Changes, NoneThere}
use Rattle.archives.specs.Commands.{Prune}
use Rattle.archives.specs.Filing.{IsSameFiling}
use Rattle.archives.specs.Machine.{section_of}
use Rattle.archives.specs.Prunable.{Prunable, filing_by, meaning}
use Rattle.archives.specs.Putting.{record_tail, value_tail}
use Rattle.archives.specs.declared.error.Error.{Error}
use Rattle.archives.specs.declared.error.Error.TheVariants.{Journal, Metadata, Full, Mem}

module _ {F S : Type 0} {gs : _} (a : Archive F (PageBlob S gs)) (bound : ℕ) where
  -- a section is below the bound, which is rounded down to the start of one
  abbrev pub IsBelow : ℕ → Type 0
  IsBelow s = s < section_of a.items bound

  -- the prune moves the floor
  abbrev pub IsRaising : Type 0
  IsRaising = a.floor < section_of a.items bound

  -- and a section that goes has a marker, which has to be dropped first
  abbrev pub IsDropping : Type 0
  IsDropping = IsRaising × ((s m : ℕ) × IsBelow s × IsMarked a.pair.store.entries s m)

  -- Why a prune fails. The numbers are the device's counts of faults before and after.
  abbrev pub IsPruneCause : ℕ → ℕ → Error → Type 0
  -- want of memory is free
  IsPruneCause before now Mem = ⊤
  -- the device failed: in a call of the markers only where one is dropped
  IsPruneCause before now (Journal (journal.Runtime runtime.Fault)) = Rose before now
  IsPruneCause before now (Metadata (metadata.Runtime runtime.Fault)) = Rose before now × IsDropping
  -- a marker is dropped, and the markers have no next version
  IsPruneCause before now Full = (2 ^ 64 ≤ a.pair.store.version + 1) × IsDropping
  -- no other comes
  IsPruneCause before now e = ⊥

-- a section has the rows, the bytes of values, and what is not flushed, that it had
pub record HasStayed {F S : Type 0} {gs : _} (a r : Archive F (PageBlob S gs))
    (s : ℕ) : Type 0 where
  -- its rows
  pub rows : r.rows s ≡ a.rows s
  -- how many bytes its values have
  pub values : glob.section_size r.pair.values s ≡ glob.section_size a.pair.values s
  -- how many records are synced
  pub synced : synced_length r.pair s ≡ synced_length a.pair s
  -- what is not flushed
  pub tails : (record_tail r s ≡ record_tail a s) × (value_tail r s ≡ value_tail a s)
  -- whether it counts as written
  pub written : r.is_written s ≡ a.is_written s
  -- its marker
  pub marker : marker_of r.pair.store.entries s ≡ marker_of a.pair.store.entries s

module _ {A V F S D : Type 0} {gs : _} (p : Prunable A V F (PageBlob S gs))
    (dev : device.Ghosts D) where
  -- The sections below the bound are gone.
  pub record Pruned (a : A) (bound : ℕ) (r : A) (new : D) : Type 0 where
    -- records are filed as before
    pub filing : IsSameFiling (filing_by p a) (filing_by p r)
    -- the words by which lookups look stay
    pub alike : p.alike r ≡ p.alike a
    -- and from how many bytes on buffers flush
    pub places : SamePlace (p.see a).pair.index.sections (p.see r).pair.index.sections
        × SamePlace (p.see a).pair.values (p.see r).pair.values
    -- the floor is no lower than before, nor than the bound
    pub floor : (p.see r).floor ≡ max (p.see a).floor (section_of (p.see a).items bound)
    -- nothing is held of a section below the bound, and it does not count as written
    pub below : (s : ℕ) → IsBelow (p.see a) bound s → IsBare (p.see r) s
    pub unwritten : (s : ℕ) → IsBelow (p.see a) bound s → (p.see r).is_written s ≡ false
    -- each marker was there, of a section that is not below
    pub marked : (s m : ℕ) → IsMarked (p.see r).pair.store.entries s m
        → (section_of (p.see a).items bound ≤ s) × IsMarked (p.see a).pair.store.entries s m
    -- the others stay as they are
    pub others : (s : ℕ) → section_of (p.see a).items bound ≤ s → HasStayed (p.see a) (p.see r) s
    -- no blob of a section below the bound is there, of records or of values
    pub gone : dev.Tells
        → NoneThere (IsBlobOf (filing_by p a).layout (IsBelow (p.see a) bound))
        (disk (dev.time new))
    -- where a marker was dropped, the markers had a next version
    pub version : IsDropping (p.see a) bound → (p.see a).pair.store.version + 1 < 2 ^ 64

  -- The prune failed.
  pub record PruneFailed (a : A) (bound : ℕ) (e : Error) (old new : D) : Type 0 where
    -- why
    pub cause : IsPruneCause (p.see a) bound (dev.faults old) (dev.faults new) e
    -- where the markers have no next version nothing was written
    pub full : e ≡ Full → new ≡ old
    -- where the device failed in a call of the markers, no blob of a section was touched
    pub first : dev.Tells → e ≡ Metadata (metadata.Runtime runtime.Fault) → (q : Key)
        → IsBlobOf (filing_by p a).layout (IsBelow (p.see a) bound) q
        → disk (dev.time new) q ≡ disk (dev.time old) q

  abbrev pub PruneEnds : A → ℕ → Result A Error → D → D → Type 0
  PruneEnds a bound (Ok r) old new = Pruned a bound r new
  PruneEnds a bound (Err e) old new = PruneFailed a bound e old new

  -- A prune of the archive a up to a bound.
  pub record Prunes (a : A) (bound : ℕ) (result : Result A Error) (old new : D) : Type 0 where
    -- what every change promises
    pub changes : Changes (meaning p) dev a (Prune bound) result old new
    -- only blobs of sections below the bound are touched, and those of the markers
    pub footprint : Footprint dev
        (IsOwn (filing_by p a).layout (IsBelow (p.see a) bound)) NoBound old new
    -- where the bound is at or below the floor nothing is done
    pub low : (IsRaising (p.see a) bound → ⊥) → (result ≡ Ok a) × (new ≡ old)
    -- where no section below it is held no call of the device is made
    pub idle : ((s : ℕ) → IsHeld (p.see a).pair.index.sections s
        → section_of (p.see a).items bound ≤ s) → new ≡ old
    -- how it ended
    pub ends : PruneEnds a bound result old new
