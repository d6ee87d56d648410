-- What the removal of a prunable archive promises.
use Rattle.std.specs.Prelude.{◌≡◌, ⊤, ℕ, None, Result, Ok, Err}
use Rattle.blob_device.specs.Counts.{Rose}
use Rattle.blob_device.specs.Disk.{Key, nothing}
use Rattle.blob_device.specs.Timeline.{disk}
use Rattle.blob_device.specs.declared.device.Device as device
use Rattle.blob_device.specs.declared.runtime.RError.TheVariants as runtime
use Rattle.meta_store.specs.declared.error.Error.TheVariants as metadata
use Rattle.section_manager.specs.declared.journal.Error.TheVariants as journal
use Rattle.sealed_pages.specs.declared.page_blob.PageBlob.{PageBlob}
use Rattle.paired.specs.Crashes.{IsBlobOf, IsCopy}
use Rattle.paired.specs.Opening.{MayBeOpened}
use Rattle.archives.specs.Changes.{Destroys, IsSoundOver, state_over}
use Rattle.archives.specs.Machine.{after_destroy}
use Rattle.archives.specs.Prunable.{Prunable, filing_by, meaning}
use Rattle.archives.specs.Standing.{Leaves}
use Rattle.archives.specs.declared.error.Error.{Error}
use Rattle.archives.specs.declared.error.Error.TheVariants.{Journal, Metadata, Mem}

-- Why a removal fails. The numbers are the device's counts of faults before and after.
abbrev pub IsDestroyCause : ℕ → ℕ → Error → Type 0
-- want of memory is free
IsDestroyCause before now Mem = ⊤
-- the device failed
IsDestroyCause before now (Journal (journal.Runtime runtime.Fault)) = Rose before now
IsDestroyCause before now (Metadata (metadata.Runtime runtime.Fault)) = Rose before now
-- no other comes
IsDestroyCause before now e = ⊥

module _ {A V F S D : Type 0} {gs : _} (p : Prunable A V F (PageBlob S gs))
    (dev : device.Ghosts D) where
  -- The archive is gone.
  pub record IsGone (a : A) (old new : D) : Type 0 where
    -- the markers are gone for good: no crash brings them back
    pub markers : dev.Tells → (q : Key) → IsCopy (filing_by p a).layout q
        → disk (dev.time new) q ≡ nothing
    -- each crash now leaves what stands for the closed state
    pub rest : dev.Tells → IsSoundOver (meaning p) dev a old
        → Leaves (filing_by p a) (after_destroy (state_over (meaning p) dev a old)) None
        (disk (dev.time new))
    -- and the disk may be opened again
    pub opened : dev.Tells → IsSoundOver (meaning p) dev a old
        → MayBeOpened (filing_by p a).layout (disk (dev.time new))

  -- The removal failed.
  pub record DestroyFailed (a : A) (e : Error) (old new : D) : Type 0 where
    -- why
    pub cause : IsDestroyCause (dev.faults old) (dev.faults new) e
    -- where the device failed in a call of the markers, no blob of a section was touched
    pub first : dev.Tells → e ≡ Metadata (metadata.Runtime runtime.Fault) → (q : Key)
        → IsBlobOf (filing_by p a).layout (λ _. ⊤) q → disk (dev.time new) q ≡ disk (dev.time old) q

  abbrev pub RemovalEnds : A → Result Unit Error → D → D → Type 0
  RemovalEnds a (Ok done) old new = IsGone a old new
  RemovalEnds a (Err e) old new = DestroyFailed a e old new

  -- A removal of the archive a.
  pub record Removes (a : A) (result : Result Unit Error) (old new : D) : Type 0 where
    -- what every archive promises: on Ok no blob of it is there
    pub destroys : Destroys (meaning p) dev a result old new
    -- how it ended
    pub ends : RemovalEnds a result old new
