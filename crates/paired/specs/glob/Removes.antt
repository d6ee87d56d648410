-- What the calls promise that remove sections of a glob.
use Rattle.std.specs.Prelude.{◌≡◌, ◌≢◌, ◌↔◌, ◌⊎◌, ◌≤◌, ◌<◌, ℕ, Bool, None, false, Result, IfOk, OnOk, OnErr, IsTrue}
use Rattle.blob_device.specs.Disk.{nothing}
use Rattle.blob_device.specs.Timeline.{Timeline, disk, Always}
use Rattle.blob_device.specs.declared.device.Device as device
use Rattle.sealed_pages.specs.declared.write_blob.WriteBlob.{WriteBlob}
use Rattle.section_manager.specs.declared.journal.Error.{Error}
use Rattle.section_manager.specs.declared.unsealed.WriteFactory.{WriteFactory}
use Rattle.section_manager.specs.Lasting.{IsGoing, Removing, EntriesLeave}
use Rattle.section_manager.specs.Leaving.{AllMoments}
use Rattle.section_manager.specs.Refusing.{HasFailed, IsPruned}
use Rattle.section_manager.specs.Sections.{Sections, key_of, IsHeld, IsKnown, IsSection, IsGone, IsSame, SamePlace, SameBounds, IsKeyOf}
use Rattle.paired.specs.glob.Sections.{section_bytes}
use Rattle.paired.specs.glob.Shown.{Shown, IsGlobOn}

module _ {D C : Type 0} (dev : device.Ghosts D) (g : Shown C) (old new : D) where
  -- the glob's sections
  abbrev m : Sections WriteFactory WriteBlob
  m = g.sections

  -- the disk's history before the call, and then
  abbrev early : Timeline
  early = dev.time old

  abbrev late : Timeline
  late = dev.time new

  module _ {T : Type 0} (see : T → Shown C) where
    -- The sections below a bound are removed, the oldest first. Only where there was one, the bound is
    -- the floor.
    pub record PrunesGlob (least : ℕ) (was : T → Bool) (result : Result T Error) : Type 0 where
      -- it is a glob,
      pub over : IfOk result (λ r. IsGlobOn dev (see r).sections new)
      -- which knows nothing of them,
      pub removed : IfOk result (λ r. (s : ℕ) → s < least → IsGone (see r).sections s)
      -- and has the others as they were,
      pub kept : IfOk result (λ r. (s : ℕ) → least ≤ s → IsSame m (see r).sections s)
      -- with their bytes
      pub bytes : dev.Tells → IfOk result (λ r. (s : ℕ) → least ≤ s
          → section_bytes (see r).sections (disk late) s ≡ section_bytes m (disk early) s)
      -- it is kept where it was, and as it was
      pub place : IfOk result (λ r. SamePlace m (see r).sections)
      pub ceiling : IfOk result (λ r. (see r).sections.ceiling ≡ m.ceiling)
      pub codec_config : IfOk result (λ r. (see r).codec_config ≡ g.codec_config)
      -- the answer is whether there was one
      pub flag : IfOk result (λ r. IsTrue (was r) ↔ ((s : ℕ) × IsSection m s × (s < least)))
      -- then the bound is the floor,
      pub floor : IfOk result (λ r. IsTrue (was r) → (see r).sections.floor ≡ least)
      -- and else the floor stays
      pub same_floor : IfOk result (λ r. was r ≡ false → (see r).sections.floor ≡ m.floor)
      -- At every moment, also where the call fails, no section's blob is touched before those of all
      -- older ones are gone.
      pub moments : dev.Tells → Always early late
          (Removing m (λ s. IsKnown m s × (s < least)) (λ s t. s < t) (disk early))
      -- no blob is there of them,
      pub gone : dev.Tells
          → OnOk result ((s : ℕ) → s < least → IsTrue (disk late (key_of m s)).there → ⊥)
      -- and no crash brings one back
      pub gone_all : dev.Tells → OnOk result ((s : ℕ) → IsKnown m s → s < least
          → disk late (key_of m s) ≡ nothing)
      -- where none is known, no call of the device is made
      pub idle : ((s : ℕ) → IsKnown m s → least ≤ s) → new ≡ old
      -- only their entries leave the list
      pub entries : EntriesLeave (IsKeyOf m (λ s. IsKnown m s × (s < least)))
          (dev.opened old) (dev.opened new)
      -- faults never fall, and no error comes but by memory or the device
      pub faults : dev.faults old ≤ dev.faults new
      pub cause : OnErr result (HasFailed result (dev.faults old) (dev.faults new))

    -- One section is removed.
    pub record RemovesSection (section : ℕ) (was : T → Bool) (result : Result T Error) : Type 0 where
      -- it is a glob,
      pub over : IfOk result (λ r. IsGlobOn dev (see r).sections new)
      -- which does not hold it,
      pub removed : IfOk result (λ r. (see r).sections.held section ≡ None)
      -- and has the others as they were,
      pub others : IfOk result (λ r. (q : ℕ) → q ≢ section → IsSame m (see r).sections q)
      -- with their bytes
      pub bytes : dev.Tells → IfOk result (λ r. (q : ℕ) → q ≢ section
          → section_bytes (see r).sections (disk late) q ≡ section_bytes m (disk early) q)
      -- what was known of it and not held stays,
      pub unopened : IfOk result (λ r. (see r).sections.unopened section ≡ m.unopened section)
      -- and so do floor, ceiling and place
      pub bounds : IfOk result (λ r. SameBounds m (see r).sections)
      pub codec_config : IfOk result (λ r. (see r).codec_config ≡ g.codec_config)
      -- the answer is whether it was held
      pub flag : IfOk result (λ r. IsTrue (was r) ↔ IsHeld m section)
      -- At every moment the blob is as before, under removal, or gone; no other blob changes.
      pub moments : dev.Tells → AllMoments (key_of m section)
          (IsGoing (disk early (key_of m section))) early late
      -- it is gone for good
      pub gone : dev.Tells → IsHeld m section
          → OnOk result (disk late (key_of m section) ≡ nothing)
      -- where it is not held, no call of the device is made
      pub absent : m.held section ≡ None → new ≡ old
      -- only its entry leaves the list
      pub entries : EntriesLeave (λ q. q ≡ key_of m section) (dev.opened old) (dev.opened new)
      -- one below the floor is refused, and no other; then no call of the device is made
      pub guard : IsPruned result m.floor ↔ (section < m.floor)
      pub refuses : section < m.floor → new ≡ old
      -- faults never fall, and no other error comes than by memory or the device
      pub faults : dev.faults old ≤ dev.faults new
      pub cause : OnErr result (IsPruned result m.floor
          ⊎ HasFailed result (dev.faults old) (dev.faults new))
