-- What the calls promise that settle sections of a glob.
use Rattle.std.specs.Prelude.{◌≡◌, ◌↔◌, ◌⊎◌, ◌≤◌, ℕ, Some, None, Result, IfOk, OnErr, IsSomeAnd}
use Rattle.blob_device.specs.Disk.{Key}
use Rattle.blob_device.specs.Timeline.{Timeline, disk, Always, Each}
use Rattle.blob_device.specs.declared.device.Device as device
use Rattle.sealed_pages.specs.declared.write_blob.WriteBlob.{WriteBlob}
use Rattle.section_manager.specs.contracts.unsealed.WriteBlobSectionBuffer.TheImpl as buffer
use Rattle.section_manager.specs.declared.journal.Error.{Error}
use Rattle.section_manager.specs.declared.unsealed.WriteFactory.{WriteFactory}
use Rattle.section_manager.specs.Entries.{StartsNoRead}
use Rattle.section_manager.specs.Refusing.{HasFailed, IsPruned}
use Rattle.section_manager.specs.Sections.{Sections, key_of, IsHeld, IsKeyOf, SameBounds, IsSynced}
use Rattle.paired.specs.glob.Lasting.{Settling}
use Rattle.paired.specs.glob.Sections.{section_bytes, HasSettled, IsAllSettled, IsUnsettled}
use Rattle.paired.specs.glob.Shown.{Shown, IsGlobOn}

module _ {D C : Type 0} (dev : device.Ghosts D) (g : Shown C) (old new : D) where
  -- the glob's sections
  abbrev m : Sections WriteFactory WriteBlob
  m = g.sections

  -- the disk's history before the call, and then
  abbrev early : Timeline
  early = dev.time old

  abbrev late : Timeline
  late = dev.time new

  -- The named sections are settled. One that is not held is passed over. It is refused where
  -- `IsBelow` holds.
  pub record SyncsGlob {T : Type 0} (see : T → Shown C) (IsNamed : ℕ → Type 0) (IsBelow : Type 0)
      (result : Result T Error) : Type 0 where
    -- it is a glob,
    pub over : IfOk result (λ r. IsGlobOn dev (see r).sections new)
    -- whose sections have the bytes that they had
    pub bytes : dev.Tells → IfOk result (λ r. (s : ℕ)
        → section_bytes (see r).sections (disk late) s ≡ section_bytes m (disk early) s)
    -- those of the named ones have settled,
    pub settled : dev.Tells → IfOk result (λ r. (s : ℕ) → IsNamed s → IsHeld m s
        → HasSettled (see r).sections (disk late) s)
    -- and count so
    pub all_settled : IfOk result (λ r. (s : ℕ) → IsNamed s → IsHeld m s
        → IsAllSettled (see r).sections s)
    -- their buffers were synced
    pub named : IfOk result (λ r. (s : ℕ) (u : WriteBlob) → IsNamed s → m.held s ≡ Some u
        → IsSomeAnd ((see r).sections.held s) (λ v. IsSynced buffer.ghosts dev.Tells u v
        (disk early (key_of m s)) (disk late (key_of m s))))
    -- none is held that was not,
    pub none : IfOk result (λ r. (s : ℕ) → m.held s ≡ None → (see r).sections.held s ≡ None)
    -- and the others are as before
    pub others : IfOk result (λ r. (s : ℕ) → (IsNamed s → ⊥)
        → (see r).sections.held s ≡ m.held s)
    -- what is known and not held stays,
    pub unopened : IfOk result (λ r. (s : ℕ) → (see r).sections.unopened s ≡ m.unopened s)
    -- and so do floor, ceiling and place
    pub bounds : IfOk result (λ r. SameBounds m (see r).sections)
    pub codec_config : IfOk result (λ r. (see r).codec_config ≡ g.codec_config)
    -- At every moment, also where the call fails, each crash leaves of the named sections what had
    -- settled, and behind it only what their bytes make; no other blob changes.
    pub moments : dev.Tells → Always early late (Each (Settling m IsNamed (disk early)))
    -- where nothing named is unsettled, no call of the device is made
    pub idle : ((s : ℕ) → IsNamed s → IsUnsettled m s → ⊥) → new ≡ old
    -- only entries of named sections that are unsettled change,
    pub entries : (q : Key) → (IsKeyOf m (λ s. IsNamed s × IsUnsettled m s) q → ⊥)
        → dev.opened new q ≡ dev.opened old q
    -- and no read begins
    pub reads : StartsNoRead (dev.opened old) (dev.opened new)
    -- it is refused for the floor exactly there, and then no call of the device is made
    pub guard : IsPruned result m.floor ↔ IsBelow
    pub refuses : IsBelow → new ≡ old
    -- faults never fall, and no other error comes than by memory or the device
    pub faults : dev.faults old ≤ dev.faults new
    pub cause : OnErr result (IsPruned result m.floor
        ⊎ HasFailed result (dev.faults old) (dev.faults new))
