-- What settling sections of a fixed journal does: those that are named, or all.
use Rattle.std.specs.Prelude.{◌≡◌, ◌⊎◌, ◌↔◌, ℕ, ◌≤◌, List, Some, None, Result, IfOk, OnErr, IsSomeAnd}
use Rattle.blob_device.specs.Disk.{Key}
use Rattle.blob_device.specs.Timeline.{disk, Always, Each}
use Rattle.blob_device.specs.declared.device.Device as device
use Rattle.sealed_pages.specs.declared.page_blob.PageBlob.{PageBlob}
use Rattle.section_manager.specs.Lasting.{IsUnsettled}
use Rattle.section_manager.specs.Refusing.{HasFailed, IsPruned}
use Rattle.section_manager.specs.Sections.{key_of, IsKeyOf, IsSynced, SameBounds}
use Rattle.section_manager.specs.Setting.{Setting}
use Rattle.section_manager.specs.declared.buffer.SectionBuffer as buffer
use Rattle.section_manager.specs.declared.journal.Error.{Error}
use Rattle.segments.specs.FixedLasting.{Settling}
use Rattle.segments.specs.FixedLists.{Lists, section_bytes, IsJournal}

module _ {F S D : Type 0} {gs : _} (g : buffer.Ghosts (PageBlob S gs)) (gives : F → Setting)
    (seal : List ℕ → ℕ) (size : ℕ) (dev : device.Ghosts D) (j : Lists F (PageBlob S gs)) where
  -- The named sections of the journal j were settled. It is refused where `IsBelow` holds.
  pub record Settles (IsNamed : ℕ → Type 0) (IsBelow : Type 0)
      (result : Result (Lists F (PageBlob S gs)) Error) (old new : D) : Type 0 where
    -- the journal may be used
    pub over : IfOk result (λ r. IsJournal g gives seal size dev.Tells r
        (dev.opened new) (disk (dev.time new)))
    -- each named section that was held is as a sync leaves it
    pub named : IfOk result (λ r. (s : ℕ) (u : PageBlob S gs) → IsNamed s
        → j.sections.held s ≡ Some u
        → IsSomeAnd (r.sections.held s) (λ v. IsSynced g dev.Tells u v
        (disk (dev.time old) (key_of j.sections s)) (disk (dev.time new) (key_of j.sections s))))
    -- none is held that was not
    pub none : IfOk result (λ r. (s : ℕ) → j.sections.held s ≡ None → r.sections.held s ≡ None)
    -- the buffer of a section that is not named stays
    pub others : IfOk result (λ r. (s : ℕ) → (IsNamed s → ⊥)
        → r.sections.held s ≡ j.sections.held s)
    -- so does what is unopened
    pub unopened : IfOk result (λ r. (s : ℕ) → r.sections.unopened s ≡ j.sections.unopened s)
    -- each section has the bytes that it had
    pub spares : dev.Tells → IfOk result (λ r. (s : ℕ)
        → section_bytes r.sections (disk (dev.time new)) s
        ≡ section_bytes j.sections (disk (dev.time old)) s)
    -- partition, factory, floor and ceiling stay
    pub bounds : IfOk result (λ r. SameBounds j.sections r.sections)
    -- each section owes a replay as before
    pub unrecovered : IfOk result (λ r. (s : ℕ) → r.unrecovered s ≡ j.unrecovered s)
    -- and has the floor that it had
    pub floors : IfOk result (λ r. (s : ℕ) → r.floor_of s ≡ j.floor_of s)
    -- at every moment, also where the call fails, each crash leaves a prefix of the bytes of each
    -- named section that is sealed, as each proven one is, no shorter than what had settled; no
    -- other blob changes
    pub moments : dev.Tells → Always (dev.time old) (dev.time new)
        (Each (Settling seal j IsNamed (disk (dev.time old))))
    -- where nothing named is unsettled, no call of the device is made
    pub idle : ((s : ℕ) → IsNamed s → IsUnsettled g j.sections s → ⊥) → new ≡ old
    -- no entry changes but of a named section that is not settled
    pub entries : (q : Key)
        → (IsKeyOf j.sections (λ s. IsNamed s × IsUnsettled g j.sections s) q → ⊥)
        → dev.opened new q ≡ dev.opened old q
    -- it is refused for the floor exactly there
    pub guard : IsPruned result j.sections.floor ↔ IsBelow
    -- with no call of the device
    pub refuses : IsBelow → new ≡ old
    -- faults are counted on
    pub faults : dev.faults old ≤ dev.faults new
    -- nothing else is answered but a fault or want of memory
    pub cause : OnErr result (IsPruned result j.sections.floor
        ⊎ HasFailed result (dev.faults old) (dev.faults new))
