-- What a call promises that removes sections: `prune` those below a bound, `clear` all. What `destroy` promises
-- is that of the manager below.
use Rattle.std.specs.Prelude.{◌≡◌, ◌↔◌, ℕ, ◌-◌, ◌^◌, ◌<◌, ◌≤◌, Bool, false, List, Result, IfOk, OnOk, OnErr, IsTrue}
use Rattle.blob_device.specs.Disk.{nothing}
use Rattle.blob_device.specs.Timeline.{disk, Always}
use Rattle.blob_device.specs.declared.device.Device as device
use Rattle.sealed_pages.specs.declared.page_blob.PageBlob.{PageBlob}
use Rattle.section_manager.specs.Lasting.{EntriesLeave, Removing}
use Rattle.section_manager.specs.Refusing.{HasFailed}
use Rattle.section_manager.specs.Sections.{key_of, IsGone, IsKeyOf, IsKnown, IsSame, IsSection, SamePlace}
use Rattle.section_manager.specs.Setting.{Setting}
use Rattle.section_manager.specs.declared.buffer.SectionBuffer as buffer
use Rattle.section_manager.specs.managing.Removing.{Destroys}
use Rattle.section_manager.specs.declared.journal.Error.{Error}
use Rattle.segments.specs.FixedLists.{Lists}
use Rattle.variable_journal.specs.Lists.{IsJournal}

module _ {F S D : Type 0} {gs : _} (g : buffer.Ghosts (PageBlob S gs)) (gives : F → Setting)
    (seal : List ℕ → ℕ) (dev : device.Ghosts D) (j : Lists F (PageBlob S gs)) where
  -- The sections below `min` were removed. The answer says whether there was one.
  pub record Prunes {C : Type 0} (min : ℕ) (result : Result (Lists F (PageBlob S gs) × Bool) Error)
      (cfg : C) (kept : Result C Error) (old new : D) : Type 0 where
    -- the journal may be used
    pub over : IfOk result (λ r.
        IsJournal g gives seal dev.Tells r.0 (dev.opened new) (disk (dev.time new)))
    -- those below are gone
    pub removed : IfOk result (λ r. (s : ℕ) → s < min → IsGone r.0.sections s)
    -- the others stay
    pub spared : IfOk result (λ r. (s : ℕ) → min ≤ s → IsSame j.sections r.0.sections s)
    -- so do partition and factory
    pub place : IfOk result (λ r. SamePlace j.sections r.0.sections)
    -- and the ceiling
    pub ceiling : IfOk result (λ r. r.0.sections.ceiling ≡ j.sections.ceiling)
    -- the flag says whether one was removed
    pub flag : IfOk result (λ r. IsTrue r.1 ↔ ((s : ℕ) × IsSection j.sections s × (s < min)))
    -- only then `min` is the floor
    pub floor : IfOk result (λ r. IsTrue r.1 → r.0.sections.floor ≡ min)
    -- else it stays
    pub same_floor : IfOk result (λ r. r.1 ≡ false → r.0.sections.floor ≡ j.sections.floor)
    -- those below owe no replay
    pub recovered : IfOk result (λ r. (s : ℕ) → s < min → r.0.unrecovered s ≡ false)
    -- the others do as before
    pub unrecovered : IfOk result (λ r. (s : ℕ) → min ≤ s → r.0.unrecovered s ≡ j.unrecovered s)
    -- what decoding an item needs to know stays
    pub config : IfOk kept (λ c. c ≡ cfg)
    -- at every moment, also where the call fails, no section's blob is touched before those of all
    -- older ones are gone
    pub moments : dev.Tells → Always (dev.time old) (dev.time new) (Removing j.sections
        (λ s. IsKnown j.sections s × (s < min)) (λ s t. s < t) (disk (dev.time old)))
    -- their blobs are gone, also of those that were not held
    pub gone : dev.Tells → OnOk result ((s : ℕ) → IsKnown j.sections s → s < min
        → disk (dev.time new) (key_of j.sections s) ≡ nothing)
    -- where none is below, no call of the device is made
    pub idle : ((s : ℕ) → IsKnown j.sections s → min ≤ s) → new ≡ old
    -- entries leave, of those below alone
    pub entries : EntriesLeave (IsKeyOf j.sections (λ s. IsKnown j.sections s × (s < min)))
        (dev.opened old) (dev.opened new)
    -- faults are counted on
    pub faults : dev.faults old ≤ dev.faults new
    -- nothing else is answered but a fault or want of memory
    pub cause : OnErr result (HasFailed result (dev.faults old) (dev.faults new))

  -- All sections were removed, and the journal is an empty one.
  pub record Clears {C : Type 0} (result : Result (Lists F (PageBlob S gs)) Error) (cfg : C)
      (kept : Result C Error) (old new : D) : Type 0 where
    -- they were, as where it is given up
    pub removes : Destroys dev j.sections old new result
    -- the journal may be used
    pub over : IfOk result (λ k.
        IsJournal g gives seal dev.Tells k (dev.opened new) (disk (dev.time new)))
    -- it has no section
    pub removed : IfOk result (λ k. (s : ℕ) → IsGone k.sections s)
    -- none owes a replay
    pub recovered : IfOk result (λ k. (s : ℕ) → k.unrecovered s ≡ false)
    -- partition and factory stay
    pub place : IfOk result (λ k. SamePlace j.sections k.sections)
    -- what decoding an item needs to know stays
    pub config : IfOk kept (λ c. c ≡ cfg)
    -- nothing is pruned
    pub floor : IfOk result (λ k. k.sections.floor ≡ 0)
    -- the bound of the opening is lifted
    pub ceiling : IfOk result (λ k. k.sections.ceiling ≡ 2 ^ 64 - 1)
