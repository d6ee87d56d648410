-- What removing sections of a fixed journal does: all below a bound, or all.
use Rattle.std.specs.Prelude.{◌≡◌, ◌↔◌, ℕ, ◌-◌, ◌^◌, ◌<◌, ◌≤◌, Bool, false, List, Result, IfOk, OnOk, OnErr, IsTrue}
use Rattle.blob_device.specs.Disk.{nothing}
use Rattle.blob_device.specs.Timeline.{disk, Always}
use Rattle.blob_device.specs.declared.device.Device as device
use Rattle.sealed_pages.specs.declared.page_blob.PageBlob.{PageBlob}
use Rattle.section_manager.specs.Lasting.{Removing, EntriesLeave}
use Rattle.section_manager.specs.Refusing.{HasFailed}
use Rattle.section_manager.specs.Sections.{key_of, IsGone, IsKeyOf, IsKnown, IsSame, IsSection, SamePlace}
use Rattle.section_manager.specs.Setting.{Setting}
use Rattle.section_manager.specs.declared.buffer.SectionBuffer as buffer
use Rattle.section_manager.specs.declared.journal.Error.{Error}
use Rattle.segments.specs.FixedLists.{Lists, section_bytes, IsJournal}

-- a section before another goes first
abbrev pub IsOlder : ℕ → ℕ → Type 0
IsOlder s t = s < t

module _ {F S : Type 0} {gs : _} (j : Lists F (PageBlob S gs)) where
  -- a known section below the bound
  abbrev pub IsBelow : ℕ → ℕ → Type 0
  IsBelow min s = IsKnown j.sections s × (s < min)

  module _ (g : buffer.Ghosts (PageBlob S gs)) (gives : F → Setting) (seal : List ℕ → ℕ)
      (size : ℕ) where
    -- The sections of the journal j below `min` were removed, the oldest first. The answer is the
    -- journal, and whether there was one.
    pub record Prunes {D : Type 0} (min : ℕ) (dev : device.Ghosts D)
        (result : Result (Lists F (PageBlob S gs) × Bool) Error) (old new : D) : Type 0 where
      -- the journal may be used
      pub over : IfOk result (λ r. IsJournal g gives seal size dev.Tells r.0
          (dev.opened new) (disk (dev.time new)))
      -- no section below is known any more
      pub removed : IfOk result (λ r. (s : ℕ) → s < min → IsGone r.0.sections s)
      -- the others are held as before
      pub kept : IfOk result (λ r. (s : ℕ) → min ≤ s → IsSame j.sections r.0.sections s)
      -- and have the bytes that they had
      pub spares : dev.Tells → IfOk result (λ r. (s : ℕ) → min ≤ s
          → section_bytes r.0.sections (disk (dev.time new)) s
          ≡ section_bytes j.sections (disk (dev.time old)) s)
      -- partition and factory stay
      pub place : IfOk result (λ r. SamePlace j.sections r.0.sections)
      -- so does the bound of the opening
      pub ceiling : IfOk result (λ r. r.0.sections.ceiling ≡ j.sections.ceiling)
      -- whether there was a section below
      pub flag : IfOk result (λ r. IsTrue r.1
          ↔ ((s : ℕ) × IsSection j.sections s × (s < min)))
      -- then `min` is the floor
      pub floor : IfOk result (λ r. IsTrue r.1 → r.0.sections.floor ≡ min)
      -- else it stays
      pub same_floor : IfOk result (λ r. r.1 ≡ false
          → r.0.sections.floor ≡ j.sections.floor)
      -- a section that is removed owes no replay
      pub recovered : IfOk result (λ r. (s : ℕ) → s < min → r.0.unrecovered s ≡ false)
      -- each of the others owes one where it did before
      pub unrecovered : IfOk result (λ r. (s : ℕ) → min ≤ s
          → r.0.unrecovered s ≡ j.unrecovered s)
      -- a section that is removed has no floor
      pub lifted : IfOk result (λ r. (s : ℕ) → s < min → r.0.floor_of s ≡ 0)
      -- the others have theirs
      pub floors : IfOk result (λ r. (s : ℕ) → min ≤ s → r.0.floor_of s ≡ j.floor_of s)
      -- at every moment, also where the call fails, no section's blob is touched before those of
      -- all older ones are gone
      pub moments : dev.Tells → Always (dev.time old) (dev.time new)
          (Removing j.sections (IsBelow min) IsOlder (disk (dev.time old)))
      -- the blobs are gone, also after a crash
      pub gone : dev.Tells → OnOk result ((s : ℕ) → IsKnown j.sections s → s < min
          → disk (dev.time new) (key_of j.sections s) ≡ nothing)
      -- where none is below, no call of the device is made
      pub idle : ((s : ℕ) → IsKnown j.sections s → min ≤ s) → new ≡ old
      -- their entries leave the list of opened blobs, and no other changes
      pub entries : EntriesLeave (IsKeyOf j.sections (IsBelow min))
          (dev.opened old) (dev.opened new)
      -- faults are counted on
      pub faults : dev.faults old ≤ dev.faults new
      -- nothing is answered but a fault or want of memory
      pub cause : OnErr result (HasFailed result (dev.faults old) (dev.faults new))

    -- All sections of the journal j were removed, the oldest first.
    pub record Clears {D : Type 0} (dev : device.Ghosts D)
        (result : Result (Lists F (PageBlob S gs)) Error) (old new : D) : Type 0 where
      -- the journal may be used
      pub over : IfOk result (λ r. IsJournal g gives seal size dev.Tells r
          (dev.opened new) (disk (dev.time new)))
      -- no section is known any more
      pub removed : IfOk result (λ r. (s : ℕ) → IsGone r.sections s)
      -- none owes a replay
      pub recovered : IfOk result (λ r. (s : ℕ) → r.unrecovered s ≡ false)
      -- none has a floor
      pub lifted : IfOk result (λ r. (s : ℕ) → r.floor_of s ≡ 0)
      -- partition and factory stay
      pub place : IfOk result (λ r. SamePlace j.sections r.sections)
      -- nothing is pruned
      pub floor : IfOk result (λ r. r.sections.floor ≡ 0)
      -- the bound of the opening is lifted
      pub ceiling : IfOk result (λ r. r.sections.ceiling ≡ 2 ^ 64 - 1)
      -- at every moment, also where the call fails, no section's blob is touched before those of
      -- all older ones are gone
      pub moments : dev.Tells → Always (dev.time old) (dev.time new)
          (Removing j.sections (IsKnown j.sections) IsOlder (disk (dev.time old)))
      -- no section has a blob then
      pub gone : dev.Tells → OnOk result ((s : ℕ) → s < 2 ^ 64
          → IsTrue (disk (dev.time new) (key_of j.sections s)).there → ⊥)
      -- those that had one have none also after a crash
      pub gone_all : dev.Tells → OnOk result ((s : ℕ) → IsKnown j.sections s
          → disk (dev.time new) (key_of j.sections s) ≡ nothing)
      -- their entries leave the list of opened blobs, and no other changes
      pub entries : EntriesLeave (IsKeyOf j.sections (IsKnown j.sections))
          (dev.opened old) (dev.opened new)
      -- faults are counted on
      pub faults : dev.faults old ≤ dev.faults new
      -- nothing is answered but a fault or want of memory
      pub cause : OnErr result (HasFailed result (dev.faults old) (dev.faults new))
