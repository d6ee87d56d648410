-- What an append of a frame promises.
use Rattle.std.specs.Prelude.{◌≡◌, ◌≢◌, ◌⊎◌, ◌↔◌, ℕ, ◌+◌, ◌<◌, ◌≤◌, ◌^◌, ◌++◌, ◌∷◌, [], List, length, Some, None, Result, IfOk, OnOk, OnErr}
use Rattle.std.specs.Result.{IsErrOf}
use Rattle.blob_device.specs.Timeline.{disk}
use Rattle.blob_device.specs.declared.device.Device as device
use Rattle.sealed_pages.specs.Buffer.{extent, size_of, FlushesNothing}
use Rattle.sealed_pages.specs.ChanceSeal.{Sealing}
use Rattle.sealed_pages.specs.Flushing.{Alone}
use Rattle.sealed_pages.specs.Shown.{shown}
use Rattle.sealed_pages.specs.declared.page_blob.PageBlob.{PageBlob}
use Rattle.section_manager.specs.Entries.{OnlyOwnEntry}
use Rattle.section_manager.specs.Leaving.{AllMoments}
use Rattle.section_manager.specs.Refusing.{HasFailed, IsPruned}
use Rattle.section_manager.specs.Sections.{key_of, IsHeld, IsSame, SameBounds}
use Rattle.section_manager.specs.Setting.{Setting}
use Rattle.section_manager.specs.declared.buffer.SectionBuffer as buffer
use Rattle.section_manager.specs.declared.journal.Error.{Error}
use Rattle.section_manager.specs.declared.journal.Error.TheVariants.{Full, Mem, ValueTooLarge}
use Rattle.section_manager.specs.declared.sealed.AppendFactory.{AppendFactory}
use Rattle.segments.specs.FixedAdding.{WouldOverfill}
use Rattle.segments.specs.FixedLasting.{IsBeginning}
use Rattle.segments.specs.FixedLists.{Lists, section_bytes, section_size}
use Rattle.segments.specs.Tails.{IsTailAfter}
use Rattle.variable_journal.specs.Frames.{frame}
use Rattle.variable_journal.specs.Lists.{IsJournal, section_items}

-- The item that is spelled so was added to the section of the journal j. The answer is the journal, the offset
-- of the frame, and the length of the item.
module _ {S C D : Type 0} {gs : _} (g : buffer.Ghosts (PageBlob S gs))
    (gives : AppendFactory S → Setting) (seal : List ℕ → ℕ) (dev : device.Ghosts D) (section : ℕ)
    (spelled : List ℕ) (j : Lists (AppendFactory S) (PageBlob S gs))
    (result : Result (Lists (AppendFactory S) (PageBlob S gs) × ℕ × ℕ) Error) (cfg : C)
    (kept : Result C Error) (old new : D) where
  pub record Appends : Type 0 where
    -- the journal may be used
    pub over : IfOk result (λ r.
        IsJournal g gives seal dev.Tells r.0 (dev.opened new) (disk (dev.time new)))
    -- the frame stands where the section ended
    pub offset : IfOk result (λ r. dev.Tells ⊎ IsHeld j.sections section
        → r.1 ≡ section_size j.sections section)
    -- the item has this length
    pub sized : IfOk result (λ r. r.2 ≡ length spelled)
    -- the section is longer by the frame
    pub size : IfOk result (λ r. dev.Tells ⊎ IsHeld j.sections section
        → section_size r.0.sections section
        ≡ section_size j.sections section + length (frame spelled))
    -- which stands behind what it had
    pub bytes : dev.Tells → IfOk result (λ r.
        section_bytes r.0.sections (disk (dev.time new)) section
        ≡ section_bytes j.sections (disk (dev.time old)) section ++ frame spelled)
    -- so the item is the last one
    pub items : dev.Tells → IfOk result (λ r. section_items r.0 (disk (dev.time new)) section
        ≡ section_items j (disk (dev.time old)) section ++ spelled ∷ [])
    -- what is not flushed then: all, until it reaches the capacity
    pub tail : IfOk result (λ r.
        IsTailAfter j.sections section (length (frame spelled)) r.0.sections)
    -- the section is held
    pub held : IfOk result (λ r. IsHeld r.0.sections section)
    -- no more of it has settled
    pub settled : IfOk result (λ r. (u v : _) → j.sections.held section ≡ Some u
        → r.0.sections.held section ≡ Some v → v.settled ≡ u.settled)
    -- the other sections are held as before
    pub others : IfOk result (λ r. (q : ℕ) → q ≢ section → IsSame j.sections r.0.sections q)
    -- and have the bytes that they had
    pub spares : dev.Tells → IfOk result (λ r. (q : ℕ) → q ≢ section
        → section_bytes r.0.sections (disk (dev.time new)) q
        ≡ section_bytes j.sections (disk (dev.time old)) q)
    -- partition, factory, floor and ceiling stay
    pub bounds : IfOk result (λ r. SameBounds j.sections r.0.sections)
    -- each section owes a replay as before
    pub unrecovered : IfOk result (λ r. (q : ℕ) → r.0.unrecovered q ≡ j.unrecovered q)
    -- what decoding an item needs to know stays
    pub config : IfOk kept (λ c. c ≡ cfg)
    -- at every moment, also where the call fails, no other blob changes
    pub alone : dev.Tells → Alone (key_of j.sections section) (dev.time old) (dev.time new)
    -- each crash leaves of the section a prefix of its bytes, the frame included, and no shorter
    -- than what has settled
    pub moments : dev.Tells → (u : _) → j.sections.held section ≡ Some u
        → Sealing seal u.page_size
        (section_bytes j.sections (disk (dev.time old)) section ++ frame spelled) u.settled
        (key_of j.sections section) (dev.time old) (dev.time new)
    -- of one that is made it leaves a prefix of the frame
    pub made : dev.Tells → j.sections.held section ≡ None → AllMoments (key_of j.sections section)
        (IsBeginning seal j.sections.factory.pages.page_size (frame spelled)
        (disk (dev.time old) (key_of j.sections section))) (dev.time old) (dev.time new)
    -- below the buffer's capacity no call of the device is made
    pub below : (u : _) → j.sections.held section ≡ Some u
        → FlushesNothing (shown u) (length (frame spelled)) → new ≡ old
    -- no other blob's entry changes
    pub entries : OnlyOwnEntry (key_of j.sections section) (dev.opened old) (dev.opened new)
    -- a length past a u32 is refused, before all else, and no other by this
    pub large : IsErrOf result ValueTooLarge ↔ (2 ^ 32 ≤ length spelled)
    -- then a section below the floor
    pub guard : IsPruned result j.sections.floor
        ↔ ((length spelled < 2 ^ 32) × (section < j.sections.floor))
    -- with no call of the device
    pub refuses : (2 ^ 32 ≤ length spelled) ⊎ (section < j.sections.floor) → new ≡ old
    -- it is full only where the frame is too much for its blob
    pub full : IsErrOf result Full → dev.Tells ⊎ IsHeld j.sections section
        → WouldOverfill j section (length (frame spelled))
    -- of a section that is held then no call of the device is made
    pub full_refuses : IsErrOf result Full → IsHeld j.sections section → new ≡ old
    -- then it is full, unless there was no memory to see it
    pub full_first : length spelled < 2 ^ 32 → j.sections.floor ≤ section → (u : _)
        → j.sections.held section ≡ Some u
        → 2 ^ 64 ≤ extent u.page_size (size_of (shown u) + length (frame spelled))
        → IsErrOf result Full ⊎ IsErrOf result Mem
    -- where the item was added there was room
    pub room : OnOk result ((u : _) → j.sections.held section ≡ Some u
        → extent u.page_size (size_of (shown u) + length (frame spelled)) < 2 ^ 64)
    -- faults are counted on
    pub faults : dev.faults old ≤ dev.faults new
    -- nothing else is answered but a fault or want of memory
    pub cause : OnErr result (IsErrOf result ValueTooLarge ⊎ (IsPruned result j.sections.floor
        ⊎ (IsErrOf result Full ⊎ HasFailed result (dev.faults old) (dev.faults new))))
