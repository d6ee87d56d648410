-- What going over all that is left of a replay promises.
use Rattle.std.specs.Prelude.{◌≡◌, ◌⊎◌, ◌↔◌, ℕ, ◌+◌, ◌*◌, ◌<◌, ◌≤◌, false, List, length, take, true, Option, Some, IsSomeAnd, Result, IfOk, OnErr}
use Rattle.std.specs.Result.{IsErrOf}
use Rattle.blob_device.specs.Disk.{Key, Disk}
use Rattle.blob_device.specs.Opened.{OpenedList, reads_of}
use Rattle.blob_device.specs.Timeline.{disk, Always, Each}
use Rattle.blob_device.specs.declared.device.Device as device
use Rattle.blob_device.specs.declared.runtime.RError.TheVariants.{InvalidChecksum}
use Rattle.sealed_pages.specs.Buffer.{size_of}
use Rattle.sealed_pages.specs.Reads.{IsShort}
use Rattle.sealed_pages.specs.Shown.{shown}
use Rattle.sealed_pages.specs.declared.page_blob.PageBlob.{PageBlob}
use Rattle.value_codec.specs.declared.codec.Error as codec
use Rattle.section_manager.specs.Sealed.{is_unsettled}
use Rattle.section_manager.specs.Sections.{key_of, IsHeld, IsKeyOf, SameBounds}
use Rattle.section_manager.specs.Setting.{Setting}
use Rattle.section_manager.specs.declared.buffer.SectionBuffer as buffer
use Rattle.section_manager.specs.declared.journal.Damage.{Damage}
use Rattle.section_manager.specs.declared.journal.Error.{Error}
use Rattle.section_manager.specs.declared.journal.Error.TheVariants.{Codec, Corruption, ItemOutOfRange, ReplayFailed, Runtime}
use Rattle.segments.specs.FixedBounds.{whole_of}
use Rattle.segments.specs.FixedItems.{item_at, IsItem}
use Rattle.segments.specs.FixedLists.{Lists, section_bytes, IsJournal}
use Rattle.segments.specs.FixedReading.{IsBelowFloor, HasNotRead}
use Rattle.segments.specs.FixedReplay.{Walk, IsAhead, IsIn, IsLeft, StandsBefore, HasSameBytes, Replaying, EndsBelow, kept_bytes}
use Rattle.segments.specs.FixedStepping.{reads_left}

-- the replay gives the section from its first item on
abbrev pub IsFromStart : {F B : Type 0} → Walk F B → ℕ → Type 0
IsFromStart w s = (w.start_section < s) ⊎ ((w.start_section ≡ s) × (w.start_position ≡ 0))

-- it does not, or gives none of it
abbrev pub IsBeforeStart : {F B : Type 0} → Walk F B → ℕ → Type 0
IsBeforeStart w s = (s < w.start_section) ⊎ ((w.start_section ≡ s) × (0 < w.start_position))

-- Page k has bytes of item p of section s, which owes no replay and has a floor. The replay has not
-- gone over the section.
pub record IsBadPage {F S : Type 0} {gs : _} (seal : List ℕ → ℕ) (size : ℕ)
    (w : Walk F (PageBlob S gs)) (d : Disk) (k s p : ℕ) : Type 0 where
  pub near : IsAhead w s ⊎ IsIn w s
  pub free : w.journal.unrecovered s ≡ false
  pub floor : 0 < w.journal.floor_of s
  -- the item ends within the section
  pub within : IsSomeAnd (w.journal.sections.held s) (λ u. (p + 1) * size ≤ size_of (shown u))
  -- no matching slot covers the page as far as the item goes
  pub page : IsSomeAnd (w.journal.sections.held s) (λ u.
      IsShort seal u.page_size (d (key_of w.journal.sections s)).content (p * size) size k)

module _ {F S V : Type 0} {gs : _} (g : buffer.Ghosts (PageBlob S gs)) (gives : F → Setting)
    (seal : List ℕ → ℕ) (size : ℕ)
    (spelling : V → List ℕ) (accepted : V → Unit {0} → Type 0)
    (refusal : List ℕ → Unit {0} → Option codec.Error) (w : Walk F (PageBlob S gs)) where
  -- the item that is left of a section at this position is one
  abbrev pub IsGood : Disk → ℕ → ℕ → Type 0
  IsGood d s p = (v : V) × IsItem spelling accepted (item_at size (kept_bytes seal size w d s) p) v

  -- The journal k is what going over all that was left of the replay w gave back.
  pub record IsGoneThrough (told : Type 0) (k : Lists F (PageBlob S gs)) (opened : OpenedList)
      (from d : Disk) : Type 0 where
    -- it may be used
    pub over : IsJournal g gives seal size told k opened d
    -- partition, factory, floor and ceiling stay
    pub bounds : SameBounds w.journal.sections k.sections
    -- the same sections are held
    pub held : (s : ℕ) → IsHeld k.sections s ↔ IsHeld w.journal.sections s
    -- and unopened
    pub unopened : (s : ℕ) → k.sections.unopened s ≡ w.journal.sections.unopened s
    -- from the start's on each section has its whole items
    pub bytes : told → (s : ℕ) → w.start_section ≤ s → section_bytes k.sections d s
        ≡ take (whole_of size (length (kept_bytes seal size w from s)))
        (kept_bytes seal size w from s)
    -- a section that owes no replay has the bytes that it had, also before the start
    pub same : (s : ℕ) (u v : PageBlob S gs) → w.journal.sections.held s ≡ Some u
        → k.sections.held s ≡ Some v → w.journal.unrecovered s ≡ false
        → HasSameBytes told u (from (key_of w.journal.sections s))
        v (d (key_of w.journal.sections s))
    -- where all of a section's bytes had settled, they have
    pub idle : (s : ℕ) (u v : PageBlob S gs) → w.journal.sections.held s ≡ Some u
        → k.sections.held s ≡ Some v
        → is_unsettled (shown u) ≡ false → is_unsettled (shown v) ≡ false
    -- all that were left are items
    pub items : told → (s p : ℕ) → IsLeft seal size w from s p → IsGood from s p
    -- from its start on no section owes a replay
    pub recovered : (s : ℕ) → IsFromStart w s → k.unrecovered s ≡ false
    -- and none has a floor
    pub lifted : (s : ℕ) → IsFromStart w s → k.floor_of s ≡ 0
    -- the others do as before
    pub unrecovered : (s : ℕ) → IsBeforeStart w s → k.unrecovered s ≡ w.journal.unrecovered s
    -- and have theirs
    pub floors : (s : ℕ) → IsBeforeStart w s → k.floor_of s ≡ w.journal.floor_of s

  -- The first item that is left and is none: its bytes are refused with e.
  pub record IsFirstRefused (d : Disk) (e : codec.Error) (s p : ℕ) : Type 0 where
    -- it is left
    pub left : IsLeft seal size w d s p
    -- all that go before it are items
    pub before : (t q : ℕ) → IsLeft seal size w d t q → StandsBefore t q s p → IsGood d t q
    -- the codec refuses its bytes
    pub refused : refusal (item_at size (kept_bytes seal size w d s) p) tt ≡ Some e

  module _ {D : Type 0} (dev : device.Ghosts D) where
    -- All that was left of the replay was gone over.
    pub record Drains (result : Result (Lists F (PageBlob S gs)) Error) (old new : D) : Type 0 where
      -- at each moment, also where it fails
      pub moments : dev.Tells
          → Always (dev.time old) (dev.time new)
          (Each (Replaying seal size w (disk (dev.time old))))
      -- this is the journal then
      pub ends : IfOk result (λ k.
          IsGoneThrough dev.Tells k (dev.opened new) (disk (dev.time old)) (disk (dev.time new)))
      -- the codec's error is that of the first item that is none
      pub refused : dev.Tells → (e : codec.Error) → IsErrOf result (Codec e)
          → (s p : ℕ) × IsFirstRefused (disk (dev.time old)) e s p
      -- a section is refused only where it is still to be gone over, and its whole items end below
      -- its floor
      pub damage : dev.Tells → (x : Damage) → IsErrOf result (Corruption x)
          → EndsBelow seal size w (disk (dev.time old)) x × (IsAhead w x.section ⊎ IsIn w x.section)
      -- the start is refused only where its section keeps fewer items
      pub start : dev.Tells → (p : ℕ) → IsErrOf result (ItemOutOfRange p) → (p ≡ w.start_position)
          × (length (kept_bytes seal size w (disk (dev.time old)) w.start_section) < p * size)
      -- a page that is found damaged is none of a section that owes a replay, or is sealed
      pub damaged : dev.Tells → (k : ℕ) → IsErrOf result (Runtime (InvalidChecksum k))
          → (s p : ℕ) × IsBadPage seal size w (disk (dev.time new)) k s p
      -- each page is read once, and one once more where its section is cut within it
      pub once : (s : ℕ) → IsHeld w.journal.sections s → IfOk result (λ k.
          reads_of (dev.opened new (key_of w.journal.sections s))
          ≤ reads_of (dev.opened old (key_of w.journal.sections s)) + reads_left w s)
      -- the list of opened blobs changes alone for held sections that are still to be gone over
      pub entries : (q : Key) → (IsKeyOf w.journal.sections
          (λ s. IsHeld w.journal.sections s × (IsAhead w s ⊎ IsIn w s)) q → ⊥)
          → dev.opened new q ≡ dev.opened old q
      -- faults are counted on
      pub faults : dev.faults old ≤ dev.faults new
      -- it is given only where no error was given before
      pub clean : IfOk result (λ k. w.failed ≡ false)
      -- nothing else is answered but a fault or want of memory, or that an error was given before
      pub cause : OnErr result ((IsErrOf result ReplayFailed × (w.failed ≡ true))
          ⊎ (IsErrOf result (ItemOutOfRange w.start_position)
          ⊎ (IsBelowFloor result ⊎ HasNotRead result (dev.faults old) (dev.faults new))))
