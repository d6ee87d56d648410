-- What giving the journal of a replay back promises, and what beginning one does.
use Rattle.std.specs.Prelude.{◌≡◌, ◌⊎◌, ◌↔◌, ℕ, ◌*◌, ◌/◌, ◌<◌, ◌≤◌, true, false, List, Some, Result, Err, IfOk, OnOk, OnErr, IsSomeAnd}
use Rattle.blob_device.specs.Disk.{Disk}
use Rattle.blob_device.specs.Opened.{OpenedList}
use Rattle.blob_device.specs.Timeline.{disk}
use Rattle.blob_device.specs.declared.device.Device as device
use Rattle.sealed_pages.specs.Buffer.{size_of}
use Rattle.sealed_pages.specs.Shown.{shown}
use Rattle.sealed_pages.specs.declared.page_blob.PageBlob.{PageBlob}
use Rattle.section_manager.specs.Setting.{Setting}
use Rattle.section_manager.specs.declared.buffer.SectionBuffer as buffer
use Rattle.section_manager.specs.declared.journal.Error.{Error}
use Rattle.section_manager.specs.declared.journal.Error.TheVariants.{ReplayFailed}
use Rattle.segments.specs.FixedGiving.{At, Call, AreAllLeft, HasRun, ReadsAllOnce}
use Rattle.segments.specs.FixedGiving as giving
use Rattle.segments.specs.FixedLists.{Lists, AreSealed, OwesHeld, OwesSettled, UnopenedLater}
use Rattle.segments.specs.FixedReading.{IsPast}
use Rattle.segments.specs.FixedReplay.{Walk, Begins, HasWalk, WalksOver, IsDrained, IsWalk}

-- the replay went over the section from its first item on
abbrev pub GoesOver : {F B : Type 0} → Walk F B → ℕ → Type 0
GoesOver w s = (w.start_section < s) ⊎ ((w.start_position ≡ 0) × (w.start_section ≡ s))

-- it did not, or over none of it
abbrev pub Spares : {F B : Type 0} → Walk F B → ℕ → Type 0
Spares w s = (s < w.start_section) ⊎ ((0 < w.start_position) × (w.start_section ≡ s))

module _ {F S : Type 0} {gs : _} (seal : List ℕ → ℕ) (size : ℕ) where
  -- The journal of the replay w was asked back.
  -- `see` shows it.
  pub record GivesBack {V T : Type 0} (spelling : V → List ℕ)
      (accepted : V → Unit {0} → Type 0) (w : Walk F (PageBlob S gs)) (result : Result T Error)
      (see : T → Lists F (PageBlob S gs)) : Type 0 where
    -- it has the replay's sections
    pub sections : IfOk result (λ r. (see r).sections ≡ w.journal.sections)
    -- a section that owes a replay is held
    pub held : HasWalk size w → IfOk result (λ r. OwesHeld (see r))
    -- all its bytes have settled
    pub settled : HasWalk size w → IfOk result (λ r. OwesSettled (see r))
    -- any other has whole items, and is sealed where it has no floor
    pub sealed : (d : Disk) → WalksOver seal size w d
        → IfOk result (λ r. AreSealed seal size (see r) d)
    -- what is known and not held stands above the bound of the opening
    pub unopened : (d : Disk) → WalksOver seal size w d → IfOk result (λ r. UnopenedLater (see r))
    -- the start was within its section
    pub start : HasWalk size w → IfOk result (λ r. (u : PageBlob S gs)
        → (see r).sections.held w.start_section ≡ Some u
        → w.start_position * size ≤ size_of (shown u))
    -- a section that the replay went over from its first item on owes none
    pub recovered : IfOk result (λ r. (s : ℕ) → GoesOver w s → (see r).unrecovered s ≡ false)
    -- each of the others owes one where it did before
    pub unrecovered : IfOk result (λ r. (s : ℕ) → Spares w s
        → (see r).unrecovered s ≡ w.journal.unrecovered s)
    -- a section that it went over from its first item on has no floor
    pub lifted : IfOk result (λ r. (s : ℕ) → GoesOver w s → (see r).floor_of s ≡ 0)
    -- the others have theirs
    pub floors : IfOk result (λ r. (s : ℕ) → Spares w s
        → (see r).floor_of s ≡ w.journal.floor_of s)
    -- Where it answers Ok, what calls without an error gave, from any moment on, is all that was to
    -- be given then, ascending. Each page was read at most once, and one of a section once more
    -- where a replay of it was owed.
    pub given : (from : At F (PageBlob S gs)) (calls : List (Call F (PageBlob S gs) V))
        (opened : OpenedList) (d : Disk)
        → HasRun seal size spelling accepted from calls
        (record { walk = w; opened = opened; disk = d })
        → OnOk result (AreAllLeft seal size spelling accepted from (giving.given calls)
        × ReadsAllOnce from opened)
    -- it is refused exactly where an error was given, or an item may be left
    pub replay_failed : (result ≡ Err ReplayFailed)
        ↔ ((w.failed ≡ true) ⊎ (IsDrained w → ⊥))
    -- for no other reason
    pub cause : OnErr result (result ≡ Err ReplayFailed)

  -- A replay of the journal j was to begin at position p of section s.
  -- `see` shows it.
  pub record Replays {T D : Type 0} (g : buffer.Ghosts (PageBlob S gs)) (gives : F → Setting)
      (dev : device.Ghosts D) (j : Lists F (PageBlob S gs)) (s p : ℕ) (result : Result T Error)
      (see : T → Walk F (PageBlob S gs)) (old new : D) : Type 0 where
    -- it goes on
    pub over : IfOk result (λ r. IsWalk g gives seal size dev.Tells (see r)
        (dev.opened new) (disk (dev.time new)))
    -- it begins there
    pub begins : IfOk result (λ r. Begins j s p (see r))
    -- a position past the end of its section is refused, if that is held
    pub past : IsPast result p
        ↔ IsSomeAnd (j.sections.held s) (λ u. size_of (shown u) / size < p)
    -- no call of the device is made
    pub unchanged : new ≡ old
    -- nothing else is refused
    pub cause : OnErr result (IsPast result p)
