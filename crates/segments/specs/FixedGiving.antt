-- What a replay gave from a moment on, call by call, and that it was all that was to be given, once
-- it was drained.
use Rattle.std.specs.Prelude.{⊤, ◌≡◌, ◌⊎◌, ◌↔◌, ℕ, ◌+◌, ◌≤◌, true, false, List, [], ◌∷◌, ◌++◌, Option, Some, None}
use Rattle.std.specs.List.{Contains}
use Rattle.blob_device.specs.Disk.{Disk}
use Rattle.blob_device.specs.Opened.{OpenedList, reads_of}
use Rattle.sealed_pages.specs.declared.page_blob.PageBlob.{PageBlob}
use Rattle.section_manager.specs.Sections.{key_of, IsHeld}
use Rattle.segments.specs.FixedItems.{item_at, IsItem}
use Rattle.segments.specs.FixedReplay.{Walk, IsLeft, IsDrained, SameWalk, KeepsFloors, KeepsBytes, KeepsItems, Gives, StandsBefore, kept_bytes}
use Rattle.segments.specs.FixedStepping.{reads_left, ReadsOnce}

-- an item, with its section and its position
abbrev pub Given : Type 0 → Type 0
Given V = ℕ × ℕ × V

-- A replay at a moment.
pub record At (F B : Type 0) : Type 0 where
  -- where it stands
  pub walk : Walk F B
  -- which blobs are opened
  pub opened : OpenedList
  -- how they read
  pub disk : Disk

-- A call of `next` that answered no error.
pub record Call (F B V : Type 0) : Type 0 where
  -- the replay before it
  pub old : At F B
  -- and after it
  pub new : At F B
  -- what it gave; none where none was left
  pub gave : Option (Given V)

-- what one call gave, as a list
abbrev pub given_by : {V : Type 0} → Option (Given V) → List (Given V)
given_by None = []
given_by (Some x) = x ∷ []

-- what these calls gave, of which the newest stands first: the item that was given first is the
-- first
abbrev pub given : {F B V : Type 0} → List (Call F B V) → List (Given V)
given [] = []
given (c ∷ calls) = given calls ++ given_by c.gave

-- the items ascend by section, and within one by position; so none comes twice
abbrev pub AreAscending : {V : Type 0} → List (Given V) → Type 0
AreAscending [] = ⊤
AreAscending (x ∷ xs) = ((y : _) → Contains xs y → StandsBefore x.0 x.1 y.0 y.1) × AreAscending xs

module _ {F S V : Type 0} {gs : _} (seal : List ℕ → ℕ) (size : ℕ)
    (spelling : V → List ℕ) (accepted : V → Unit {0} → Type 0) where
  -- it gave the first item that was left, or none was
  abbrev pub GivesOne : At F (PageBlob S gs) → At F (PageBlob S gs) → Option (Given V) → Type 0
  GivesOne old new None = ((s p : ℕ) → IsLeft seal size old.walk old.disk s p → ⊥)
      × (IsDrained new.walk ⊎ (new.walk.ended ≡ true))
  GivesOne old new (Some x) =
      Gives seal size spelling accepted old.walk new.walk old.disk new.disk x.0 x.1 x.2

  -- What such a call does, each of which `next` promises.
  pub record IsCall (c : Call F (PageBlob S gs) V) : Type 0 where
    -- it is the same replay
    pub same : SameWalk c.old.walk c.new.walk
    -- the same sections are held
    pub held : (s : ℕ) → IsHeld c.new.walk.journal.sections s
        ↔ IsHeld c.old.walk.journal.sections s
    -- none is cut below its floor
    pub floors : KeepsFloors c.old.walk c.new.walk
    -- no bytes change but by a cut
    pub bytes : KeepsBytes ⊤ c.old.walk c.new.walk c.old.disk c.new.disk
    -- which leaves whole items
    pub items : c.new.walk.ended ≡ false
        → KeepsItems seal size c.old.walk c.old.disk c.new.disk
    -- no page is read twice
    pub once : ReadsOnce c.old.walk c.new.walk c.old.opened c.new.opened
    -- this was given
    pub gave : GivesOne c.old c.new c.gave

  -- these calls, the newest first, led from one moment to the other
  abbrev pub HasRun : At F (PageBlob S gs) → List (Call F (PageBlob S gs) V)
      → At F (PageBlob S gs) → Type 0
  HasRun from [] now = now ≡ from
  HasRun from (c ∷ calls) now = (now ≡ c.new) × IsCall c × HasRun from calls c.old

  -- These items are all that were to be given.
  pub record AreAllLeft (from : At F (PageBlob S gs)) (xs : List (Given V)) : Type 0 where
    -- ascending, each once
    pub ascending : AreAscending xs
    -- each was left, and is what its bytes spell
    pub items : (x : Given V) → Contains xs x
        → IsLeft seal size from.walk from.disk x.0 x.1
        × IsItem spelling accepted
        (item_at size (kept_bytes seal size from.walk from.disk x.0) x.1) x.2
    -- and each that was left is one of them
    pub all : (s p : ℕ) → IsLeft seal size from.walk from.disk s p
        → (v : V) × Contains xs (s, p, v)

-- At most so many reads of a section's blob began as it had pages to be read, and one more where a
-- replay of it was owed.
abbrev pub ReadsAllOnce : {F S : Type 0} {gs : _} → At F (PageBlob S gs) → OpenedList → Type 0
ReadsAllOnce from opened = (s : ℕ) → IsHeld from.walk.journal.sections s
    → reads_of (opened (key_of from.walk.journal.sections s))
    ≤ reads_of (from.opened (key_of from.walk.journal.sections s)) + reads_left from.walk s
