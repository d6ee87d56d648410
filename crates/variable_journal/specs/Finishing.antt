-- What a replay of frames gave from a moment on, call by call, and what giving the journal back promises.
use Rattle.std.specs.Prelude.{⊤, ◌≡◌, ◌⊎◌, ◌↔◌, ℕ, ◌<◌, false, true, List, [], ◌∷◌, ◌++◌, length, Option, Some, None, Result, Err, IfOk, OnOk, OnErr, IsSomeAnd}
use Rattle.std.specs.List.{Contains}
use Rattle.std.specs.Result.{IsErrOf}
use Rattle.blob_device.specs.Disk.{Disk}
use Rattle.blob_device.specs.declared.device.Device as device
use Rattle.sealed_pages.specs.Buffer.{size_of}
use Rattle.sealed_pages.specs.Shown.{shown}
use Rattle.sealed_pages.specs.declared.page_blob.PageBlob.{PageBlob}
use Rattle.section_manager.specs.Sections.{key_of}
use Rattle.section_manager.specs.Setting.{Setting}
use Rattle.section_manager.specs.declared.buffer.SectionBuffer as buffer
use Rattle.section_manager.specs.declared.journal.Error.{Error}
use Rattle.section_manager.specs.declared.journal.Error.TheVariants.{ItemOutOfRange, ReplayFailed}
use Rattle.segments.specs.FixedFinishing.{GoesOver, Spares}
use Rattle.segments.specs.FixedLists.{Lists, AreSealed, OwesHeld, OwesSettled, UnopenedLater}
use Rattle.segments.specs.FixedReplay.{Walk, Begins, HasWalk, WalksOver, IsDrained, StandsBefore}
use Rattle.variable_journal.specs.Advancing.{IsGoing}
use Rattle.variable_journal.specs.Lists.{AreFramed}
use Rattle.variable_journal.specs.Reading.{Spells}
use Rattle.variable_journal.specs.Replaying.{AreWalked, GivenItem, GivesItem, IsItemLeft}

-- A replay was begun at an offset of a section.
pub record BeginsFrames {F S C D : Type 0} {gs : _} (g : buffer.Ghosts (PageBlob S gs))
    (gives : F → Setting) (seal : List ℕ → ℕ) (config : C) (dev : device.Ghosts D)
    (j : Lists F (PageBlob S gs)) (section offset : ℕ)
    (result : Result (Walk F (PageBlob S gs)) Error) (kept : Result C Error) (old new : D)
    : Type 0 where
  -- it may be used
  pub over : IfOk result (λ w. IsGoing g gives seal dev w new)
  -- it is over the journal, from the start on
  pub begins : IfOk result (Begins j section offset)
  -- a start past the end of its section is refused, if that is held
  pub past : IsErrOf result (ItemOutOfRange offset)
      ↔ IsSomeAnd (j.sections.held section) (λ u. size_of (shown u) < offset)
  -- what decoding an item needs to know stays
  pub same_config : IfOk kept (λ c. c ≡ config)
  -- no call of the device is made
  pub unchanged : new ≡ old
  -- nothing else is refused
  pub cause : OnErr result (IsErrOf result (ItemOutOfRange offset))

-- A replay at a moment.
pub record Moment (F B : Type 0) : Type 0 where
  -- where it stands
  pub walk : Walk F B
  -- how the blobs read
  pub disk : Disk

-- The replay is the same at both moments, and the blobs of its partition are: what a caller does
-- elsewhere between two calls does not count.
pub record IsAsLeft {F B : Type 0} (a b : Moment F B) : Type 0 where
  pub walk : a.walk ≡ b.walk
  pub blobs : (s : ℕ) → a.disk (key_of b.walk.journal.sections s)
      ≡ b.disk (key_of b.walk.journal.sections s)

-- A call of `next` that answered no error.
pub record NextCall (F B V : Type 0) : Type 0 where
  -- the replay before it
  pub old : Moment F B
  -- and after it
  pub new : Moment F B
  -- what it gave; none where none was left
  pub gave : Option (GivenItem V)

-- what one call gave, as a list
abbrev pub given_by : {V : Type 0} → Option (GivenItem V) → List (GivenItem V)
given_by None = []
given_by (Some x) = x ∷ []

-- what these calls gave, of which the newest stands first: what was given first is the first
abbrev pub given : {F B V : Type 0} → List (NextCall F B V) → List (GivenItem V)
given [] = []
given (c ∷ calls) = given calls ++ given_by c.gave

-- the items ascend by section, and within one by offset; so none comes twice
abbrev pub AreInOrder : {V : Type 0} → List (GivenItem V) → Type 0
AreInOrder [] = ⊤
AreInOrder (x ∷ xs) = ((y : _) → Contains xs y → StandsBefore x.0 x.1 y.0 y.1) × AreInOrder xs

module _ {F S V C : Type 0} {gs : _} (seal : List ℕ → ℕ) (spelling : V → List ℕ)
    (accepted : V → C → Type 0) (config : C) where
  -- it gave the first item that was left, or none was
  abbrev pub GivesNext : Moment F (PageBlob S gs) → Moment F (PageBlob S gs)
      → Option (GivenItem V) → Type 0
  GivesNext old new None =
      ((s o : ℕ) (i : List ℕ) → IsItemLeft seal old.walk old.disk s o i → ⊥)
      × (IsDrained new.walk ⊎ (new.walk.ended ≡ true))
  GivesNext old new (Some x) =
      GivesItem seal old.walk new.walk old.disk new.disk spelling accepted config x

  -- these calls, the newest first, led from one moment to the other; between two of them the caller
  -- may write elsewhere
  abbrev pub HasCalled : Moment F (PageBlob S gs) → List (NextCall F (PageBlob S gs) V)
      → Moment F (PageBlob S gs) → Type 0
  HasCalled from [] now = IsAsLeft now from
  HasCalled from (c ∷ calls) now =
      IsAsLeft now c.new × GivesNext c.old c.new c.gave × HasCalled from calls c.old

  -- These items are all that were to be given.
  pub record AreAllItems (from : Moment F (PageBlob S gs)) (xs : List (GivenItem V)) : Type 0 where
    -- ascending, each once
    pub ascending : AreInOrder xs
    -- each was left, and is what its bytes spell
    pub items : (x : GivenItem V) → Contains xs x → (i : List ℕ)
        × IsItemLeft seal from.walk from.disk x.0 x.1 i × Spells spelling accepted config i x.3
        × (x.2 ≡ length i)
    -- and each that was left is one of them
    pub all : (s o : ℕ) (i : List ℕ) → IsItemLeft seal from.walk from.disk s o i
        → (n : ℕ) × (v : V) × Contains xs (s, o, n, v)

  -- The journal of the replay w was asked back.
  pub record Finishes (w : Walk F (PageBlob S gs)) (result : Result (Lists F (PageBlob S gs)) Error)
      (kept : Result C Error) : Type 0 where
    -- it has the replay's sections
    pub sections : IfOk result (λ k. k.sections ≡ w.journal.sections)
    -- it is one again, over whatever the replay was: a section that owes a replay is held
    pub held : HasWalk 1 w → IfOk result OwesHeld
    -- all its bytes have settled
    pub settled : HasWalk 1 w → IfOk result OwesSettled
    -- any other is sealed
    pub sealed : (d : Disk) → WalksOver seal 1 w d → IfOk result (λ k. AreSealed seal 1 k d)
    -- and whole frames
    pub framed : (d : Disk) → HasWalk 1 w → WalksOver seal 1 w d → AreWalked seal w d
        → IfOk result (λ k. AreFramed k d)
    -- what is known and not held stands above the bound of the opening
    pub unopened : (d : Disk) → WalksOver seal 1 w d → IfOk result UnopenedLater
    -- no section has a floor
    pub free : ((s : ℕ) → w.journal.floor_of s ≡ 0) → IfOk result (λ k. (s : ℕ) → k.floor_of s ≡ 0)
    -- from its start on no section owes a replay
    pub recovered : IfOk result (λ k. (s : ℕ) → GoesOver w s → k.unrecovered s ≡ false)
    -- the others do as before
    pub unrecovered : IfOk result (λ k. (s : ℕ) → Spares w s
        → k.unrecovered s ≡ w.journal.unrecovered s)
    -- what decoding an item needs to know stays
    pub same_config : IfOk kept (λ c. c ≡ config)
    -- what calls without an error gave, from any moment on, is all that was to be given then
    pub given : (from : Moment F (PageBlob S gs)) (calls : List (NextCall F (PageBlob S gs) V))
        (d : Disk) → HasCalled from calls (record { walk = w; disk = d })
        → OnOk result (AreAllItems from (given calls))
    -- it is refused exactly where an error was given, or an item may be left
    pub replay_failed : (result ≡ Err ReplayFailed)
        ↔ ((w.failed ≡ true) ⊎ (IsDrained w → ⊥))
    -- for no other reason
    pub cause : OnErr result (result ≡ Err ReplayFailed)
