-- What a call of `next` of a replay of frames answers and keeps.
use Rattle.std.specs.Prelude.{◌≡◌, ◌⊎◌, ◌↔◌, ℕ, ◌<◌, ◌≤◌, false, true, List, length, Option, Some, None, Result, Ok, Err, IsTrue}
use Rattle.blob_device.specs.Disk.{Key, Blob, Disk}
use Rattle.blob_device.specs.Timeline.{disk, Always, Each}
use Rattle.blob_device.specs.declared.device.Device as device
use Rattle.blob_device.specs.declared.runtime.RError.TheVariants.{InvalidChecksum}
use Rattle.value_codec.specs.declared.codec.Error as codec
use Rattle.sealed_pages.specs.Cutting.{StandsSettled}
use Rattle.sealed_pages.specs.declared.page_blob.PageBlob.{PageBlob}
use Rattle.section_manager.specs.Refusing.{HasFailed}
use Rattle.section_manager.specs.Sections.{key_of, IsHeld, IsKeyOf}
use Rattle.section_manager.specs.Setting.{Setting}
use Rattle.section_manager.specs.declared.buffer.SectionBuffer as buffer
use Rattle.section_manager.specs.declared.journal.Damage.{Damage}
use Rattle.section_manager.specs.declared.journal.Error.{Error}
use Rattle.section_manager.specs.declared.journal.Error.TheVariants.{Codec, Corruption, ItemOutOfRange, Runtime}
use Rattle.segments.specs.FixedLists.{section_size}
use Rattle.segments.specs.FixedReading.{HasNotRead}
use Rattle.segments.specs.FixedReplay.{Walk, IsAhead, IsDrained, IsIn, KeepsBytes, KeepsFloors, KeepsSections, SameWalk}
use Rattle.segments.specs.FixedStepping.{way_of, GoesOn}
use Rattle.variable_journal.specs.Replaying.{GivenItem, IsCuttingFrames, IsFrameWalk, IsItemLeft, KeepsFrames, GivesItem, EndsSection, LeavesFrames, LeavesWhole, RefusesItem, ReplayingFrames, given_bytes}

-- The replay w had not gone over section s, and k does not come back to it.
pub record LeavesSection {F B : Type 0} (w k : Walk F B) (s : ℕ) : Type 0 where
  pub near : IsAhead w s ⊎ IsIn w s
  -- it is behind the replay, or was lost
  pub left : IsHeld k.journal.sections s → IsAhead k s ⊎ IsIn k s → ⊥

module _ {F S : Type 0} {gs : _} (seal : List ℕ → ℕ) (w k : Walk F (PageBlob S gs)) (d e : Disk) where
  -- What a replay keeps of a disk, however a call ends.
  pub record IsKept : Type 0 where
    -- a section that owes no replay keeps its bytes
    pub bytes : KeepsBytes (Unit {0}) w k d e
    -- one that owes one keeps the items of its sealed prefix
    pub items : k.ended ≡ false → (s : ℕ) (u : PageBlob S gs) → w.journal.sections.held s ≡ Some u
        → IsTrue (w.journal.unrecovered s)
        → KeepsFrames seal u.page_size (d (key_of w.journal.sections s))
        (e (key_of w.journal.sections s))
    -- one that is not to be gone over any more stays as it was, also where this fails or ends
    pub behind : (s : ℕ) → IsHeld w.journal.sections s → IsHeld k.journal.sections s
        → (IsAhead w s ⊎ IsIn w s → ⊥) → given_bytes seal k e s ≡ given_bytes seal w d s

  -- what the later replay may leave of a blob, the earlier may
  abbrev pub LeavesLess : Type 0
  LeavesLess = (q : Key) (b : Blob) → ReplayingFrames seal k e q b → ReplayingFrames seal w d q b

  -- The same items are left.
  pub record IsSameLeft : Type 0 where
    pub left : (t q : ℕ) (i : List ℕ) → IsItemLeft seal k e t q i ↔ IsItemLeft seal w d t q i
    -- from the same bytes, in sections that are still to be gone over
    pub kept : (s : ℕ) → IsAhead k s ⊎ IsIn k s → given_bytes seal k e s ≡ given_bytes seal w d s
    -- which have as many bytes
    pub sizes : (s : ℕ) → IsAhead k s ⊎ IsIn k s
        → section_size k.journal.sections s ≡ section_size w.journal.sections s

  -- What an error of a replay says.
  pub record IsFailed {C : Type 0} (refusal : List ℕ → C → Option codec.Error) (config : C)
      (x : Error) (few many : ℕ) : Type 0 where
    -- it ends a section that was still to be gone over, or the whole replay
    pub stops : (k.ended ≡ true) ⊎ ((s : ℕ) × EndsSection seal w k d e s × LeavesSection w k s)
    -- that only where a section was being cut, and the device failed or there was no memory
    pub ends : k.ended ≡ true
        → IsCuttingFrames seal w d × HasFailed {T = Unit {0}} (Err x) few many
    -- and always where the blob of a section that owes one was left half cut: it is not as it was,
    -- and has not settled
    pub cut : (s : ℕ) (u : PageBlob S gs) → w.journal.sections.held s ≡ Some u
        → IsTrue (w.journal.unrecovered s)
        → (e (key_of w.journal.sections s) ≡ d (key_of w.journal.sections s) → ⊥)
        → (StandsSettled (e (key_of w.journal.sections s)) → ⊥) → k.ended ≡ true
    -- the start is refused only where its section keeps fewer bytes, and is still to be gone over
    pub start : (p : ℕ) → x ≡ ItemOutOfRange p → (p ≡ w.start_position)
        × (length (given_bytes seal w d w.start_section) < p)
        × (IsAhead w w.start_section ⊎ IsIn w w.start_section)
        × EndsSection seal w k d e w.start_section
    -- the codec's error is that of the next item, or of a length that is none
    pub refused : (y : codec.Error) → x ≡ Codec y → RefusesItem seal w k d e refusal config y
    -- no page is found damaged: a section that owes a replay is cut before it
    pub damaged : (n : ℕ) → x ≡ Runtime (InvalidChecksum n) → ⊥
    -- nothing is below a floor, for there is none
    pub floor : (y : Damage) → x ≡ Corruption y → ⊥

module _ {F S D : Type 0} {gs : _} (g : buffer.Ghosts (PageBlob S gs)) (gives : F → Setting)
    (seal : List ℕ → ℕ) (dev : device.Ghosts D) where
  -- the replay w on the device, which may be used
  abbrev pub IsGoing : Walk F (PageBlob S gs) → D → Type 0
  IsGoing w at = IsFrameWalk seal g gives dev.Tells w (dev.opened at) (disk (dev.time at))

  module _ (w k : Walk F (PageBlob S gs)) (old new : D) where
    -- What a call keeps, however it ends.
    pub record Keeps : Type 0 where
      -- it is the same replay, over the same sections that owe one
      pub same : SameWalk w k
      -- what an error lost of a section is unopened
      pub stays : KeepsSections w k
      -- no section is longer
      pub floors : KeepsFloors w k
      -- it never goes back to a section that it has gone over
      pub onward : (s : ℕ) → IsAhead k s ⊎ IsIn k s → IsAhead w s ⊎ IsIn w s
      -- no section loses an item, or a byte if it owes no replay
      pub on_disk : dev.Tells → IsKept seal w k (disk (dev.time old)) (disk (dev.time new))
      -- at each moment, also where it fails, a crash leaves what a replay may leave
      pub moments : dev.Tells → Always (dev.time old) (dev.time new)
          (Each (ReplayingFrames seal w (disk (dev.time old))))
      -- the list of opened blobs changes alone for held sections that are still to be gone over
      pub entries : (q : Key) → (IsKeyOf w.journal.sections
          (λ s. IsHeld w.journal.sections s × (IsAhead w s ⊎ IsIn w s)) q → ⊥)
          → dev.opened new q ≡ dev.opened old q
      -- faults are counted on
      pub faults : dev.faults old ≤ dev.faults new

    -- It ended without an error.
    pub record HasGone : Type 0 where
      pub keeps : Keeps
      -- no section is lost, and it has failed only if it had
      pub goes : GoesOn w k
      -- a later call may leave no more of a blob
      pub later : dev.Tells → LeavesLess seal w k (disk (dev.time old)) (disk (dev.time new))

    -- It gave no item.
    pub record HasPassed : Type 0 where
      pub gone : HasGone
      -- as many are left as before
      pub rest : dev.Tells → IsSameLeft seal w k (disk (dev.time old)) (disk (dev.time new))

  module _ {V C : Type 0} (spelling : V → List ℕ) (accepted : V → C → Type 0)
      (refusal : List ℕ → C → Option codec.Error) (config : C)
      (w k : Walk F (PageBlob S gs)) (old new : D) where
    -- It gave no item: none is left.
    pub record GivesNone : Type 0 where
      -- the replay may be used
      pub over : IsGoing k new
      pub passed : HasPassed w k old new
      pub none : dev.Tells → (s o : ℕ) (i : List ℕ) → IsItemLeft seal w (disk (dev.time old)) s o i → ⊥
      -- what it went over is whole frames
      pub whole : dev.Tells → LeavesWhole seal w k (disk (dev.time old)) (disk (dev.time new))
      -- it is over
      pub drained : IsDrained k ⊎ (k.ended ≡ true)

    -- It gave this item.
    pub record GivesOne (x : GivenItem V) : Type 0 where
      -- the replay may be used
      pub over : IsGoing k new
      pub gone : HasGone w k old new
      -- the first that was left, and it is left no more
      pub item : dev.Tells
          → GivesItem seal w k (disk (dev.time old)) (disk (dev.time new)) spelling accepted config x
      -- what it went over before is whole frames
      pub whole : dev.Tells → LeavesWhole seal w k (disk (dev.time old)) (disk (dev.time new))
      -- there is less to go over
      pub nearer : way_of k < way_of w

    -- It gave this error.
    pub record GivesError (x : Error) : Type 0 where
      pub keeps : Keeps w k old new
      -- the replay may be used
      pub over : IsGoing k new
      -- the error is noted
      pub failed : k.failed ≡ true
      -- and ends a section
      pub says : dev.Tells → IsFailed seal w k (disk (dev.time old)) (disk (dev.time new))
          refusal config x (dev.faults old) (dev.faults new)
      -- there is less to go over
      pub nearer : way_of k < way_of w
      -- nothing else is answered but a fault or want of memory; a floor is passed only where no disk is told
      pub cause : (x ≡ ItemOutOfRange w.start_position)
          ⊎ (((y : Damage) × (x ≡ Corruption y))
          ⊎ HasNotRead {T = V} (Err x) (dev.faults old) (dev.faults new))

    -- what `next` answers
    abbrev pub NextEnds : Option (Result (GivenItem V) Error) → Type 0
    NextEnds None = GivesNone
    NextEnds (Some (Ok x)) = GivesOne x
    NextEnds (Some (Err e)) = GivesError e

    -- One call of `next`: an item with its section, offset and length, an error, or none.
    pub record Nexts (answer : Option (Result (GivenItem V) Error)) (kept : C) : Type 0 where
      pub ends : NextEnds answer
      -- what decoding an item needs to know stays
      pub same_config : kept ≡ config
      -- at each moment, also where it fails, this is what each crash leaves
      pub leaves : dev.Tells → Always (dev.time old) (dev.time new)
          (LeavesFrames seal w (disk (dev.time old)))
      -- a replay that has ended does nothing
      pub ended : w.ended ≡ true → (answer ≡ None) × (k ≡ w) × (new ≡ old)
