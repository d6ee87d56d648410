-- What a replay of a journal of frames gives and keeps. It is the replay of the bytes below it, which
-- stands where a frame begins.
use Rattle.std.specs.Prelude.{◌≡◌, ◌⊎◌, ◌↔◌, ℕ, ◌<◌, ◌≤◌, false, List, [], ◌∷◌, ◌++◌, length, take, Option, Some, IsTrue}
use Rattle.blob_device.specs.Disk.{Key, Blob, Disk}
use Rattle.blob_device.specs.Opened.{OpenedList}
use Rattle.value_codec.specs.declared.codec.Error as codec
use Rattle.value_codec.specs.declared.codec.Error.TheVariants.{InvalidVarint}
use Rattle.sealed_pages.specs.Buffer.{bytes_of}
use Rattle.sealed_pages.specs.ChanceSeal.{Leaves}
use Rattle.sealed_pages.specs.Cutting.{StandsSettled}
use Rattle.sealed_pages.specs.SealedPrefix.{sealed_prefix}
use Rattle.sealed_pages.specs.Shown.{shown}
use Rattle.sealed_pages.specs.declared.page_blob.PageBlob.{PageBlob}
use Rattle.section_manager.specs.Sections.{key_of, IsHeld}
use Rattle.section_manager.specs.Setting.{Setting}
use Rattle.section_manager.specs.declared.buffer.SectionBuffer as buffer
use Rattle.segments.specs.FixedLists.{Lists, section_size}
use Rattle.segments.specs.FixedReplay as bytes
use Rattle.segments.specs.FixedReplay.{Walk, Place, IsAhead, IsGoneOver, IsIn, StandsBefore, kept_bytes, kept_of}
use Rattle.variable_journal.specs.Frames.{frames, items_of, rest_of, whole_end, HasBadLength}
use Rattle.variable_journal.specs.Lists.{AreFramed}
use Rattle.variable_journal.specs.Reading.{Spells}

-- The item whose frame begins at this offset is this one.
pub record IsItemAt (bytes : List ℕ) (offset : ℕ) (item : List ℕ) : Type 0 where
  -- those before it
  pub before : List (List ℕ)
  -- and those after it
  pub after : List (List ℕ)
  pub are : items_of bytes ≡ before ++ item ∷ after
  pub at : offset ≡ length (frames before)

-- A frame begins there, or the last one ends there.
pub record IsBoundary (bytes : List ℕ) (offset : ℕ) : Type 0 where
  -- the items before
  pub before : List (List ℕ)
  -- and those from there on
  pub after : List (List ℕ)
  pub are : items_of bytes ≡ before ++ after
  pub at : offset ≡ length (frames before)

-- an item with its section, its offset and its length
abbrev pub GivenItem : Type 0 → Type 0
GivenItem V = ℕ × ℕ × ℕ × V

-- A blob c has the items that b has, as b was or cut back.
pub record KeepsFrames (seal : List ℕ → ℕ) (P : ℕ) (b c : Blob) : Type 0 where
  -- the same items are whole in its sealed prefix
  pub items : items_of (sealed_prefix seal P c.content) ≡ items_of (sealed_prefix seal P b.content)
  -- which is the first part of what it was
  pub first : sealed_prefix seal P c.content
      ≡ take (length (sealed_prefix seal P c.content)) (sealed_prefix seal P b.content)
  -- all of that, where a length is refused
  pub all : HasBadLength (rest_of (sealed_prefix seal P b.content))
      → sealed_prefix seal P c.content ≡ sealed_prefix seal P b.content
  -- it is as it was, or it has settled
  pub rests : (c ≡ b) ⊎ StandsSettled c

module _ {F S : Type 0} {gs : _} (seal : List ℕ → ℕ) where
  -- the bytes from which the items of a section are given: of one that owes a replay its sealed prefix
  abbrev pub given_bytes : Walk F (PageBlob S gs) → Disk → ℕ → List ℕ
  given_bytes w d s = kept_bytes seal 1 w d s

  -- The item at this offset of section s is still to be given.
  pub record IsItemLeft (w : Walk F (PageBlob S gs)) (d : Disk) (s o : ℕ) (item : List ℕ)
      : Type 0 where
    -- the replay has not come to its first byte
    pub byte : bytes.IsLeft seal 1 w d s o
    -- its frame begins there
    pub whole : IsItemAt (given_bytes w d s) o item

  -- the bytes that a replay would give of a section of the journal
  abbrev pub kept_here : Lists F (PageBlob S gs) → Disk → ℕ → List ℕ
  kept_here j d s =
      kept_of seal (j.unrecovered s) (j.sections.held s) (d (key_of j.sections s)).content

  -- the offset is where an item's frame begins, or where the last one ends, or past all bytes
  abbrev pub IsStart : Lists F (PageBlob S gs) → Disk → ℕ → ℕ → Type 0
  IsStart j d s o = IsBoundary (kept_here j d s) o ⊎ (length (kept_here j d s) < o)

  -- What a replay of frames asks of the disk, wherever it stands.
  pub record AreWalked (w : Walk F (PageBlob S gs)) (d : Disk) : Type 0 where
    -- its start is a boundary, as long as it goes on and has not gone over it
    pub start : w.ended ≡ false → IsAhead w w.start_section ⊎ IsIn w w.start_section
        → IsHeld w.journal.sections w.start_section
        → IsStart w.journal d w.start_section w.start_position
    -- sections that owe no replay are whole frames
    pub framed : AreFramed w.journal d
    -- and so are those that it has gone over without an error
    pub gone_over : w.failed ≡ false → (s : ℕ) → IsGoneOver w s → rest_of (given_bytes w d s) ≡ []

  -- What a replay of frames keeps.
  pub record IsFrameWalk (g : buffer.Ghosts (PageBlob S gs)) (gives : F → Setting) (told : Type 0)
      (w : Walk F (PageBlob S gs)) (opened : OpenedList) (d : Disk) : Type 0 where
    -- it is one of bytes
    pub bytes : bytes.IsWalk g gives seal 1 told w opened d
    -- no section has a floor
    pub free : (s : ℕ) → w.journal.floor_of s ≡ 0
    -- it stands where a frame begins
    pub place : told → (r : Place) → w.place ≡ Some r
        → IsBoundary (given_bytes w d r.section) r.position
    -- its sections are whole frames, but for what is still to be gone over
    pub walked : told → AreWalked w d

  -- A section is cut to its whole frames: it owes a replay, and a frame is cut short behind them. Each
  -- crash leaves a prefix of its sealed prefix that has all of them.
  pub record IsCutToFrames (w : Walk F (PageBlob S gs)) (from : Disk) (q : Key) (b : Blob)
      : Type 0 where
    pub section : ℕ
    pub buffer : PageBlob S gs
    -- the section is held
    pub held : w.journal.sections.held section ≡ Some buffer
    -- it owes a replay
    pub owes : IsTrue (w.journal.unrecovered section)
    -- it is ahead, or being read
    pub near : IsAhead w section ⊎ IsIn w section
    -- the blob is its blob
    pub key : q ≡ key_of w.journal.sections section
    -- what is cut off is no length that is refused
    pub torn : HasBadLength (rest_of (sealed_prefix seal buffer.page_size (from q).content)) → ⊥
    pub leaves : Leaves seal buffer.page_size (sealed_prefix seal buffer.page_size (from q).content)
        (whole_end (sealed_prefix seal buffer.page_size (from q).content)) b

  -- at a moment: a blob is as a replay of bytes may leave it, or its section is cut to whole frames
  abbrev pub ReplayingFrames : Walk F (PageBlob S gs) → Disk → Key → Blob → Type 0
  ReplayingFrames w from q b = bytes.Replaying seal 1 w from q b ⊎ IsCutToFrames w from q b

  -- What each crash leaves of the held sections, at a moment of a replay.
  pub record LeavesFrames (w : Walk F (PageBlob S gs)) (from d : Disk) : Type 0 where
    -- of one that owes a replay a prefix of its sealed prefix, with all its whole frames
    pub owed : (s : ℕ) (u : PageBlob S gs) → w.journal.sections.held s ≡ Some u
        → IsTrue (w.journal.unrecovered s) → Leaves seal u.page_size
        (sealed_prefix seal u.page_size (from (key_of w.journal.sections s)).content)
        (whole_end (sealed_prefix seal u.page_size (from (key_of w.journal.sections s)).content))
        (d (key_of w.journal.sections s))
    -- of any other a prefix of its bytes, no shorter than what had settled
    pub free : (s : ℕ) (u : PageBlob S gs) → w.journal.sections.held s ≡ Some u
        → w.journal.unrecovered s ≡ false → Leaves seal u.page_size
        (bytes_of (shown u) (from (key_of w.journal.sections s)).content) u.settled
        (d (key_of w.journal.sections s))

  -- A section is being cut: it owes a replay, and has more bytes than whole frames. No item of it is
  -- left, and none of an earlier one.
  pub record IsCuttingFrames (w : Walk F (PageBlob S gs)) (d : Disk) : Type 0 where
    pub section : ℕ
    -- the replay had not gone over it
    pub near : IsAhead w section ⊎ IsIn w section
    pub owes : IsTrue (w.journal.unrecovered section)
    -- it has more bytes than whole frames
    pub longer : whole_end (given_bytes w d section) < section_size w.journal.sections section
    pub given : (t q : ℕ) (i : List ℕ) → IsItemLeft w d t q i → t ≤ section → ⊥

  module _ (old new : Walk F (PageBlob S gs)) (d e : Disk) where
    -- The item at this offset of a section, of so many bytes, is the first that was left.
    pub record GivesItem {V C : Type 0} (spelling : V → List ℕ) (accepted : V → C → Type 0)
        (config : C) (x : GivenItem V) : Type 0 where
      -- its bytes
      pub item : List ℕ
      -- it was left
      pub left : IsItemLeft old d x.0 x.1 item
      -- before all others
      pub first : (t q : ℕ) (i : List ℕ) → IsItemLeft old d t q i → StandsBefore t q x.0 x.1 → ⊥
      -- no length in a section before it is refused
      pub lengths : (s : ℕ) → IsAhead old s ⊎ IsIn old s → s < x.0
          → HasBadLength (rest_of (given_bytes old d s)) → ⊥
      -- it spells the value
      pub spells : Spells spelling accepted config item x.3
      -- and has this length
      pub sized : x.2 ≡ length item
      -- those behind it are left
      pub rest : (t q : ℕ) (i : List ℕ) → IsItemLeft new e t q i
          ↔ (IsItemLeft old d t q i × StandsBefore x.0 x.1 t q)

    -- each section that it went over since then is whole frames
    abbrev pub LeavesWhole : Type 0
    LeavesWhole = (s : ℕ) → IsAhead old s ⊎ IsIn old s → (IsAhead new s ⊎ IsIn new s → ⊥)
        → rest_of (given_bytes new e s) ≡ []

    -- The replay has ended section s.
    pub record EndsSection (s : ℕ) : Type 0 where
      -- no item of an earlier section was left
      pub first : (t q : ℕ) (i : List ℕ) → IsItemLeft old d t q i → t < s → ⊥
      -- what is left are the items of later ones
      pub rest : (t q : ℕ) (i : List ℕ) → IsItemLeft new e t q i
          ↔ (IsItemLeft old d t q i × (s < t))

    -- The codec's error ended a section, since its next item is refused, or the length of one.
    pub record RefusesItem {C : Type 0} (refusal : List ℕ → C → Option codec.Error) (config : C)
        (x : codec.Error) : Type 0 where
      pub section : ℕ
      -- the replay had not gone over it
      pub near : IsAhead old section ⊎ IsIn old section
      pub ends : EndsSection section
      -- no length in a section before it is refused
      pub lengths : (s : ℕ) → IsAhead old s ⊎ IsIn old s → s < section
          → HasBadLength (rest_of (given_bytes old d s)) → ⊥
      -- those sections are whole frames now
      pub whole : (s : ℕ) → IsAhead old s ⊎ IsIn old s → s < section
          → rest_of (given_bytes new e s) ≡ []
      -- its first item that was left is refused, or none was, and behind its frames stand five bytes
      -- or more that say no length
      pub why : ((o : ℕ) × (i : List ℕ) × IsItemLeft old d section o i
          × ((q : ℕ) (k : List ℕ) → IsItemLeft old d section q k → o ≤ q)
          × (refusal i config ≡ Some x))
          ⊎ ((x ≡ InvalidVarint) × ((q : ℕ) (i : List ℕ) → IsItemLeft old d section q i → ⊥)
          × HasBadLength (rest_of (given_bytes old d section)))
