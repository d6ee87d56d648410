-- A cursor over a replay of a fixed journal, for a layer that keeps something else than items of
-- one size in the bytes. It goes into a section, looks at whole items before it passes over them,
-- ends the section, and may cut it once more.
use Rattle.std.specs.Prelude.{◌≡◌, ◌⊎◌, ℕ, ◌+◌, ◌*◌, ◌-◌, ◌%◌, ◌<◌, ◌≤◌, Bool, false, true, cond, List, length, min, take, drop, Option, Some, None, Result, Ok, OnOk, OnErr, IsTrue, IsSomeAnd}
use Rattle.std.specs.Option.{option_map}
use Rattle.std.specs.Result.{IsErrOf}
use Rattle.blob_device.specs.Disk.{Disk}
use Rattle.blob_device.specs.Opened.{OpenedList, reads_of}
use Rattle.blob_device.specs.Timeline.{Timeline, disk}
use Rattle.blob_device.specs.declared.device.Device as device
use Rattle.blob_device.specs.declared.runtime.RError.TheVariants.{InvalidChecksum}
use Rattle.value_codec.specs.declared.codec.Error as codec
use Rattle.sealed_pages.specs.Buffer.{size_of, IsSealed}
use Rattle.sealed_pages.specs.ChanceSeal.{Sealing}
use Rattle.sealed_pages.specs.Readers.{SameReader}
use Rattle.sealed_pages.specs.Reading.{Unchanged}
use Rattle.sealed_pages.specs.Reads.{IsShort}
use Rattle.sealed_pages.specs.Shown.{shown}
use Rattle.sealed_pages.specs.declared.page_blob.PageBlob.{PageBlob}
use Rattle.section_manager.specs.Answers.{seen}
use Rattle.section_manager.specs.Entries.{OnlyOwnEntry}
use Rattle.section_manager.specs.Refusing.{HasDamage, HasFailed}
use Rattle.section_manager.specs.Sections.{key_of, IsHeld}
use Rattle.section_manager.specs.Setting.{Setting}
use Rattle.section_manager.specs.declared.buffer.SectionBuffer as buffer
use Rattle.section_manager.specs.declared.journal.Error.{Error}
use Rattle.section_manager.specs.declared.journal.Error.TheVariants.{Runtime}
use Rattle.segments.specs.FixedLists.{section_bytes, section_size}
use Rattle.segments.specs.FixedReplay.{Place, Walk, IsAhead, IsReadWhole, HasWalk, WalksOver, IsWalk, first_of, kept_bytes}
use Rattle.segments.specs.FixedStepping.{failing, standing, ReadsOnce, OnlySections, Touches, IsCutBack, Steps}

-- the place behind so many items that are at hand
abbrev pub after_items : ℕ → ℕ → Place → Place
after_items size count r = record {
  section = r.section;
  position = r.position + count;
  reader = record r.reader {
    at = r.reader.at + count * size;
    bytes = drop (count * size) r.reader.bytes;
  };
}

module _ {F B : Type 0} where
  -- the replay behind so many items
  abbrev pub passing : ℕ → ℕ → Walk F B → Walk F B
  passing size count w = record w { place = option_map (after_items size count) w.place }

  -- the replay where it has left its section
  abbrev pub leaving : Walk F B → Walk F B
  leaving w = record w { place = None }

-- The replay stands in the least held section that was ahead, at its start where it owes a replay,
-- else at the first position of which an item is given.
pub record IsEntered {F B : Type 0} (old : Walk F B) (r : Place) : Type 0 where
  -- the section is held
  pub held : IsHeld old.journal.sections r.section
  -- and was ahead
  pub ahead : IsAhead old r.section
  -- before all others
  pub least : (s : ℕ) → IsHeld old.journal.sections s → IsAhead old s → r.section ≤ s
  -- the place in it
  pub position : r.position ≡ cond (old.journal.unrecovered r.section) 0 (first_of old r.section)

-- The replay `new` is `old` at the place q, which is r with as many bytes at hand or more.
pub record IsFilled {F B : Type 0} (old new : Walk F B) (r q : Place) : Type 0 where
  -- nothing but the place has changed
  pub goes : new ≡ standing old q
  -- it is in the same section
  pub section : q.section ≡ r.section
  -- at the same position
  pub position : q.position ≡ r.position
  -- over the same blob
  pub same : SameReader r.reader q.reader
  -- what was at hand is
  pub grows : length r.reader.bytes ≤ length q.reader.bytes

module _ {F S : Type 0} {gs : _} (seal : List ℕ → ℕ) (size : ℕ) where
  -- the bytes that are given of the section of a place
  abbrev pub kept_at : Walk F (PageBlob S gs) → Place → Disk → List ℕ
  kept_at w r d = kept_bytes seal size w d r.section

  -- Page k was found damaged: it has bytes of so many items from the place on.
  pub record IsFoundShort (count : ℕ) (w : Walk F (PageBlob S gs)) (r : Place) (d : Disk) (k : ℕ)
      : Type 0 where
    -- the section owes no replay
    pub free : w.journal.unrecovered r.section ≡ false
    -- and has a floor
    pub floor : 0 < w.journal.floor_of r.section
    -- it has bytes behind the place, and no matching slot covers the page as far as the items go
    pub page : IsSomeAnd (w.journal.sections.held r.section) (λ u.
        (r.position * size < size_of (shown u))
        × IsShort seal u.page_size (d (key_of w.journal.sections r.section)).content
        (r.position * size) (min (count * size) (size_of (shown u) - r.position * size)) k)

  -- The replay `old` was turned into `to`, without a call of the device.
  pub record Turns (to old new : Walk F (PageBlob S gs)) : Type 0 where
    -- it is that one
    pub goes : new ≡ to
    -- it stands as a replay does
    pub walk : HasWalk size old → HasWalk size new
    -- also over its disk
    pub walks : (d : Disk) → WalksOver seal size old d → WalksOver seal size new d

  -- What a second cut of a section, to n bytes, asks.
  pub record MayBeShortened (told : Type 0) (section n : ℕ) (w : Walk F (PageBlob S gs)) (d : Disk)
      : Type 0 where
    -- the section is held
    pub held : IsHeld w.journal.sections section
    -- it owed a replay, so that all its bytes have settled
    pub owes : IsTrue (w.journal.unrecovered section)
    -- the replay stands between two sections
    pub between : w.place ≡ None
    -- and has come to this one
    pub not_ahead : IsAhead w section → ⊥
    -- it is sealed, as its own cut left it
    pub sealed : told → (u : PageBlob S gs) → w.journal.sections.held section ≡ Some u
        → IsSealed seal (shown u) (d (key_of w.journal.sections section))
    -- the cut is to whole items
    pub whole : n % size ≡ 0
    -- that the section has
    pub within : n ≤ section_size w.journal.sections section
    -- not below its floor
    pub floor : w.journal.floor_of section ≤ n
    -- nor below the start
    pub start : section ≡ w.start_section → w.start_position * size ≤ n

  module _ (g : buffer.Ghosts (PageBlob S gs)) (gives : F → Setting) where
    module _ {V : Type 0} (spelling : V → List ℕ) (accepted : V → Unit {0} → Type 0)
        (refusal : List ℕ → Unit {0} → Option codec.Error) (told : Type 0)
        (result : Result (Unit {0}) Error) (old new : Walk F (PageBlob S gs))
        (before after : OpenedList) (begin end : Timeline) (few many : ℕ) where
      -- It went into the next section.
      pub record Enters : Type 0 where
        -- this is a step that gives no item
        pub steps : Steps seal size g gives spelling accepted refusal told
            (seen (λ _. None) result) old new before after begin end few many
        -- it stands in that section then
        pub begun : OnOk result (IsSomeAnd new.place (IsEntered old))
        -- and in none behind an error
        pub left : OnErr result (new.place ≡ None)

      -- It ended the section in which it stood, at the place r.
      pub record Ends (r : Place) : Type 0 where
        -- this is a step that gives no item
        pub steps : Steps seal size g gives spelling accepted refusal told
            (seen (λ _. None) result) old new before after begin end few many
        -- it stands in no section then, also behind an error
        pub left : new.place ≡ None
        -- and has come to no other
        pub next : new.next_section ≡ old.next_section
        -- a section that owes a replay ends at the place
        pub cut : OnOk result ((v : PageBlob S gs) → IsTrue (old.journal.unrecovered r.section)
            → new.journal.sections.held r.section ≡ Some v → size_of (shown v) ≡ r.position * size)
        -- one of which all was read is sealed
        pub sealed : told → OnOk result ((v : PageBlob S gs) → IsReadWhole old r.section
            → new.journal.sections.held r.section ≡ Some v
            → IsSealed seal (shown v) (disk end (key_of old.journal.sections r.section)))

    module _ {D : Type 0} (dev : device.Ghosts D) where
      -- the replay w on the device d, which may be used
      abbrev pub Goes : Walk F (PageBlob S gs) → D → Type 0
      Goes w d = IsWalk g gives seal size dev.Tells w (dev.opened d) (disk (dev.time d))

      module _ (count : ℕ) (r : Place) (result : Result Bool Error)
          (old new : Walk F (PageBlob S gs)) where
        -- It was asked whether so many items are kept from the place r on.
        pub record Fills (from to : D) : Type 0 where
          -- the replay goes on
          pub over : OnOk result (Goes new to)
          -- also behind an error, which is noted
          pub broken : OnErr result (Goes (failing new) to)
          -- no more than the bytes at hand has changed
          pub rest : OnOk result (IsSomeAnd new.place (IsFilled old new r))
          -- an error ends the section
          pub dropped : OnErr result (new ≡ leaving old)
          -- so many items are at hand
          pub at_hand : result ≡ Ok true
              → IsSomeAnd new.place (λ q. count * size ≤ length q.reader.bytes)
          -- which are those of the section from the place on
          pub content : dev.Tells → result ≡ Ok true → IsSomeAnd new.place (λ q.
              take (count * size) q.reader.bytes ≡ take (count * size)
              (drop (r.position * size) (kept_at old r (disk (dev.time from)))))
          -- so many are kept
          pub enough : dev.Tells → result ≡ Ok true
              → (r.position + count) * size ≤ length (kept_at old r (disk (dev.time from)))
          -- or fewer are
          pub short : dev.Tells → result ≡ Ok false
              → length (kept_at old r (disk (dev.time from))) < (r.position + count) * size
          -- where they are at hand, no call of the device is made
          pub ready : count * size ≤ length r.reader.bytes → (result ≡ Ok true) × (to ≡ from)
          -- nothing is written
          pub unchanged : dev.Tells → Unchanged (dev.time from) (dev.time to)
          -- each page is read once
          pub once : OnOk result (ReadsOnce old new (dev.opened from) (dev.opened to))
          -- no other blob's entry changes
          pub entries : OnlyOwnEntry (key_of old.journal.sections r.section)
              (dev.opened from) (dev.opened to)
          -- faults are counted on
          pub faults : dev.faults from ≤ dev.faults to
          -- a page is found damaged only in a section that owes no replay and has a floor
          pub damaged : dev.Tells → (k : ℕ) → IsErrOf result (Runtime (InvalidChecksum k))
              → IsFoundShort count old r (disk (dev.time from)) k
          -- nothing else is answered but a fault or want of memory
          pub cause : OnErr result
              (HasDamage result ⊎ HasFailed result (dev.faults from) (dev.faults to))

      module _ (section n : ℕ) (result : Result (Unit {0}) Error)
          (old new : Walk F (PageBlob S gs)) where
        -- A section that was gone over was cut to n bytes. An error ends the replay.
        pub record Shortens (from to : D) : Type 0 where
          -- the replay goes on
          pub over : OnOk result (Goes new to)
          -- also behind an error, which is noted
          pub broken : OnErr result (Goes (failing new) to)
          -- it stands where it stood
          pub rest : OnlySections old new
          -- and has not ended by this
          pub going : OnOk result (new.ended ≡ false)
          -- an error ends it
          pub ended : OnErr result (new.ended ≡ true)
          -- no other section is touched
          pub touches : Touches g gives dev.Tells result section
              old.journal.sections new.journal.sections
              (dev.opened from) (dev.opened to) (dev.time from) (dev.time to)
          -- the section has its first n bytes
          pub cut : OnOk result ((u v : PageBlob S gs) → old.journal.sections.held section ≡ Some u
              → new.journal.sections.held section ≡ Some v
              → IsCutBack seal dev.Tells
              u (disk (dev.time from) (key_of old.journal.sections section))
              v (disk (dev.time to) (key_of old.journal.sections section)) n)
          -- at each moment each crash leaves a prefix of its bytes, no shorter than the cut
          pub moments : dev.Tells → (u : PageBlob S gs) → old.journal.sections.held section ≡ Some u
              → Sealing seal u.page_size
              (section_bytes old.journal.sections (disk (dev.time from)) section) n
              (key_of old.journal.sections section) (dev.time from) (dev.time to)
          -- its last page is read once
          pub reads : OnOk result (reads_of (dev.opened to (key_of old.journal.sections section))
              ≤ reads_of (dev.opened from (key_of old.journal.sections section)) + 1)
          -- faults are counted on
          pub faults : dev.faults from ≤ dev.faults to
          -- a damaged page is found only where no disk is told
          pub damage : dev.Tells → HasDamage result → ⊥
          -- nothing else is answered but a fault or want of memory
          pub cause : OnErr result
              (HasDamage result ⊎ HasFailed result (dev.faults from) (dev.faults to))
