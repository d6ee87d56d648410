-- Laws over the relations of the calls: what they leave of a section's items at each moment (`Resting`), and
-- what an opening gives back of what a crash left.
use Rattle.std.specs.Prelude.{◌≡◌, ℕ, ◌^◌, ◌<◌, ◌≤◌, Bool, false, List, [], Option, None, Some, Result, Ok, IsTrue}
use Rattle.std.specs.List.{Contains}
use Rattle.blob_device.specs.Disk.{Disk}
use Rattle.blob_device.specs.Timeline.{disk}
use Rattle.blob_device.specs.declared.device.Device as device
use Rattle.value_codec.specs.declared.codec.Error as codec
use Rattle.sealed_pages.specs.declared.page_blob.PageBlob.{PageBlob}
use Rattle.sealed_pages.specs.declared.pages.Pages.{Pages}
use Rattle.section_manager.specs.Sections.{section_key, key_of, IsHeld}
use Rattle.section_manager.specs.Setting.{Setting}
use Rattle.section_manager.specs.declared.buffer.SectionBuffer as buffer
use Rattle.section_manager.specs.declared.journal.Error.{Error}
use Rattle.section_manager.specs.declared.sealed.AppendFactory.{AppendFactory}
use Rattle.section_manager.specs.managing.Removing.{Destroys}
use Rattle.segments.specs.FixedLists.{Lists, section_bytes, IsRecovered}
use Rattle.segments.specs.FixedReplay.{Walk, IsDrained}
use Rattle.variable_journal.specs.Adding.{Appends}
use Rattle.variable_journal.specs.Advancing.{IsGoing, Nexts}
use Rattle.variable_journal.specs.Draining.{HasComeTo}
use Rattle.variable_journal.specs.Finishing.{BeginsFrames, Finishes}
use Rattle.variable_journal.specs.Frames.{AreFirst, items_of, rest_of}
use Rattle.variable_journal.specs.Lists.{IsJournal, section_items}
use Rattle.variable_journal.specs.Opening.{Opens}
use Rattle.variable_journal.specs.OpeningAtMost.{judged_bytes, IsThere, OpensTo}
use Rattle.variable_journal.specs.Removing.{Clears, Prunes}
use Rattle.variable_journal.specs.Replaying.{GivenItem}
use Rattle.variable_journal.specs.Resting.{AllGo, AllRest, AppendRests, HasFirst, OpensRest, OpensToRest, RemovalRests, ReplayRests, sealed_bytes}
use Rattle.variable_journal.specs.Settling.{Settles}

-- The journal k, which was opened and gone over, has of a section the items in these bytes, and no others.
pub record HasBack {F S : Type 0} {gs : _} (k : Lists F (PageBlob S gs)) (d : Disk) (s : ℕ)
    (bytes : List ℕ) : Type 0 where
  -- the section is held
  pub held : IsHeld k.sections s
  -- it owes no replay
  pub recovered : k.unrecovered s ≡ false
  -- it has those items
  pub items : section_items k d s ≡ items_of bytes
  -- and nothing behind them
  pub framed : rest_of (section_bytes k.sections d s) ≡ []
  -- So where a crash left the first of some items, and all that had settled, it has just the first of
  -- them, and all that had settled.
  pub first : (items : List (List ℕ)) (least : ℕ) → HasFirst items least bytes
      → AreFirst items least (section_items k d s)

module _ {S D : Type 0} {gs : _} (g : buffer.Ghosts (PageBlob S gs))
    (gives : AppendFactory S → Setting) (seal : List ℕ → ℕ) (dev : device.Ghosts D) where
  -- the journal j may be used, over a device that tells its disk
  abbrev pub IsUsed : Lists (AppendFactory S) (PageBlob S gs) → D → Type 0
  IsUsed j old = dev.Tells × IsJournal g gives seal dev.Tells j (dev.opened old) (disk (dev.time old))

  -- what a sync names: these sections, or all that are held
  abbrev pub IsSynced : Lists (AppendFactory S) (PageBlob S gs) → Option (List ℕ) → ℕ → Type 0
  IsSynced j None s = IsHeld j.sections s
  IsSynced j (Some sections) s = Contains sections s

  -- between two calls each section rests
  abbrev pub JournalRests : Type 0
  JournalRests = (j : Lists (AppendFactory S) (PageBlob S gs)) (old : D) → IsUsed j old
      → AllRest seal j (λ s. Unit {0}) (dev.time old) (dev.time old)

  module _ (C : Type 0) where
    -- at every moment of an append
    abbrev pub AppendsRest : Type 0
    AppendsRest = (section : ℕ) (spelled : List ℕ) (j : Lists (AppendFactory S) (PageBlob S gs))
        (result : Result (Lists (AppendFactory S) (PageBlob S gs) × ℕ × ℕ) Error) (cfg : C)
        (kept : Result C Error) (old new : D) → IsUsed j old → IsRecovered j section
        → section < 2 ^ 64
        → Appends g gives seal dev section spelled j result cfg kept old new
        → AppendRests seal j section spelled (dev.time old) (dev.time new)

    -- at every moment of a sync, of named sections and of others
    abbrev pub SettlesRest : Type 0
    SettlesRest = (names : Option (List ℕ)) (j : Lists (AppendFactory S) (PageBlob S gs))
        (result : Result (Lists (AppendFactory S) (PageBlob S gs)) Error) (cfg : C)
        (kept : Result C Error) (old new : D) → IsUsed j old
        → Settles g gives seal dev (IsSynced j names) j result cfg kept old new
        → AllRest seal j (λ s. Unit {0}) (dev.time old) (dev.time new)

    -- at every moment of a prune
    abbrev pub PrunesRest : Type 0
    PrunesRest = (j : Lists (AppendFactory S) (PageBlob S gs)) (min : ℕ)
        (result : Result (Lists (AppendFactory S) (PageBlob S gs) × Bool) Error) (cfg : C)
        (kept : Result C Error) (old new : D) → IsUsed j old
        → Prunes g gives seal dev j min result cfg kept old new
        → RemovalRests seal j (λ s. s < min) (dev.time old) (dev.time new)

    -- at every moment of a clear
    abbrev pub ClearsRest : Type 0
    ClearsRest = (j : Lists (AppendFactory S) (PageBlob S gs))
        (result : Result (Lists (AppendFactory S) (PageBlob S gs)) Error) (cfg : C)
        (kept : Result C Error) (old new : D) → IsUsed j old
        → Clears g gives seal dev j result cfg kept old new
        → AllGo seal j (λ s. Unit {0}) (dev.time old) (dev.time new)

    -- at every moment of an opening of all sections
    abbrev pub OpeningRests : Type 0
    OpeningRests = (place : List ℕ) (paged : Pages) (capacity : ℕ)
        (result : Result (Lists (AppendFactory S) (PageBlob S gs)) Error) (cfg : C)
        (kept : Result C Error) (old new : D) → dev.Tells → 1 ≤ paged.page_size
        → Opens g gives seal place paged capacity dev result cfg kept old new
        → OpensRest seal paged.page_size place (dev.time old) (dev.time new)

  -- at every moment of a call that destroys
  abbrev pub DestroysRest : Type 0
  DestroysRest = (j : Lists (AppendFactory S) (PageBlob S gs)) (result : Result (Unit {0}) Error)
      (old new : D) → IsUsed j old → Destroys dev j.sections old new result
      → AllGo seal j (λ s. Unit {0}) (dev.time old) (dev.time new)

  -- After a prune that answered Ok no section below the bound has a blob, also none that was not held.
  abbrev pub PrunesBlobs : Type 0 → Type 0
  PrunesBlobs C = (j k : Lists (AppendFactory S) (PageBlob S gs)) (min : ℕ) (was : Bool) (cfg : C)
      (kept : Result C Error) (old new : D) → IsUsed j old
      → Prunes g gives seal dev j min (Ok (k, was)) cfg kept old new
      → (s : ℕ) → s < 2 ^ 64 → s < min
      → (disk (dev.time new) (key_of j.sections s)).there ≡ false

  module _ {V C : Type 0} (spelling : V → List ℕ) (accepted : V → C → Type 0)
      (refusal : List ℕ → C → Option codec.Error) where
    -- at every moment of an opening up to a byte
    abbrev pub OpeningToRests : Type 0
    OpeningToRests = (P : ℕ) (partition : List ℕ) (last end : ℕ) (config : C) (paged : Pages)
        (capacity : ℕ) (result : Result (Lists (AppendFactory S) (PageBlob S gs)) Error)
        (kept : Result C Error) (old new : D) → dev.Tells → 1 ≤ P
        → OpensTo seal P partition last end spelling accepted config refusal g gives paged capacity dev
        result kept old new
        → OpensToRest seal P partition last end (dev.time old) (dev.time new)

    -- at every moment of a `next`
    abbrev pub NextsRest : Type 0
    NextsRest = (config : C) (w k : Walk (AppendFactory S) (PageBlob S gs)) (old new : D)
        (answer : Option (Result (GivenItem V) Error)) (kept : C) → dev.Tells
        → IsGoing g gives seal dev w old
        → Nexts g gives seal dev spelling accepted refusal config w k old new answer kept
        → ReplayRests seal w (dev.time old) (dev.time new)

    -- An opening of all sections, and a replay of all that was drained and gave its journal back: of each
    -- section that was there it has the items that are whole in the sealed prefix of its blob.
    abbrev pub OpeningGives : Type 0
    OpeningGives = (place : List ℕ) (paged : Pages) (capacity : ℕ)
        (j k : Lists (AppendFactory S) (PageBlob S gs)) (w x : Walk (AppendFactory S) (PageBlob S gs))
        (config : C) (kept begun ended : Result C Error) (old opened middle new : D) → dev.Tells
        → Opens g gives seal place paged capacity dev (Ok j) config kept old opened
        → BeginsFrames g gives seal config dev j 0 0 (Ok w) begun opened middle
        → HasComeTo g gives seal dev spelling accepted refusal config w middle x new → IsDrained x
        → Finishes seal spelling accepted config x (Ok k) ended
        → (s : ℕ) → s < 2 ^ 64 → IsTrue (disk (dev.time old) (section_key place s)).there
        → HasBack k (disk (dev.time new)) s
        (sealed_bytes seal paged.page_size place (disk (dev.time old)) s)

    -- So it is of an opening up to a byte, which goes over all itself, with what it keeps.
    abbrev pub OpeningToGives : Type 0
    OpeningToGives = (P : ℕ) (partition : List ℕ) (last end : ℕ) (config : C) (paged : Pages)
        (capacity : ℕ) (k : Lists (AppendFactory S) (PageBlob S gs)) (kept : Result C Error)
        (old new : D) → dev.Tells
        → OpensTo seal P partition last end spelling accepted config refusal g gives paged capacity dev
        (Ok k) kept old new
        → (s : ℕ) → s ≤ last → IsThere seal P partition last end (disk (dev.time old)) s
        → HasBack k (disk (dev.time new)) s
        (judged_bytes seal P partition last end (disk (dev.time old)) s)

    -- What each call leaves of the items of its sections, at every moment.
    pub record CallsRest : Type 0 where
      -- between two calls
      pub now : JournalRests
      -- in an append
      pub appends : AppendsRest C
      -- in a sync, of named sections or of all
      pub syncs : SettlesRest C
      -- in a prune
      pub prunes : PrunesRest C
      -- in a clear and a destroy
      pub destroys : ClearsRest C × DestroysRest
      -- in an opening of all sections
      pub opens : OpeningRests C
      -- in an opening up to a byte
      pub opens_to : OpeningToRests
      -- in a `next`
      pub nexts : NextsRest

    -- What an opening gives back of what a crash left, and what a prune leaves of blobs.
    pub record OpeningsGive : Type 0 where
      -- an opening of all sections that are gone over
      pub opens : OpeningGives
      -- an opening up to a byte
      pub opens_to : OpeningToGives
      -- no blob below the bound of a prune
      pub prunes : PrunesBlobs C
