-- One step of a replay of a fixed journal: what it answers, what it leaves to be given, and what it
-- keeps.
use Rattle.std.specs.Prelude.{◌≡◌, ◌≢◌, ◌⊎◌, ◌↔◌, ℕ, ◌+◌, ◌-◌, ◌*◌, ◌/◌, ◌%◌, ◌^◌, ◌<◌, ◌≤◌, eqb, leb, cond, Bool, true, false, List, length, take, drop, Option, None, Some, IsSome, Result, Ok, IfOk, OnOk, OnErr}
use Rattle.std.specs.Result.{IsErrOf}
use Rattle.blob_device.specs.Disk.{Key, Blob, Disk}
use Rattle.blob_device.specs.Opened.{OpenedList, reads_of}
use Rattle.blob_device.specs.Timeline.{Timeline, disk, Always, Each}
use Rattle.sealed_pages.specs.declared.page_blob.PageBlob.{PageBlob}
use Rattle.sealed_pages.specs.Shown.{shown}
use Rattle.sealed_pages.specs.Buffer.{size_of, bytes_of, IsBacked, IsSealed}
use Rattle.blob_device.specs.declared.device.Device as device
use Rattle.sealed_pages.specs.ChanceSeal.{Sealing}
use Rattle.sealed_pages.specs.Cutting.{StandsSettled}
use Rattle.sealed_pages.specs.SealedPrefix.{sealed_prefix}
use Rattle.sealed_pages.specs.Readers.{Reader, IsReplayOf, unread_of}
use Rattle.sealed_pages.specs.Reads.{pages_for}
use Rattle.sealed_pages.specs.Unrecovered.{IsUnrecovered, KeepsPrefix}
use Rattle.value_codec.specs.declared.codec.Error as codec
use Rattle.section_manager.specs.declared.buffer.SectionBuffer as buffer
use Rattle.section_manager.specs.declared.journal.Error.{Error}
use Rattle.blob_device.specs.declared.runtime.RError.TheVariants.{InvalidChecksum}
use Rattle.section_manager.specs.declared.journal.Damage.{Damage}
use Rattle.section_manager.specs.declared.journal.Error.TheVariants.{ItemOutOfRange, Runtime, Codec, Corruption}
use Rattle.section_manager.specs.Setting.{Setting}
use Rattle.section_manager.specs.Entries.{OnlyOwnEntry}
use Rattle.section_manager.specs.Sections.{Sections, key_of, IsHeld, IsKeyOf, IsSame, SameBounds, IsOver}
use Rattle.section_manager.specs.Refusing.{HasFailed, HasDamage}
use Rattle.segments.specs.FixedReading.{HasNotRead, IsBelowFloor}
use Rattle.segments.specs.FixedLists.{section_size}
use Rattle.segments.specs.FixedReplay.{Place, Walk, IsAhead, IsIn, IsReadWhole, IsLeft, SameWalk, KeepsSections, KeepsFloors, KeepsBytes, KeepsItems, IsWalk, Gives, Refuses, IsEndedAt, Stops, IsCutting, Replaying, LeavesNoMore, EndsBelow, EndsDamaged, kept_bytes}

-- greater than each number of a section, and than each place in one
unfoldable pub word : ℕ
word = 2 ^ 64

-- how many numbers from the next section on there are
abbrev pub sections_ahead : Option ℕ → ℕ
sections_ahead None = 0
sections_ahead (Some n) = word - n

-- how many bytes of its section the replay has not come to, and one
abbrev pub bytes_ahead : Option Place → ℕ
bytes_ahead None = 0
bytes_ahead (Some r) = r.reader.size - r.reader.at + 1

-- n where the section is ahead, else none
abbrev pub ahead_count : Option ℕ → ℕ → ℕ → ℕ
ahead_count None s n = 0
ahead_count (Some k) s n = cond (leb k s) n 0

-- the pages that the reader has not read, and so many more, where the replay stands in the section
abbrev pub place_count : Option Place → ℕ → ℕ → ℕ → ℕ
place_count None s more other = other
place_count (Some r) s more other = cond (eqb r.section s) (unread_of r.reader + more) other

abbrev pub held_count : {S : Type 0} {gs : _} → Option (PageBlob S gs) → Option Place → Option ℕ → ℕ
    → ℕ → ℕ
held_count None place next more s = 0
held_count (Some u) place next more s = place_count place s more
    (ahead_count next s (pages_for u.page_size (size_of (shown u)) + more))

-- How many reads of the section's blob the replay may begin yet: one a page that it has not read,
-- and one for a cut, where a replay is owed.
abbrev pub reads_left : {F S : Type 0} {gs : _} → Walk F (PageBlob S gs) → ℕ → ℕ
reads_left w s = held_count (w.journal.sections.held s) w.place w.next_section
    (cond (w.journal.unrecovered s) 1 0) s

-- Reads that began on a section's blob, and those that are left, come to no more than before: no
-- page is read twice.
abbrev pub ReadsOnce : {F S : Type 0} {gs : _} → Walk F (PageBlob S gs) → Walk F (PageBlob S gs)
    → OpenedList → OpenedList → Type 0
ReadsOnce old new before after = (s : ℕ) → IsHeld old.journal.sections s
    → reads_of (after (key_of old.journal.sections s)) + reads_left new s
    ≤ reads_of (before (key_of old.journal.sections s)) + reads_left old s

-- The place behind the item at hand.
abbrev pub after_item : ℕ → Place → Place
after_item size r = record {
  section = r.section;
  position = r.position + 1;
  reader = record
      r.reader { at = r.reader.at + size; bytes = drop size r.reader.bytes };
}

module _ {F B : Type 0} where
  -- How far a replay has to go. Each step makes it less.
  abbrev pub way_of : Walk F B → ℕ
  way_of w = sections_ahead w.next_section * (word + 1) + bytes_ahead w.place

  -- the replay, where it has given an error
  abbrev pub failing : Walk F B → Walk F B
  failing w = record w { failed = true }

  -- the replay at this place
  abbrev pub standing : Walk F B → Place → Walk F B
  standing w r = record w { place = Some r }

  -- It goes on over the same sections.
  pub record GoesOn (old new : Walk F B) : Type 0 where
    pub failed : new.failed ≡ old.failed
    pub ended : new.ended ≡ old.ended
    pub held : (s : ℕ) → IsHeld new.journal.sections s ↔ IsHeld old.journal.sections s
    pub known : (s : ℕ) → new.journal.sections.unopened s ≡ old.journal.sections.unopened s

  -- A call on its sections leaves the replay as it was, but for whether it has ended.
  pub record OnlySections (old new : Walk F B) : Type 0 where
    pub unrecovered : (s : ℕ) → new.journal.unrecovered s ≡ old.journal.unrecovered s
    pub floors : (s : ℕ) → new.journal.floor_of s ≡ old.journal.floor_of s
    pub section : new.start_section ≡ old.start_section
    pub position : new.start_position ≡ old.start_position
    pub next : new.next_section ≡ old.next_section
    pub place : new.place ≡ old.place
    pub failed : new.failed ≡ old.failed

module _ {F B : Type 0} (g : buffer.Ghosts B) (gives : F → Setting) (told : Type 0) where
  -- A call on the section s was made. Of the others nothing changed; s is held, or its buffer is
  -- gone, and s is unopened.
  pub record Touches {T : Type 0} (result : Result T Error) (s : ℕ) (m n : Sections F B)
      (before after : OpenedList) (begin end : Timeline) : Type 0 where
    pub over : IsOver g gives told n after (disk end)
    pub others : (q : ℕ) → q ≢ s → IsSame m n q
    pub bounds : SameBounds m n
    pub entries : OnlyOwnEntry (key_of m s) before after
    pub blobs : told → (q : Key) → q ≢ key_of m s → disk end q ≡ disk begin q
    pub held : OnOk result (IsHeld n s)
    pub lost : OnErr result (((n.held s ≡ None) × IsSome (n.unopened s))
        ⊎ ((n.held s ≡ m.held s) × (end ≡ begin)))

module _ {S : Type 0} {gs : _} (seal : List ℕ → ℕ) (told : Type 0) (u : PageBlob S gs) (b : Blob)
    (v : PageBlob S gs) (c : Blob) where
  -- The buffer v over the blob c is what u over b was, with all bytes flushed. Where it is not
  -- sealed the blob's sealed prefix stays.
  pub record IsFlushed : Type 0 where
    pub page_size : v.page_size ≡ u.page_size
    pub size : size_of (shown v) ≡ size_of (shown u)
    pub settled : v.settled ≡ u.settled
    pub flushed : v.from ≡ length v.tip.items
    pub sealed : told → IsSealed seal (shown u) b → IsSealed seal (shown v) c
    pub unsealed : told → IsUnrecovered seal (shown u) b → IsUnrecovered seal (shown v) c
        × (sealed_prefix seal u.page_size c.content ≡ sealed_prefix seal u.page_size b.content)
    pub bytes : told → bytes_of (shown v) c.content ≡ bytes_of (shown u) b.content

  -- It is what a cut of u to the first n bytes of its sealed prefix made of it.
  pub record IsCutBack (n : ℕ) : Type 0 where
    pub page_size : v.page_size ≡ u.page_size
    pub size : size_of (shown v) ≡ n
    pub settled : v.settled ≡ size_of (shown v)
    pub sealed : told → IsSealed seal (shown v) c
    pub prefix : told → sealed_prefix seal u.page_size c.content
        ≡ take n (sealed_prefix seal u.page_size b.content)
    pub there : told → c.there ≡ b.there
    pub rests : told → (c ≡ b) ⊎ StandsSettled c

-- The reader is over all bytes of the buffer u, whose blob has this key and ends there, and stands
-- at their start.
pub record BeginsOver {S : Type 0} {gs : _} (seal : List ℕ → ℕ) (k : Key) (u v : PageBlob S gs)
    (r : Reader) : Type 0 where
  pub key : r.key ≡ k
  pub page_size : r.page_size ≡ u.page_size
  pub end : r.end ≡ v.end
  pub size : r.size ≡ size_of (shown u)
  pub at : r.at ≡ 0
  pub replays : (content : List ℕ) → IsBacked seal (shown v) content → IsReplayOf seal content r

-- ---- the calls that lend a section's buffer
module _ {F S D T : Type 0} {gs : _} (g : buffer.Ghosts (PageBlob S gs)) (gives : F → Setting)
    (seal : List ℕ → ℕ) (dev : device.Ghosts D) (s : ℕ) (w v : Walk F (PageBlob S gs))
    (old new : D) (result : Result T Error) where
  -- the key of the section
  abbrev own : Key
  own = key_of w.journal.sections s

  -- its blob before, and then
  abbrev before : Blob
  before = disk (dev.time old) own

  abbrev after : Blob
  after = disk (dev.time new) own

  -- The bytes of the section s of the replay w were flushed, and a reader over them begins. The
  -- replay is v then. After an error the section may be lost.
  pub record OpensReader (see : T → Reader) : Type 0 where
    -- nothing else of the replay changes
    pub rest : OnlySections w v
    -- nor whether it has ended
    pub ended : v.ended ≡ w.ended
    -- no other section is touched
    pub touches : Touches g gives dev.Tells result s w.journal.sections v.journal.sections
        (dev.opened old) (dev.opened new) (dev.time old) (dev.time new)
    -- the section is what a flush makes of it, and the reader is at its start
    pub flushed : IfOk result (λ r. (u x : PageBlob S gs) → w.journal.sections.held s ≡ Some u
        → v.journal.sections.held s ≡ Some x
        → IsFlushed seal dev.Tells u before x after × BeginsOver seal own u x (see r))
    -- at every moment each crash leaves of a sealed section a prefix of its bytes, no shorter than
    -- what had settled
    pub moments : dev.Tells → (u : PageBlob S gs) → w.journal.sections.held s ≡ Some u
        → IsSealed seal (shown u) before → Sealing seal u.page_size
        (bytes_of (shown u) before.content) u.settled own (dev.time old) (dev.time new)
    -- and of any other its sealed prefix
    pub steady : dev.Tells → (u : PageBlob S gs) → w.journal.sections.held s ≡ Some u
        → IsUnrecovered seal (shown u) before → KeepsPrefix seal u.page_size
        (sealed_prefix seal u.page_size before.content) own (dev.time old) (dev.time new)
    -- where all has settled, no blob changes
    pub idle : (u : PageBlob S gs) → w.journal.sections.held s ≡ Some u
        → u.settled ≡ size_of (shown u) → dev.time new ≡ dev.time old
    -- no read began
    pub reads : OnOk result (reads_of (dev.opened new own) ≤ reads_of (dev.opened old own))
    -- faults are counted on
    pub faults : dev.faults old ≤ dev.faults new
    -- nothing is answered but a fault or want of memory
    pub cause : OnErr result (HasFailed result (dev.faults old) (dev.faults new))

  -- The section s of the replay w was cut to the first n bytes of its sealed prefix. The replay is
  -- v then.
  pub record CutsBack (n : ℕ) : Type 0 where
    -- nothing else of the replay changes
    pub rest : OnlySections w v
    -- an error ends it
    pub going : OnOk result (v.ended ≡ false)
    pub ended : OnErr result (v.ended ≡ true)
    -- no other section is touched
    pub touches : Touches g gives dev.Tells result s w.journal.sections v.journal.sections
        (dev.opened old) (dev.opened new) (dev.time old) (dev.time new)
    -- the section is what the cut makes of it
    pub cut : OnOk result ((u x : PageBlob S gs) → w.journal.sections.held s ≡ Some u
        → v.journal.sections.held s ≡ Some x → IsCutBack seal dev.Tells u before x after n)
    -- at every moment each crash leaves a prefix of its sealed prefix, no shorter than n bytes
    pub moments : dev.Tells → (u : PageBlob S gs) → w.journal.sections.held s ≡ Some u
        → Sealing seal u.page_size (sealed_prefix seal u.page_size before.content) n own
        (dev.time old) (dev.time new)
    -- at most one read began
    pub reads : OnOk result (reads_of (dev.opened new own) ≤ reads_of (dev.opened old own) + 1)
    -- faults are counted on
    pub faults : dev.faults old ≤ dev.faults new
    -- no page is refused where the disk is told
    pub damaged : dev.Tells → (k : ℕ) → IsErrOf result (Runtime (InvalidChecksum k)) → ⊥
    -- nothing else is answered but a fault or want of memory
    pub cause : OnErr result (HasDamage result
        ⊎ HasFailed result (dev.faults old) (dev.faults new))

module _ {F S : Type 0} {gs : _} (seal : List ℕ → ℕ) (size : ℕ) where
  -- The items that are left are the same, from the same bytes, and what is still to be read is as
  -- long as before.
  pub record Carries (old new : Walk F (PageBlob S gs)) (d e : Disk) : Type 0 where
    pub left : (t q : ℕ) → IsLeft seal size new e t q ↔ IsLeft seal size old d t q
    pub kept : (s : ℕ) → IsAhead new s ⊎ IsIn new s → kept_bytes seal size new e s
        ≡ kept_bytes seal size old d s
    pub sizes : (s : ℕ) → IsAhead new s ⊎ IsIn new s → section_size new.journal.sections s
        ≡ section_size old.journal.sections s

  -- The place is behind the last whole item. Where the section was read whole and is not cut there,
  -- it is sealed and has no partial item; where it is cut there, bytes stand behind.
  pub record EndsAt (w : Walk F (PageBlob S gs)) (d : Disk) (r : Place) (cuts : Bool) : Type 0 where
    pub last : length (kept_bytes seal size w d r.section) / size ≡ r.position
    pub whole : cuts ≡ false → IsReadWhole w r.section → (u : PageBlob S gs)
        → w.journal.sections.held r.section ≡ Some u
        → IsSealed seal (shown u) (d (key_of w.journal.sections r.section))
        × (size_of (shown u) % size ≡ 0)
    pub longer : cuts ≡ true → (u : PageBlob S gs) → w.journal.sections.held r.section ≡ Some u
        → r.position * size < size_of (shown u)

  module _ {V : Type 0} (g : buffer.Ghosts (PageBlob S gs)) (gives : F → Setting)
      (spelling : V → List ℕ) (accepted : V → Unit {0} → Type 0)
      (refusal : List ℕ → Unit {0} → Option codec.Error) (told : Type 0) where
    -- A step of the replay `old`, and the replay after it. It gives the first item that was left,
    -- or comes nearer to one, or gives an error, which ends the replay, or the section that it
    -- names. It never goes back to a section that it had gone over. Where the disk is told a page
    -- is found damaged only in a section that owes no replay and has a floor: one that owes a
    -- replay is cut before such a page, and any other is sealed.
    pub record Steps (result : Result (Option (ℕ × ℕ × V)) Error) (old new : Walk F (PageBlob S gs))
        (before after : OpenedList) (begin end : Timeline) (few many : ℕ) : Type 0 where
      pub over : OnOk result (IsWalk g gives seal size told new after (disk end))
      pub broken : OnErr result (IsWalk g gives seal size told (failing new) after (disk end))
      pub goes : OnOk result (GoesOn old new)
      pub same : SameWalk old new
      pub nearer : way_of new < way_of old
      pub onward : (s : ℕ) → IsAhead new s ⊎ IsIn new s → IsAhead old s ⊎ IsIn old s
      pub stays : KeepsSections old new
      pub floors : KeepsFloors old new
      pub bytes : KeepsBytes told old new (disk begin) (disk end)
      pub items : told → new.ended ≡ false → KeepsItems seal size old (disk begin) (disk end)
      pub later : told → OnOk result (LeavesNoMore seal size old new (disk begin) (disk end))
      pub carries : told → result ≡ Ok None → Carries old new (disk begin) (disk end)
      pub item : told → (s p : ℕ) (v : V) → result ≡ Ok (Some (s, p, v))
          → Gives seal size spelling accepted old new (disk begin) (disk end) s p v
      pub stops : told → OnErr result (Stops seal size old new (disk begin) (disk end))
      pub start : told → (p : ℕ) → IsErrOf result (ItemOutOfRange p) → (p ≡ old.start_position)
          × (length (kept_bytes seal size old (disk begin) old.start_section) < p * size)
          × (IsAhead old old.start_section ⊎ IsIn old old.start_section)
          × IsEndedAt seal size old new (disk begin) (disk end) old.start_section
      pub damage : told → (x : Damage) → IsErrOf result (Corruption x)
          → EndsBelow seal size old (disk begin) x × (IsAhead old x.section ⊎ IsIn old x.section)
          × IsEndedAt seal size old new (disk begin) (disk end) x.section
      pub damaged : told → (k : ℕ) → IsErrOf result (Runtime (InvalidChecksum k))
          → EndsDamaged seal size old new (disk begin) (disk end) k
      pub refused : told → (e : codec.Error) → IsErrOf result (Codec e)
          → Refuses seal size refusal old new (disk begin) (disk end) e
      pub ends : new.ended ≡ true → (old.ended ≡ true)
          ⊎ ((HasDamage result × (told → ⊥)) ⊎ HasFailed result few many)
      pub ends_cut : new.ended ≡ true → (old.ended ≡ true)
          ⊎ IsCutting seal size told old (disk begin)
      pub moments : told → Always begin end (Each (Replaying seal size old (disk begin)))
      pub entries : (q : Key) → (IsKeyOf old.journal.sections
          (λ s. IsHeld old.journal.sections s × (IsAhead old s ⊎ IsIn old s)) q → ⊥) → after q
          ≡ before q
      pub once : OnOk result (ReadsOnce old new before after)
      pub faults : few ≤ many
      pub cause : OnErr result (IsErrOf result (ItemOutOfRange old.start_position)
          ⊎ (IsBelowFloor result ⊎ HasNotRead result few many))
