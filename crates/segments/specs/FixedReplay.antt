-- What a replay of a fixed journal shows: the journal, where it stands in it, and which items are
-- still to be given.
use Rattle.std.specs.Prelude.{◌≡◌, ◌⊎◌, ◌↔◌, ℕ, ◌+◌, ◌*◌, ◌/◌, ◌%◌, ◌<◌, ◌≤◌, eqb, cond, Bool, true, false, List, [], length, take, Option, None, Some, IsSomeAnd, IsTrue}
use Rattle.blob_device.specs.Disk.{Key, Blob, Disk}
use Rattle.blob_device.specs.Opened.{OpenedList}
use Rattle.value_codec.specs.declared.codec.Error as codec
use Rattle.sealed_pages.specs.declared.page_blob.PageBlob.{PageBlob}
use Rattle.sealed_pages.specs.Shown.{shown}
use Rattle.sealed_pages.specs.Buffer.{size_of, bytes_of, IsSealed}
use Rattle.sealed_pages.specs.Cutting.{StandsSettled}
use Rattle.sealed_pages.specs.SealedPrefix.{sealed_prefix}
use Rattle.sealed_pages.specs.ChanceSeal.{Leaves}
use Rattle.sealed_pages.specs.Readers.{Reader, IsReplayOf}
use Rattle.sealed_pages.specs.Reads.{IsCovered, IsShort}
use Rattle.sealed_pages.specs.Unrecovered.{IsUnrecovered}
use Rattle.section_manager.specs.declared.buffer.SectionBuffer as buffer
use Rattle.section_manager.specs.declared.journal.Damage.{Damage}
use Rattle.section_manager.specs.Setting.{Setting}
use Rattle.section_manager.specs.Sections.{key_of, IsHeld, IsKeyOf, SameBounds, IsOver}
use Rattle.segments.specs.FixedItems.{item_at, IsItem}
use Rattle.segments.specs.FixedLists.{Lists, section_size, OwesHeld, OwesSettled, AreSealed, UnopenedLater}

-- A place within a section: the reader is at the item of this position.
pub record Place : Type 0 where
  pub section : ℕ
  pub position : ℕ
  pub reader : Reader

-- A replay begins at a position of a section. It has come to the sections below `next_section`, to
-- all where there is none, and stands at a place in one of them or between two. It gave an error
-- where it has failed, and gives no more where it has ended.
pub record Walk (F B : Type 0) : Type 0 where
  pub journal : Lists F B
  pub start_section : ℕ
  pub start_position : ℕ
  pub next_section : Option ℕ
  pub place : Option Place
  pub failed : Bool
  pub ended : Bool

module _ {F B : Type 0} (w : Walk F B) where
  -- the replay has not come to the section
  abbrev pub IsAhead : ℕ → Type 0
  IsAhead s = IsSomeAnd w.next_section (λ n. n ≤ s)

  -- it stands in the section
  abbrev pub IsIn : ℕ → Type 0
  IsIn s = IsSomeAnd w.place (λ r. r.section ≡ s)

  -- the position from which on items of the section are given
  abbrev pub first_of : ℕ → ℕ
  first_of s = cond (eqb s w.start_section) w.start_position 0

  -- all of the section is read: a replay of it is owed, or its items are given from the first on
  abbrev pub IsReadWhole : ℕ → Type 0
  IsReadWhole s = IsTrue (w.journal.unrecovered s) ⊎ (first_of s ≡ 0)

  -- It stands in no section, and no held one is ahead.
  pub record IsDrained : Type 0 where
    pub between : w.place ≡ None
    pub last : (s : ℕ) → IsHeld w.journal.sections s → IsAhead s → ⊥

-- item p of section s goes before item q of section t
abbrev pub StandsBefore : ℕ → ℕ → ℕ → ℕ → Type 0
StandsBefore s p t q = (s < t) ⊎ ((s ≡ t) × (p < q))

-- The blob c has the whole items that b has in its sealed prefix, and no more: it is b, or it was
-- cut, and has settled.
pub record SameItems (seal : List ℕ → ℕ) (P size : ℕ) (b c : Blob) : Type 0 where
  pub there : c.there ≡ b.there
  pub count : length (sealed_prefix seal P c.content) / size
      ≡ length (sealed_prefix seal P b.content) / size
  pub items : take (length (sealed_prefix seal P b.content) / size * size)
      (sealed_prefix seal P c.content) ≡ take (length (sealed_prefix seal P b.content) / size *
      size) (sealed_prefix seal P b.content)
  pub rests : (c ≡ b) ⊎ StandsSettled c

-- A section that is not unopened was not before, and is held if it was: one that an error lost is
-- unopened.
abbrev pub KeepsSections : {F B : Type 0} → Walk F B → Walk F B → Type 0
KeepsSections old new = (s : ℕ) → new.journal.sections.unopened s ≡ None
    → (old.journal.sections.unopened s ≡ None) × (IsHeld new.journal.sections s
    ↔ IsHeld old.journal.sections s)

module _ {S : Type 0} {gs : _} where
  -- of a section that owes a replay the bytes of its sealed prefix, else all
  abbrev pub kept_of : (List ℕ → ℕ) → Bool → Option (PageBlob S gs) → List ℕ → List ℕ
  kept_of seal owes None content = []
  kept_of seal false (Some u) content = bytes_of (shown u) content
  kept_of seal true (Some u) content = sealed_prefix seal u.page_size content

  -- All bytes are in the sealed prefix, and they are whole items: there is nothing to cut off.
  pub record HasNothingToCut (seal : List ℕ → ℕ) (size : ℕ) (u : PageBlob S gs) (b : Blob) : Type 0
    where
      pub sealed : length (sealed_prefix seal u.page_size b.content) ≡ size_of (shown u)
      pub whole : size_of (shown u) % size ≡ 0

  -- All bytes have settled, and no replay is owed or there is nothing to cut off: a replay writes
  -- nothing.
  abbrev pub StaysStill : (List ℕ → ℕ) → ℕ → Bool → PageBlob S gs → Blob → Type 0
  StaysStill seal size owes u b = (u.settled ≡ size_of (shown u))
      × ((owes ≡ false) ⊎ HasNothingToCut seal size u b)

  module _ {F : Type 0} (seal : List ℕ → ℕ) (size : ℕ) (w : Walk F (PageBlob S gs)) (d : Disk) where
    -- the bytes from which a section's items are given
    abbrev pub kept_bytes : ℕ → List ℕ
    kept_bytes s = kept_of seal (w.journal.unrecovered s) (w.journal.sections.held s)
        (d (key_of w.journal.sections s)).content

    -- item p of section s is still to be given
    pub record IsLeft (s p : ℕ) : Type 0 where
      pub goes_on : w.ended ≡ false
      pub begun : first_of w s ≤ p
      pub whole : p < length (kept_bytes s) / size
      pub ahead : (IsHeld w.journal.sections s × IsAhead w s)
          ⊎ IsSomeAnd w.place (λ r. (r.section ≡ s) × (r.position ≤ p))

  -- The reader is over the section's blob, of which all bytes are flushed.
  pub record StandsIn {F : Type 0} (size : ℕ) (w : Walk F (PageBlob S gs)) (r : Place)
      (u : PageBlob S gs) : Type 0 where
    pub key : r.reader.key ≡ key_of w.journal.sections r.section
    pub page_size : r.reader.page_size ≡ u.page_size
    pub end : r.reader.end ≡ u.end
    pub blob_size : r.reader.size ≡ size_of (shown u)
    pub flushed : u.from ≡ length u.tip.items
    pub at : r.reader.at ≡ r.position * size
    pub within : r.position * size ≤ size_of (shown u)
    pub begun : w.journal.unrecovered r.section ≡ false → first_of w r.section ≤ r.position

  -- It reads what the blob has. Where all of the section is read, all bytes up to the last one at
  -- hand were checked.
  pub record ReadsIn {F : Type 0} (seal : List ℕ → ℕ) (w : Walk F (PageBlob S gs)) (d : Disk)
      (r : Place) (u : PageBlob S gs) : Type 0 where
    pub replays : IsReplayOf seal (d (key_of w.journal.sections r.section)).content r.reader
    pub checked : IsReadWhole w r.section → IsCovered seal u.page_size
        (d (key_of w.journal.sections r.section)).content 0 (r.reader.at + length r.reader.bytes)

  -- the replay has gone over the section
  pub record IsGoneOver {F : Type 0} (w : Walk F (PageBlob S gs)) (s : ℕ) : Type 0 where
    pub begun : w.start_section ≤ s
    pub not_ahead : IsAhead w s → ⊥
    pub not_in : IsIn w s → ⊥

  -- Where the replay stands. The start is within its section, before the replay comes to it and
  -- once it has gone over it without an error.
  pub record HasWalk {F : Type 0} (size : ℕ) (w : Walk F (PageBlob S gs)) : Type 0 where
    pub owes_settled : OwesSettled w.journal
    pub owes_held : w.failed ≡ false → OwesHeld w.journal
    pub place : (r : Place) → w.place ≡ Some r → IsSomeAnd (w.journal.sections.held r.section)
        (StandsIn size w r)
    pub come_to : (r : Place) → w.place ≡ Some r → (w.start_section ≤ r.section)
        × (IsAhead w r.section → ⊥)
    pub from_start : (n : ℕ) → w.next_section ≡ Some n → w.start_section ≤ n
    pub start_within : IsAhead w w.start_section → (u : PageBlob S gs)
        → w.journal.sections.held w.start_section ≡ Some u → w.start_position * size
        ≤ size_of (shown u)
    pub start_kept : w.failed ≡ false → IsGoneOver w w.start_section → (u : PageBlob S gs)
        → w.journal.sections.held w.start_section ≡ Some u → w.start_position * size
        ≤ size_of (shown u)
    pub ends : w.ended ≡ true → w.failed ≡ true

  -- The journal's sections are as sealed as it says, and those that the replay has read whole
  -- without an error are sealed.
  pub record WalksOver {F : Type 0} (seal : List ℕ → ℕ) (size : ℕ) (w : Walk F (PageBlob S gs))
      (d : Disk) : Type 0 where
    pub sealed : AreSealed seal size w.journal d
    pub gone_over : w.failed ≡ false → (s : ℕ) (u : PageBlob S gs) → w.journal.sections.held s
        ≡ Some u → IsGoneOver w s → IsReadWhole w s
        → IsSealed seal (shown u) (d (key_of w.journal.sections s)) × (size_of (shown u) % size ≡ 0)
    pub unopened : w.failed ≡ false → UnopenedLater w.journal
    pub place : (r : Place) → w.place ≡ Some r → IsSomeAnd (w.journal.sections.held r.section)
        (ReadsIn seal w d r)

  -- The buffer v over the blob c has the bytes that u had over b, and as many of them have settled.
  pub record HasSameBytes (told : Type 0) (u : PageBlob S gs) (b : Blob) (v : PageBlob S gs)
      (c : Blob) : Type 0 where
    pub size : size_of (shown v) ≡ size_of (shown u)
    pub settled : v.settled ≡ u.settled
    pub bytes : told → bytes_of (shown v) c.content ≡ bytes_of (shown u) b.content

  -- each section that owes no replay, and is held before and after, has the bytes that it had
  abbrev pub KeepsBytes : {F : Type 0} → Type 0 → Walk F (PageBlob S gs) → Walk F (PageBlob S gs)
      → Disk → Disk → Type 0
  KeepsBytes told old new d e = (s : ℕ) (u v : PageBlob S gs) → old.journal.sections.held s ≡ Some u
      → new.journal.sections.held s ≡ Some v → old.journal.unrecovered s ≡ false
      → HasSameBytes told u (d (key_of old.journal.sections s)) v
      (e (key_of old.journal.sections s))

  -- The buffer v has pages as large as u has, and as many bytes, or it was cut to no fewer than the
  -- floor.
  pub record IsSameOrCut (floor : ℕ) (u v : PageBlob S gs) : Type 0 where
    pub page_size : v.page_size ≡ u.page_size
    pub shorter : size_of (shown v) ≤ size_of (shown u)
    pub reached : (size_of (shown v) ≡ size_of (shown u)) ⊎ (floor ≤ size_of (shown v))

  -- no section that is held before and after is longer, or cut below its floor
  abbrev pub KeepsFloors : {F : Type 0} → Walk F (PageBlob S gs) → Walk F (PageBlob S gs) → Type 0
  KeepsFloors old new = (s : ℕ) (u v : PageBlob S gs) → old.journal.sections.held s ≡ Some u
      → new.journal.sections.held s ≡ Some v → IsSameOrCut (old.journal.floor_of s) u v

  -- the blob of each held section that owes a replay keeps its whole items
  abbrev pub KeepsItems : {F : Type 0} → (List ℕ → ℕ) → ℕ → Walk F (PageBlob S gs) → Disk → Disk
      → Type 0
  KeepsItems seal size w d e = (s : ℕ) (u : PageBlob S gs) → w.journal.sections.held s ≡ Some u
      → IsTrue (w.journal.unrecovered s)
      → SameItems seal u.page_size size (d (key_of w.journal.sections s))
      (e (key_of w.journal.sections s))

  -- what a replay keeps
  pub record IsWalk {F : Type 0} (g : buffer.Ghosts (PageBlob S gs)) (gives : F → Setting)
      (seal : List ℕ → ℕ) (size : ℕ) (told : Type 0)
      (w : Walk F (PageBlob S gs)) (opened : OpenedList) (d : Disk) : Type 0 where
    pub over : IsOver g gives told w.journal.sections opened d
    pub walk : HasWalk size w
    pub disk : told → WalksOver seal size w d

  -- Matching slots cover each page that has bytes of the item of section s at p, as far as the item
  -- goes.
  abbrev pub IsFromCovered : {F : Type 0} → (List ℕ → ℕ) → ℕ → Walk F (PageBlob S gs) → Disk → ℕ → ℕ
      → Type 0
  IsFromCovered seal size w d s p = IsSomeAnd (w.journal.sections.held s)
      (λ u. IsCovered seal u.page_size (d (key_of w.journal.sections s)).content (p * size) size)

  -- The item v of section s at p is the first that was left, from pages that are covered, and those
  -- behind it are left.
  pub record Gives {F V : Type 0} (seal : List ℕ → ℕ) (size : ℕ) (spelling : V → List ℕ)
      (accepted : V → Unit {0} → Type 0)
      (old new : Walk F (PageBlob S gs)) (d e : Disk) (s p : ℕ) (v : V) : Type 0 where
    pub left : IsLeft seal size old d s p
    pub first : (t q : ℕ) → IsLeft seal size old d t q → StandsBefore t q s p → ⊥
    pub item : IsItem spelling accepted (item_at size (kept_bytes seal size old d s) p) v
    pub covered : IsFromCovered seal size new e s p
    pub rest : (t q : ℕ) → IsLeft seal size new e t q
        ↔ (IsLeft seal size old d t q × StandsBefore s p t q)

  -- The item at `position` of a section is the first that was left, and its bytes, from pages that
  -- are covered, are refused with e. The items of later sections are left.
  pub record Refuses {F : Type 0} (seal : List ℕ → ℕ) (size : ℕ)
      (refusal : List ℕ → Unit {0} → Option codec.Error) (old new : Walk F (PageBlob S gs))
      (from to : Disk) (e : codec.Error) : Type 0 where
    pub section : ℕ
    pub position : ℕ
    pub left : IsLeft seal size old from section position
    pub first : (t q : ℕ) → IsLeft seal size old from t q → StandsBefore t q section position → ⊥
    pub refused : refusal (item_at size (kept_bytes seal size old from section) position) tt
        ≡ Some e
    pub covered : IsFromCovered seal size new to section position
    pub rest : (t q : ℕ) → IsLeft seal size new to t q
        ↔ (IsLeft seal size old from t q × (section < t))

  -- The replay has ended section s.
  pub record IsEndedAt {F : Type 0} (seal : List ℕ → ℕ) (size : ℕ)
      (old new : Walk F (PageBlob S gs)) (d e : Disk) (s : ℕ) : Type 0 where
    -- no item of an earlier section was left
    pub first : (t q : ℕ) → IsLeft seal size old d t q → t < s → ⊥
    -- what is left are the items of later ones
    pub rest : (t q : ℕ) → IsLeft seal size new e t q ↔ (IsLeft seal size old d t q × (s < t))

  -- Page k has bytes of an item of a section that owes no replay and has a floor, and no matching
  -- slot covers it as far as the item goes. The item ends within the section. The pages below a
  -- floor are taken as a marker vouches for them, so none was read before.
  pub record FindsDamage {F : Type 0} (seal : List ℕ → ℕ) (size : ℕ)
      (old new : Walk F (PageBlob S gs)) (d : Disk) (k : ℕ) : Type 0 where
    pub section : ℕ
    pub position : ℕ
    pub near : IsAhead old section ⊎ IsIn old section
    pub free : new.journal.unrecovered section ≡ false
    pub floor : 0 < new.journal.floor_of section
    pub within : IsSomeAnd (new.journal.sections.held section)
        (λ u. (position + 1) * size ≤ size_of (shown u))
    pub page : IsSomeAnd (new.journal.sections.held section)
        (λ u. IsShort seal u.page_size (d (key_of new.journal.sections section)).content
        (position * size) size k)

  -- A page was found damaged, and the error ended its section.
  pub record EndsDamaged {F : Type 0} (seal : List ℕ → ℕ) (size : ℕ)
      (old new : Walk F (PageBlob S gs)) (from d : Disk) (k : ℕ) : Type 0 where
    pub damage : FindsDamage seal size old new d k
    pub ends : IsEndedAt seal size old new from d damage.section

  -- An error ended the whole replay, or that of a section.
  pub record Stops {F : Type 0} (seal : List ℕ → ℕ) (size : ℕ) (old new : Walk F (PageBlob S gs))
      (d e : Disk) : Type 0 where
    pub rest : (new.ended ≡ true) ⊎ ((s : ℕ) × IsEndedAt seal size old new d e s)

  -- A section is being cut: it owes a replay, and has more bytes than the whole items of its sealed
  -- prefix. No item of it was left, and none of an earlier one.
  pub record IsCutting {F : Type 0} (seal : List ℕ → ℕ) (size : ℕ) (told : Type 0)
      (w : Walk F (PageBlob S gs)) (d : Disk) : Type 0 where
    pub section : ℕ
    pub near : IsAhead w section ⊎ IsIn w section
    pub owes : IsTrue (w.journal.unrecovered section)
    pub longer : told → length (kept_bytes seal size w d section) / size * size
        < section_size w.journal.sections section
    pub given : told → (t q : ℕ) → IsLeft seal size w d t q → t ≤ section → ⊥

  -- Of a section that owes no replay each crash leaves, where it is sealed, as each proven one is,
  -- a prefix of its bytes, no shorter than what had settled, and where it is not all of its sealed
  -- prefix as it reads. Of one that owes a replay it leaves a prefix of its sealed prefix that has
  -- all whole items of it; it is cut only where those reach its floor. A blob of which all bytes
  -- have settled, and nothing is cut off, stays as it is. No blob changes but those of sections
  -- that are ahead or being read.
  pub record Replaying {F : Type 0} (seal : List ℕ → ℕ) (size : ℕ) (w : Walk F (PageBlob S gs))
      (from : Disk) (q : Key) (b : Blob) : Type 0 where
    pub flushed : (s : ℕ) (u : PageBlob S gs) → w.journal.sections.held s ≡ Some u
        → w.journal.unrecovered s ≡ false → IsSealed seal (shown u) (from q) → q
        ≡ key_of w.journal.sections s
        → Leaves seal u.page_size (bytes_of (shown u) (from q).content) u.settled b
    pub prefix : (s : ℕ) (u : PageBlob S gs) → w.journal.sections.held s ≡ Some u
        → w.journal.unrecovered s ≡ false → IsUnrecovered seal (shown u) (from q) → q
        ≡ key_of w.journal.sections s
        → Leaves seal u.page_size (sealed_prefix seal u.page_size (from q).content)
        (length (sealed_prefix seal u.page_size (from q).content)) b
    pub cut : (s : ℕ) (u : PageBlob S gs) → w.journal.sections.held s ≡ Some u
        → IsTrue (w.journal.unrecovered s) → q ≡ key_of w.journal.sections s
        → (b ≡ from q) ⊎ ((w.journal.floor_of s ≤ length
        (sealed_prefix seal u.page_size (from q).content) / size * size)
        × Leaves seal u.page_size (sealed_prefix seal u.page_size (from q).content)
        (length (sealed_prefix seal u.page_size (from q).content) / size * size) b)
    pub still : (s : ℕ) (u : PageBlob S gs) → w.journal.sections.held s ≡ Some u
        → StaysStill seal size (w.journal.unrecovered s) u (from q) → q
        ≡ key_of w.journal.sections s → b ≡ from q
    pub others : (IsKeyOf w.journal.sections (λ s. IsHeld w.journal.sections s
        × (IsAhead w s ⊎ IsIn w s)) q → ⊥) → b ≡ from q

-- The section of this damage is held and owes a replay, and the whole items of its sealed prefix
-- end below its floor.
pub record EndsBelow {F S : Type 0} {gs : _} (seal : List ℕ → ℕ) (size : ℕ)
    (w : Walk F (PageBlob S gs)) (d : Disk) (x : Damage) : Type 0 where
  pub owes : IsTrue (w.journal.unrecovered x.section)
  pub held : IsHeld w.journal.sections x.section
  pub kept : x.kept ≡ length (kept_bytes seal size w d x.section) / size * size
  pub wanted : x.wanted ≡ w.journal.floor_of x.section
  pub less : x.kept < x.wanted

-- what the later replay may leave of a blob, the earlier one may leave
abbrev pub LeavesNoMore : {F S : Type 0} {gs : _} → (List ℕ → ℕ) → ℕ → Walk F (PageBlob S gs)
    → Walk F (PageBlob S gs) → Disk → Disk → Type 0
LeavesNoMore seal size old new d e = (q : Key) (b : Blob) → Replaying seal size new e q b
    → Replaying seal size old d q b

-- where a replay begins, and over which sections
pub record Begins {F B : Type 0} (j : Lists F B) (s p : ℕ) (w : Walk F B) : Type 0 where
  pub journal : w.journal ≡ j
  pub section : w.start_section ≡ s
  pub position : w.start_position ≡ p
  pub first : w.next_section ≡ Some s
  pub between : w.place ≡ None
  pub whole : w.failed ≡ false
  pub going : w.ended ≡ false

-- the same replay, over the same sections that owe one
pub record SameWalk {F B : Type 0} (old new : Walk F B) : Type 0 where
  pub bounds : SameBounds old.journal.sections new.journal.sections
  pub unrecovered : (s : ℕ) → new.journal.unrecovered s ≡ old.journal.unrecovered s
  pub floors : (s : ℕ) → new.journal.floor_of s ≡ old.journal.floor_of s
  pub section : new.start_section ≡ old.start_section
  pub position : new.start_position ≡ old.start_position
