-- What a pair's readers answer, and that a pair stays one where blobs are only read.
use Rattle.std.proofs.Common.{◌≡◌, ◌⊎◌, inl, inr, ℕ, ◌-◌, ◌*◌, ◌/◌, ◌^◌, ◌<◌, ◌≤◌, ◌↔◌, List, Option, None, Some, IsSome, IsSomeAnd, Result, Ok, Err, IfOk, OnOk, OnErr, IsTrue, refl, sym, ◌∙◌, ap, subst, arith}
use Rattle.std.specs.Option.{ok_or, SomeIff}
use Rattle.std.specs.Result.{IsErrOf}
use Rattle.std.proofs.lemmas.Bool.{cases_lt}
use Rattle.blob_device.specs.Disk.{Key, Blob, Disk}
use Rattle.blob_device.specs.Opened.{Opened, OpenedList}
use Rattle.blob_device.specs.lemmas.Puts.{same_or_other}
use Rattle.sealed_pages.specs.declared.page_blob.PageBlob.{PageBlob}
use Rattle.sealed_pages.specs.Buffer.{size_of, bytes_of}
use Rattle.sealed_pages.specs.Entries.{IsOpenAt, ReadsAtMost}
use Rattle.sealed_pages.specs.Shown.{shown}
use Rattle.sealed_pages.specs.lemmas.Entries.{only_read_of}
use Rattle.paired.specs.lemmas.Glob.{buffers, glob_stays}
use Rattle.sealed_pages.specs.lemmas.slots.Whole.{whole_read}
use Rattle.segments.specs.lemmas.held.Sections.{from_here, is_held, journal_read, size_here}
use Rattle.section_manager.specs.declared.buffer.SectionBuffer as buffer
use Rattle.section_manager.specs.declared.journal.Error.{Error}
use Rattle.section_manager.specs.declared.journal.Error.TheVariants.{Runtime, Codec, ChecksumMismatch}
use Rattle.blob_device.specs.declared.runtime.RError.TheVariants.{InvalidChecksum}
use Rattle.value_codec.specs.declared.codec.Error as codec
use Rattle.section_manager.specs.Refusing.{IsPruned, HasFailed}
use Rattle.section_manager.specs.Sections.{Sections, key_of, IsHeld, IsOver}
use Rattle.section_manager.specs.Setting.{Setting}
use Rattle.section_manager.specs.declared.unsealed.WriteFactory.{WriteFactory}
use Rattle.segments.specs.FixedItems.{IsItem}
use Rattle.segments.specs.FixedLists as fixed
use Rattle.segments.specs.FixedReading.{IsAbsent, IsPast, IsDamaged, HasNotRead}
use Rattle.meta_store.specs.Blobs.{blob_of}
use Rattle.meta_store.specs.declared.error.Side.TheVariants.{Left, Right}
use Rattle.paired.specs.Frames.{bytes_at, HasFrame, IsBroken}
use Rattle.paired.specs.glob.Reading as frames
use Rattle.paired.specs.Pair.{Pair, IsPair, IsPairOn}
use Rattle.paired.specs.Records.{is_sound}
use Rattle.paired.proofs.CallLemmas.{held_some}
use Rattle.blob_device.proofs.general.Options.{none_or_value}
use Rattle.paired.specs.lemmas.pair.Reads.{frame_spells, sound_unbroken}

-- there is a last record
pub has_last : {I : Type 0} (o : Option I) (v : I) (n : ℕ) → o ≡ Some v → ((o ≡ None) ↔ (n ≡ 0)) → 0 < n
has_last o v n is none = elim (cases_lt 0 n) [
  | inl some ↦ some
  | inr few ↦ absurd (cc (is, none.1 (omega (arith, few))))
]

-- a sum is answered where it fits
pub sum_answered : (o : Option ℕ) (e : Error) (r : Result ℕ Error) (x : ℕ) (Q : ℕ → Type 0) → SomeIff o (x < 2 ^ 64) x → r ≡ ok_or o e → Q x → IfOk r Q
sum_answered None e r x Q says is has = subst (λ (y : Result ℕ Error). IfOk y Q) (sym is) tt
sum_answered (Some n) e r x Q says is has = subst (λ (y : Result ℕ Error). IfOk y Q) (sym is) (subst Q (sym says.1) has)

pub sum_refused : (o : Option ℕ) (e f : Error) (r : Result ℕ Error) (x : ℕ) → SomeIff o (x < 2 ^ 64) x → r ≡ ok_or o e → IsErrOf r f → 2 ^ 64 ≤ x
sum_refused None e f r x says is refused = elim (cases_lt x (2 ^ 64)) [
  | inl lt ↦ absurd (says lt)
  | inr le ↦ le
]
sum_refused (Some n) e f r x says is refused = absurd (cc (is, refused))

-- a damaged page of the last record
pub damaged_last : {F S : Type 0} {gs : _} (m : Sections F (PageBlob S gs)) (size : ℕ) (seal : List ℕ → ℕ) (content : List ℕ) (s k : ℕ) → IsSomeAnd (m.held s) (λ u. IsDamaged size seal u content (size_of (shown u) / size - 1) k)
    → IsSomeAnd (m.held s) (λ u. IsDamaged size seal u content (fixed.section_size m s / size - 1) k)
damaged_last {S = S} {gs = gs} m size seal content s k damaged = go (m.held s) damaged
  where
    go : (o : Option (PageBlob S gs)) → IsSomeAnd o (λ u. IsDamaged size seal u content (size_of (shown u) / size - 1) k) → IsSomeAnd o (λ u. IsDamaged size seal u content (fixed.size_held o / size - 1) k)
    go None is = is
    go (Some u) is = is

-- a section that is held is at or above the floor
pub from_floor : {F B : Type 0} {g : buffer.Ghosts B} {gives : F → Setting} {told : Type 0} (m : Sections F B) (opened : OpenedList) (d : Disk) → IsOver g gives told m opened d → (s : ℕ) → IsHeld m s → s < m.floor → ⊥
from_floor m opened d over s held below = omega (arith, below, over.opened_list.from_floor s (inl held))

pub not_held : {F B : Type 0} (m : Sections F B) (s : ℕ) → IsHeld m s → m.held s ≡ None → ⊥
not_held m s held none = cc (subst IsSome none held)

-- a section that is pruned, or not held, or has no more records, has none there
pub no_item : {F S : Type 0} {gs : _} {g : buffer.Ghosts (PageBlob S gs)} {gives : F → Setting} {told : Type 0} (m : Sections F (PageBlob S gs)) (opened : OpenedList) (d : Disk) → IsOver g gives told m opened d
    → (size s n : ℕ) (P : PageBlob S gs → Type 0) → (s < m.floor) ⊎ ((m.held s ≡ None) ⊎ (fixed.section_size m s / size ≤ n)) → IsSomeAnd (m.held s) (λ u. (n < size_of (shown u) / size) × P u) → ⊥
no_item {S = S} {gs = gs} m opened d over size s n P why has = elim (none_or_value (m.held s)) [
  | inl none ↦ subst (λ (o : Option (PageBlob S gs)). IsSomeAnd o (λ u. (n < size_of (shown u) / size) × P u)) none has
  | inr some ↦ elim why [
    | inl below ↦ from_floor m opened d over s (is_held m s some.0 some.1) below
    | inr (inl none) ↦ not_held m s (is_held m s some.0 some.1) none
    | inr (inr past) ↦
        let few : n < size_of (shown some.0) / size = (from_here m s some.0 some.1 (λ u. (n < size_of (shown u) / size) × P u) has).0 in
        omega (arith, few, past, ap (λ (k : ℕ). k / size) (size_here m s some.0 some.1))
  ]
]

-- a position that is answered is below the end
pub answered_inside : {F S T : Type 0} {gs : _} (m : Sections F (PageBlob S gs)) (size s position : ℕ) (r : Result T Error) → (IsPruned r m.floor ↔ (s < m.floor)) → (IsAbsent r s ↔ ((m.floor ≤ s) × (m.held s ≡ None)))
    → (IsPast r position ↔ IsSomeAnd (m.held s) (λ u. size_of (shown u) / size ≤ position)) → OnOk r (position < fixed.section_size m s / size)
answered_inside m size s position (Err e) guard absent past = tt
answered_inside {T} m size s position (Ok v) guard absent past = elim (cases_lt s m.floor) [
  | inl below ↦ absurd (cc (guard.1 below))
  | inr here ↦ elim (none_or_value (m.held s)) [
    | inl none ↦ absurd (cc (absent.1 (here, none)))
    | inr some ↦ elim (cases_lt position (size_of (shown some.0) / size)) [
      | inl lt ↦ rw some.1 lt
      | inr over ↦ absurd (cc (past.1 (rw some.1 over)))
    ]
  ]
]

-- the position is past the end exactly where the section is held and has no more records
pub past_held : {F S : Type 0} {gs : _} (m : Sections F (PageBlob S gs)) (size s position : ℕ) → IsSomeAnd (m.held s) (λ u. size_of (shown u) / size ≤ position) ↔ (IsHeld m s × (fixed.section_size m s / size ≤ position))
past_held {F} {S} {gs} m size s position = go (m.held s)
  where
    go : (o : Option (PageBlob S gs)) → IsSomeAnd o (λ u. size_of (shown u) / size ≤ position) ↔ (IsSome o × (fixed.size_held o / size ≤ position))
    go None = (λ none. absurd none, λ held. absurd (cc held.0))
    go (Some u) = (λ le. (refl, le), λ held. held.1)

-- no page of a proven section is damaged
pub undamaged : {F S : Type 0} {gs : _} {g : buffer.Ghosts (PageBlob S gs)} {gives : F → Setting} {told : Type 0} (seal : List ℕ → ℕ) (size : ℕ) (j : fixed.Lists F (PageBlob S gs)) (opened : OpenedList) (d : Disk)
    → fixed.IsJournal g gives seal size told j opened d → told → (s : ℕ) → fixed.IsProven j s → (position k : ℕ) → IsSomeAnd (j.sections.held s) (λ u. IsDamaged size seal u (d (key_of j.sections s)).content position k) → ⊥
undamaged {S = S} {gs = gs} seal size j opened d journal t s is_proven position k damaged = elim (none_or_value (j.sections.held s)) [
  | inl none ↦ subst (λ (o : Option (PageBlob S gs)). IsSomeAnd o (λ u. IsDamaged size seal u (d (key_of j.sections s)).content position k)) none damaged
  | inr some ↦
      let u : PageBlob S gs = some.0 in
      let b : Blob = d (key_of j.sections s) in
      whole_read seal (shown u) (bytes_of (shown u) b.content) b ((journal.disk t).sealed s u some.1 is_proven).holds (position * size) size k
      (subst (λ (o : Option (PageBlob S gs)). IsSomeAnd o (λ v. IsDamaged size seal v b.content position k)) some.1 damaged)
]

some_of : {X : Type 0} (o : Option X) (P : X → Type 0) → IsSomeAnd o P → IsSome o
some_of None P has = absurd has
some_of (Some x) P has = refl

-- an entry that is in the list of opened blobs stays there where a blob is only read
opened_read : (n : ℕ) (k q : Key) (old new : OpenedList) → ReadsAtMost n k old new → IsSome (old q) → IsSome (new q)
opened_read n k q old new reads some = elim (same_or_other q k) [
  | inl here ↦
      let was = held_some (old k) (subst (λ (x : Key). IsSome (old x)) here some) in
      subst (λ (x : Key). IsSome (new x)) (sym here) (some_of (new k) (λ x. x.len ≡ was.0.len) (reads.length was.0.len (subst (λ (o : Option Opened). IsSomeAnd o (λ x. x.len ≡ was.0.len)) (sym was.1) refl)))
  | inr other ↦ subst IsSome (sym (reads.others q other)) some
]

-- A pair stays what it is where one blob alone was read.
pub pair_read : {F S : Type 0} {gs : _} {g : buffer.Ghosts (PageBlob S gs)} {gives : F → Setting} {takes : WriteFactory → Setting} {told : Type 0} (p : Pair F (PageBlob S gs)) (old new : OpenedList) (d e : Disk) (n : ℕ) (k : Key)
    → IsPair g gives buffers takes told p old d → ReadsAtMost n k old new → (told → e ≡ d) → IsPair g gives buffers takes told p new e
pair_read {g = g} {gives = gives} {takes = takes} {told = told} p old new d e n k pair reads same = record {
  index = journal_read g gives p.layout.seal p.layout.record_size told p.index k old new d e (only_read_of k n old new reads) same pair.index;
  values = glob_stays takes p.values old d pair.values new e
      (λ s len small is. elim (same_or_other (key_of p.values s) k) [
        | inl here ↦ subst (λ (q : Key). IsOpenAt new q len) (sym here) (reads.length len (subst (λ (q : Key). IsOpenAt old q len) here is))
        | inr other ↦ subst (λ (o : Option Opened). IsSomeAnd o (λ x. x.len ≡ len)) (sym (reads.others (key_of p.values s) other)) is
      ])
      (λ t s small. ap (λ (x : Disk). x (key_of p.values s)) (same t));
  apart = pair.apart;
  whole = pair.whole;
  markers = pair.markers;
  settled = pair.settled;
  metadata_opened = record {
    left = opened_read n k (blob_of p.store.partition Left) old new reads pair.metadata_opened.left;
    right = opened_read n k (blob_of p.store.partition Right) old new reads pair.metadata_opened.right;
  };
  storable = pair.storable;
  synced = pair.synced;
  disk = λ t. subst (IsPairOn p) (sym (same t)) (pair.disk t);
}

-- The record that stands at a position is the answer, where no page is damaged.
pub gives_record : {A : Type 0} (spelling : A → List ℕ) (accepted : A → Unit {0} → Type 0) (refusal : List ℕ → Unit {0} → Option codec.Error)
    → ((v : A) (u : Unit {0}) → accepted v u → refusal (spelling v) u ≡ None) → ((v w : A) (u : Unit {0}) → accepted v u → accepted w u → spelling v ≡ spelling w → v ≡ w)
    → (r : Result A Error) (v : A) (bytes : List ℕ) (floor s position a b : ℕ) → accepted v tt → bytes ≡ spelling v → IfOk r (IsItem spelling accepted bytes)
    → (IsPruned r floor → ⊥) → (IsAbsent r s → ⊥) → (IsPast r position → ⊥) → ((k : ℕ) → IsErrOf r (Runtime (InvalidChecksum k)) → ⊥) → ((e : codec.Error) → IsErrOf r (Codec e) → refusal bytes tt ≡ Some e)
    → OnErr r (IsPruned r floor ⊎ (IsAbsent r s ⊎ (IsPast r position ⊎ HasNotRead r a b))) → (r ≡ Ok v) ⊎ HasFailed r a b
gives_record {A} spelling accepted refusal kept one (Ok w) v bytes floor s position a b allowed is item pruned absent past damaged refused cause =
    let ok : A → Result A Error = λ x. Ok x in
    inl (ap ok (one w v tt item.allowed allowed (item.spelled ∙ is)))
gives_record spelling accepted refusal kept one (Err e) v bytes floor s position a b allowed is item pruned absent past damaged refused cause = elim cause [
  | inl x ↦ absurd (pruned x)
  | inr (inl x) ↦ absurd (absent x)
  | inr (inr (inl x)) ↦ absurd (past x)
  | inr (inr (inr (inl x))) ↦ absurd (damaged x.0 x.1)
  | inr (inr (inr (inr (inl x)))) ↦ absurd (cc (sym (refused x.0 x.1), ap (λ (l : List ℕ). refusal l tt) is, kept v tt allowed))
  | inr (inr (inr (inr (inr x)))) ↦ inr x
]

-- The value of a sound frame is the answer.
pub gives_value : {V C : Type 0} (seal : List ℕ → ℕ) (spelling : V → List ℕ) (accepted : V → C → Type 0) (refusal : List ℕ → C → Option codec.Error)
    → ((v : V) (c : C) → accepted v c → refusal (spelling v) c ≡ None) → ((v w : V) (c : C) → accepted v c → accepted w c → spelling v ≡ spelling w → v ≡ w)
    → (c : C) (r : Result V Error) (v : V) (bytes : List ℕ) (at n floor s a b : ℕ) → accepted v c → bytes_at bytes at (n - 4) ≡ spelling v → IsTrue (is_sound seal bytes (at, n))
    → IfOk r (λ w. HasFrame seal bytes at n (spelling w)) → IfOk r (λ w. accepted w c) → (IsPruned r floor → ⊥) → (frames.IsAbsent r s → ⊥) → (frames.IsOverflow r → ⊥) → (frames.IsShort r → ⊥)
    → ((stored computed : ℕ) → IsErrOf r (ChecksumMismatch stored computed) → IsBroken seal bytes at n stored computed)
    → ((e : codec.Error) → IsErrOf r (Codec e) → ((spelled : List ℕ) × HasFrame seal bytes at n spelled × (refusal spelled c ≡ Some e)))
    → OnErr r (IsPruned r floor ⊎ (frames.IsAbsent r s ⊎ (frames.IsOverflow r ⊎ (frames.IsShort r ⊎ (frames.IsMismatch r ⊎ (frames.IsRefused r ⊎ HasFailed r a b)))))) → (r ≡ Ok v) ⊎ HasFailed r a b
gives_value {V} {C} seal spelling accepted refusal kept one c (Ok w) v bytes at n floor s a b allowed is sound value taken pruned absent overflow short mismatch refused cause =
    let ok : V → Result V Error = λ x. Ok x in
    inl (ap ok (one w v c taken allowed (sym (frame_spells seal bytes at n (spelling w) (seal (spelling w)) value.inside value.is).0 ∙ is)))
gives_value {V} {C} seal spelling accepted refusal kept one c (Err e) v bytes at n floor s a b allowed is sound value taken pruned absent overflow short mismatch refused cause = elim cause [
  | inl x ↦ absurd (pruned x)
  | inr (inl x) ↦ absurd (absent x)
  | inr (inr (inl x)) ↦ absurd (overflow x)
  | inr (inr (inr (inl x))) ↦ absurd (short x)
  | inr (inr (inr (inr (inl x)))) ↦ absurd (sound_unbroken seal bytes at n x.0 x.1 sound (mismatch x.0 x.1 x.2))
  | inr (inr (inr (inr (inr (inl x))))) ↦
      let why = refused x.0 x.1 in
      let same : why.0 ≡ spelling v = sym (frame_spells seal bytes at n why.0 (seal why.0) why.1.inside why.1.is).0 ∙ is in
      absurd (cc (sym why.2, ap (λ (l : List ℕ). refusal l c) same, kept v c allowed))
  | inr (inr (inr (inr (inr (inr x))))) ↦ inr x
]
