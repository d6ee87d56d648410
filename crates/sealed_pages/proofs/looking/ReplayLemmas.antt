-- A reader after a step: what it still has to read, and that it stays the same otherwise.
use Rattle.std.proofs.Common.{◌≡◌, ◌⊎◌, inl, inr, ℕ, ◌+◌, ◌-◌, ◌*◌, ◌/◌, ◌<◌, ◌≤◌, max, cond, Bool, Result, Ok, Err, List, length, refl, ◌∙◌, ap, arith, is_ok, if◌then◌else◌}
use Rattle.std.proofs.Math.Nat.{div-mul-le_self, lt-div-mul-add}
use Rattle.std.proofs.lemmas.Bool.{cases_lt, le-leb, lt-leb}
use Rattle.std.proofs.lemmas.Nat.{le-div}
use Rattle.std.specs.declared.alloc.AllocError.{AllocError}
use Rattle.blob_device.specs.Disk.{Key}
use Rattle.blob_device.specs.Opened.{OpenedList, reads_of}
use Rattle.sealed_pages.specs.declared.piece.Piece.{Piece}
use Rattle.sealed_pages.specs.Pieces.{HasPage, next_missing}
use Rattle.sealed_pages.specs.Readers.{Reader, ReadsUnread, SameReader}
use Rattle.sealed_pages.specs.Reads.{IsWanted, IsShort, EndsAtOrPast}
use Rattle.sealed_pages.specs.SealedPrefix.{data_from}
use Rattle.sealed_pages.specs.View.{View}
use Rattle.sealed_pages.specs.lemmas.Entries.{reads_start}
use Rattle.sealed_pages.specs.lemmas.looking.Read.{read_data}
use Rattle.std.specs.Prelude.{OnErr}
use Rattle.std.specs.Result.{IsErr}
use Rattle.blob_device.specs.declared.runtime.RError.{RError}
use Rattle.blob_device.specs.declared.runtime.RError.TheVariants.{Mem}
use Rattle.sealed_pages.specs.Replays.{Begins}
use Rattle.sealed_pages.proofs.cutting.Truncating.{no_value}
use Rattle.blob_device.proofs.general.Numbers.{div_place, times_more}
use Rattle.sealed_pages.specs.lemmas.looking.Replay.{PageReads, wanted, within}

pub data_nil : (P m : ℕ) (v : View) (xs : List ℕ) → length xs ≡ 0 → xs ≡ data_from P v m (length xs)
data_nil P m v xs none = read_data P m (length xs) v xs refl (λ i lt. absurd (omega (arith, lt, none)))

pub pushed_cases : (r : Result (Unit {0}) AllocError) (new whole old : List ℕ) → new ≡ (if is_ok r then whole else old) → (new ≡ whole) ⊎ (new ≡ old)
pushed_cases (Ok v) new whole old is = inl is
pushed_cases (Err e) new whole old is = inr is

-- the page of byte m is wanted
pub part_wanted : (P m goal k : ℕ) → 1 ≤ P → m < goal → k ≡ m / P → IsWanted P m (goal - m) k
part_wanted P m goal k pos more is =
    let at = div_place P m (omega (arith, pos)) in
    let e = ap (λ (x : ℕ). x * P) is in
    record { some = omega (arith, more); low = omega (arith, at.1, e); high = omega (arith, at.0, e, more) }

-- a page that is wanted by a later part of a read is wanted by all of it
pub wanted_all : (P m n next goal k : ℕ) → m ≤ next → next < goal → goal ≡ m + n → IsWanted P next (goal - next) k → IsWanted P m n k
wanted_all P m n next goal k from more is wanted = record { some = omega (arith, from, more, is); low = omega (arith, wanted.low, from); high = omega (arith, wanted.high, more, is) }

pub short_all : (seal : List ℕ → ℕ) (P m n next goal k : ℕ) (c : List ℕ) → m ≤ next → next < goal → goal ≡ m + n → IsShort seal P c next (goal - next) k → IsShort seal P c m n k
short_all seal P m n next goal k c from more is short = record { wanted = wanted_all P m n next goal k from more is short.wanted; short = omega (arith, short.short, more, is) }

-- what of the pages is not yet read
pub missing_held : (p : Piece) (k : ℕ) → p.page ≤ k → next_missing p k ≡ max k (p.page + p.count)
missing_held p k le = ap (λ (b : Bool). cond b (max k (p.page + p.count)) k) (le-leb p.page k le)

pub missing_none : (p : Piece) (k : ℕ) → (HasPage p k → ⊥) → next_missing p k ≡ k
missing_none p k not = elim (cases_lt k p.page) [
  | inl before ↦ ap (λ (b : Bool). cond b (max k (p.page + p.count)) k) (lt-leb p.page k before)
  | inr from ↦ (let past : p.page + p.count ≤ k = elim (cases_lt k (p.page + p.count)) [ inl inside ↦ absurd (not (from, inside)) | inr le ↦ le ] in omega (arith, missing_held p k from, past))
]

pub missing_later : (p : Piece) (k : ℕ) → k ≤ next_missing p k
missing_later p k = elim (cases_lt k p.page) [
  | inl before ↦ omega (arith, ap (λ (b : Bool). cond b (max k (p.page + p.count)) k) (lt-leb p.page k before))
  | inr from ↦ omega (arith, missing_held p k from)
]

-- a read of a page that was not held takes it from those that are not yet read
pub unread_step : (P full m n before after : ℕ) (old new : Piece) → 1 ≤ P → m / P < full → m ≤ n → HasPage new (m / P) → ((HasPage old (m / P) × (new ≡ old)) ⊎ ((new.page ≡ m / P) × (HasPage old (m / P) → ⊥)))
    → (HasPage old (m / P) → after ≡ before) → after ≤ before + 1 → after + (full - next_missing new (n / P)) ≤ before + (full - next_missing old (m / P))
unread_step P full m n before after old new pos inside further has loaded held once = go loaded
  where
    begun : m / P * P ≤ m
    begun = div-mul-le_self m P

    later : m / P ≤ n / P
    later = le-div (m / P) n P (omega (arith, pos)) (omega (arith, begun, further))

    left : m / P + 1 ≤ full
    left = omega (arith, inside)

    go : ((HasPage old (m / P) × (new ≡ old)) ⊎ ((new.page ≡ m / P) × (HasPage old (m / P) → ⊥))) → after + (full - next_missing new (n / P)) ≤ before + (full - next_missing old (m / P))
    go (inl (was, same)) =
        let page : new.page ≡ old.page = ap (λ (p : Piece). p.page) same in
        let count : new.count ≡ old.count = ap (λ (p : Piece). p.count) same in
        omega (arith, held was, missing_held old (m / P) was.0, missing_held new (n / P) (omega (arith, page, was.0, later)), page, count, was.1)
    go (inr (page, not)) = omega (arith, once, missing_none old (m / P) not, missing_held new (n / P) (omega (arith, page, later)), has.1, left)

pub page_reads_start : (P m n next : ℕ) (k : Key) (a : OpenedList) → PageReads P m n next k a a
page_reads_start P m n next k a = record { number = 0; most = omega arith; upto = λ lt. omega arith; reads = reads_start 0 k a }

pub unread_then : (old mid new : Reader) (a b c : OpenedList) → mid.key ≡ old.key → ReadsUnread old mid a b → ReadsUnread mid new b c → ReadsUnread old new a c
unread_then old mid new a b c key first second = omega (arith, first, second, ap (λ (k : Key). reads_of (b k)) key, ap (λ (k : Key). reads_of (c k)) key)

-- one step after another leaves the reader the same
pub same_then : (a b c : Reader) → SameReader a b → SameReader b c → SameReader a c
same_then a b c first second = record {
  key = second.key ∙ first.key;
  page_size = second.page_size ∙ first.page_size;
  end = second.end ∙ first.end;
  size = second.size ∙ first.size;
  at = second.at ∙ first.at;
}

-- no reader begins where memory is short
pub not_begun : {Q : Type 0} (seal : List ℕ → ℕ) (reads : Q → Reader) (blob : Key) (P ends n : ℕ) (last : List ℕ) (r : Result Q RError) → IsErr r → OnErr r (r ≡ Err Mem) → Begins seal reads blob P ends n last r
not_begun seal reads blob P ends n last r none cause = record {
  key = no_value _ r none;
  page_size = no_value _ r none;
  end = no_value _ r none;
  size = no_value _ r none;
  begin = no_value _ r none;
  replays = no_value _ r none;
  cause = cause;
}

-- the tip ends with the data, in the last page
pub tip_reaches : (P m goal size next : ℕ) → 1 ≤ P → size / P ≤ m / P → goal ≤ size → next ≡ size → EndsAtOrPast P m goal next
tip_reaches P m goal size next pos last within is =
    let near : size < size / P * P + P = lt-div-mul-add pos in
    inr (omega (arith, is, within), omega (arith, is, near, times_more (size / P) (m / P + 1) P (omega (arith, last))))
