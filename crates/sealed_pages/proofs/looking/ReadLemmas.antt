-- Reading a range of bytes page by page.
use Rattle.std.proofs.Common.{◌≡◌, ◌⊎◌, inl, inr, ℕ, ◌+◌, ◌-◌, ◌*◌, ◌/◌, ◌<◌, ◌≤◌, ◌^◌, min, max, Option, Some, None, Bool, Result, Ok, true, false, List, [], ◌∷◌, ◌++◌, length, get_or, take, drop, length-take, length-drop, length-append, refl, sym, ◌∙◌, ap, arith}
use Rattle.std.proofs.lemmas.Bool.{cases_lt}
use Rattle.std.proofs.lemmas.List.{get_or-take, get_or-drop, get_or_append_left, get_or-append_right, ext_get_or, take_all, take-append-le}
use Rattle.std.proofs.Math.Nat.{mul-le-mul_right}
use Rattle.std.proofs.lemmas.Nat.{le-div}
use Rattle.std.proofs.lemmas.Slice.{take-put_mid}
use borrow.Rule.Slice.PartMut.{put_mid}
use Rattle.std.specs.Prelude.{IfSome, IfNone, OnErr, Err}
use Rattle.std.specs.Result.{IsErrOf, is_err}
use Rattle.blob_device.specs.declared.runtime.RError.{RError}
use Rattle.blob_device.specs.declared.runtime.RError.TheVariants.{BlobInsufficientLength, OffsetOverflow}
use Rattle.sealed_pages.specs.declared.reading.LastPage.{LastPage}
use Rattle.sealed_pages.specs.Buffer.{extent}
use Rattle.sealed_pages.specs.Found.{Finds}
use Rattle.sealed_pages.specs.Reading.{page_of}
use Rattle.sealed_pages.specs.Reads.{IsWanted, IsShort, needed, below}
use Rattle.sealed_pages.specs.SealedPrefix.{place, data_from, adopted_size}
use Rattle.sealed_pages.specs.Slots.{slot_length, page_length}
use Rattle.sealed_pages.specs.View.{View, view, page_at}
use Rattle.sealed_pages.specs.lemmas.adopted.Adopt.{get_or-data_from, length-data_from}
use Rattle.sealed_pages.specs.lemmas.adopted.Repairing.{page_order}
use Rattle.sealed_pages.specs.lemmas.looking.Looking.{page_length_is, part_slot}
use Rattle.sealed_pages.specs.lemmas.slots.Slot.{page_next, slot_stands}
use Rattle.blob_device.proofs.general.Numbers.{times_next}
use Rattle.sealed_pages.specs.lemmas.looking.Read.{page_before}

-- a page by itself is covered as far as in the blob
pub part_page : (seal : List ℕ → ℕ) (P : ℕ) (c : List ℕ) (k : ℕ) → page_at P k + (P + 12) < 2 ^ 64 → page_length seal P (page_of P c k) 0 ≡ page_length seal P c k
part_page seal P c k room = omega (arith, page_length_is seal P (page_of P c k) 0, page_length_is seal P c k, part_slot seal P c k room false, part_slot seal P c k room true)

pub index_twice : (P k : ℕ) → k + k ≤ page_at P k
unfolding page_at
index_twice P k = omega arith

-- a list that is filled piece by piece has these bytes so far
pub filled : (F : ℕ → ℕ) (a k : ℕ) (xs ys : List ℕ) → a ≤ length xs → ((i : ℕ) → i < a → get_or xs i 0 ≡ F i) → ((j : ℕ) → j < length ys → get_or ys j 0 ≡ F (a + j))
    → (i : ℕ) → i < a + length ys → get_or (put_mid a k xs ys) i 0 ≡ F i
filled F a k xs ys fits prefix back i lt =
    let whole : take (a + length ys) (put_mid a k xs ys) ≡ take a xs ++ ys = take-put_mid a k xs ys (a + length ys) refl fits in
    let len : length (take a xs) ≡ a = omega (arith, length-take a xs, fits) in
    sym (get_or-take (a + length ys) (put_mid a k xs ys) i 0 lt) ∙ ap (λ (l : List ℕ). get_or l i 0) whole ∙ elim (cases_lt i a) [
      | inl less ↦ get_or_append_left (take a xs) ys 0 i (omega (arith, less, len)) ∙ get_or-take a xs i 0 less ∙ prefix i less
      | inr le ↦ get_or-append_right (take a xs) ys a i 0 len le ∙ back (i - a) (omega (arith, lt, le)) ∙ (let e : a + (i - a) ≡ i = omega (arith, le) in ap F e)
    ]

-- one step of a read page by page: page k is read from its byte `skip` on, behind the first `at` bytes of the range
module _ (P m n k skip at part : ℕ) (begun : skip < P) (place_is : k * P + skip ≡ m + at) (more : at < n) (part_is : part ≡ min (n - at) (P - skip)) where
  pub step_wanted : IsWanted P m n k
  step_wanted = record { some = omega (arith, more); low = omega (arith, place_is, begun); high = omega (arith, place_is, more) }

  pub step_needed : needed P m n k ≡ skip + part
  step_needed = omega (arith, place_is, begun, more, part_is)

  pub step_next : at + part < n → (k + 1) * P + 0 ≡ m + (at + part)
  step_next lt = omega (arith, lt, place_is, begun, part_is, times_next k P)

  pub step_reached : m + (at + part) ≤ (k + 1) * P
  step_reached = omega (arith, place_is, begun, part_is, times_next k P)

  pub step_last : (k + 1 - 1) * P < m + (at + part)
  step_last = let e : k + 1 - 1 ≡ k = omega arith in omega (arith, place_is, begun, more, part_is, ap (λ (x : ℕ). x * P) e)

  pub step_part : skip + part ≤ P
  step_part = omega (arith, begun, part_is)

-- the bytes of the pages, and behind them those of the tip
pub read_whole : (P first m n b : ℕ) (v : View) (tip out held : List ℕ) → b ≡ below P first m n → m + n ≤ first * P + length tip → length out ≡ b → ((i : ℕ) → i < b → get_or out i 0 ≡ v (place P (m + i)))
    → held ≡ take (n - b) (drop (m + b - first * P) tip) → out ++ held ≡ take n (drop m (data_from P v 0 (first * P) ++ tip))
read_whole P first m n b v tip out held is fits wide prefix back = ext_get_or 0 (out ++ held) (take n (drop m all)) (omega (arith, len_left, len_right)) each
  where
    all : List ℕ
    all = data_from P v 0 (first * P) ++ tip

    begin_is : length (data_from P v 0 (first * P)) ≡ first * P
    begin_is = length-data_from P v (first * P) 0

    held_is : length held ≡ n - b
    held_is = omega (arith, ap length back, length-take (n - b) (drop (m + b - first * P) tip), length-drop (m + b - first * P) tip, fits, is)

    len_left : length (out ++ held) ≡ n
    len_left = omega (arith, length-append out held, held_is, wide, is)

    len_right : length (take n (drop m (data_from P v 0 (first * P) ++ tip))) ≡ n
    len_right = omega (arith, length-take n (drop m (data_from P v 0 (first * P) ++ tip)), length-drop m (data_from P v 0 (first * P) ++ tip), length-append (data_from P v 0 (first * P)) tip, begin_is, fits)

    in_all : (i : ℕ) → i < n → get_or (take n (drop m (data_from P v 0 (first * P) ++ tip))) i 0 ≡ get_or (data_from P v 0 (first * P) ++ tip) (m + i) 0
    in_all i lt = get_or-take n (drop m (data_from P v 0 (first * P) ++ tip)) i 0 lt ∙ get_or-drop m (data_from P v 0 (first * P) ++ tip) i 0

    each : (i : ℕ) → i < length (out ++ held) → get_or (out ++ held) i 0 ≡ get_or (take n (drop m (data_from P v 0 (first * P) ++ tip))) i 0
    each i lt = elim (cases_lt i b) [
      | inl low ↦ get_or_append_left out held 0 i (omega (arith, low, wide)) ∙ prefix i low
          ∙ sym (in_all i (omega (arith, lt, len_left)) ∙ get_or_append_left (data_from P v 0 (first * P)) tip 0 (m + i) (omega (arith, low, is, begin_is)) ∙ get_or-data_from P v (first * P) 0 (m + i) (omega (arith, low, is)) ∙ (let e : 0 + (m + i) ≡ m + i = omega arith in ap (λ (x : ℕ). v (place P x)) e))
      | inr high ↦ (let inside : i < n = omega (arith, lt, len_left) in
          let past : first * P ≤ m + i = omega (arith, high, is, inside) in
          let e : m + b - first * P + (i - b) ≡ m + i - first * P = omega (arith, high, is, inside) in
          get_or-append_right out held b i 0 wide high ∙ ap (λ (l : List ℕ). get_or l (i - b) 0) back ∙ get_or-take (n - b) (drop (m + b - first * P) tip) (i - b) 0 (omega (arith, high, inside)) ∙ get_or-drop (m + b - first * P) tip (i - b) 0
          ∙ ap (λ (x : ℕ). get_or tip x 0) e ∙ sym (in_all i inside ∙ get_or-append_right (data_from P v 0 (first * P)) tip (first * P) (m + i) 0 begin_is past))
    ]

-- all of them from the tip
pub read_held : (P first m n : ℕ) (v : View) (tip held : List ℕ) → first * P ≤ m → m + n ≤ first * P + length tip → held ≡ take n (drop (m - first * P) tip) → held ≡ take n (drop m (data_from P v 0 (first * P) ++ tip))
read_held P first m n v tip held past fits is = read_whole P first m n 0 v tip [] held (omega (arith, past)) fits refl (λ i lt. absurd (omega (arith, lt)))
    (is ∙ (let e : m - first * P ≡ m + 0 - first * P = omega arith in let f : n ≡ n - 0 = omega arith in λ t. take (f t) (drop (e t) tip)))

-- the end of a list written over
pub put_tail : (b : ℕ) (xs ys : List ℕ) → b ≤ length xs → length ys ≡ length xs - b → put_mid b (length xs - b) xs ys ≡ take b xs ++ ys
put_tail b xs ys fits long =
    let whole : length (put_mid b (length xs - b) xs ys) ≡ b + length ys
    = omega (arith, length-append (take b xs) (ys ++ drop (length xs - b) (drop b xs)), length-append ys (drop (length xs - b) (drop b xs)), length-take b xs, length-drop (length xs - b) (drop b xs), length-drop b xs, fits, long) in
    sym (take_all (b + length ys) (put_mid b (length xs - b) xs ys) (omega (arith, whole))) ∙ take-put_mid b (length xs - b) xs ys (b + length ys) refl fits

pub prefix_of : (n : ℕ) (xs ys : List ℕ) → length xs ≡ n → take n (xs ++ ys) ≡ xs
prefix_of n xs ys long = let le : n ≤ length xs = omega (arith, long) in take-append-le n xs ys le ∙ take_all n xs (omega (arith, long))

-- what stands in a page is no further than the page's place
pub data_fits : (P k : ℕ) → P < 65536 → page_at P k < 2 ^ 64 → k * P + P < 2 ^ 64
unfolding page_at
data_fits P k small place = elim (cases_lt k 65536) [
  | inl few ↦ (let le : k ≤ 65535 = omega (arith, few) in let short : P ≤ 65535 = omega (arith, small) in
      let a : k * P ≤ 65535 * P = mul-le-mul_right P le in
      omega (arith, a, short))
  | inr many ↦ omega (arith, small, many, place)
]

-- the size that the last page with a matching slot gives
pub found_is : (seal : List ℕ → ℕ) (P : ℕ) (c : List ℕ) (r : Option LastPage) (buf : List ℕ) (n : ℕ) → Finds seal P c r buf → IfSome r (λ p. n ≡ p.page * P + max p.first_len p.second_len) → IfNone r (n ≡ 0) → n ≡ adopted_size seal P c
found_is seal P c None buf n finds some none = omega (arith, finds, none)
found_is seal P c (Some p) buf n finds some none = omega (arith, finds.0, some, page_length_is seal P c p.page, finds.2, finds.3)

pub found_room : (P end : ℕ) (r : Option LastPage) (n : ℕ) → IfSome r (λ p. (page_at P p.page ≤ end) × (page_at P p.page + (P + 12) < 2 ^ 64) × (p.have ≤ P + 12) × (p.first_len ≤ P) × (p.second_len ≤ P) × (1 ≤ max p.first_len p.second_len))
    → IfSome r (λ p. n ≡ p.page * P + max p.first_len p.second_len) → IfNone r (n ≡ 0) → (k : ℕ) → k * P < n → page_at P k + (P + 12) < 2 ^ 64
found_room P end None n below some none k lt = absurd (omega (arith, lt, none))
found_room P end (Some p) n below some none k lt =
    let le : k < p.page + 1 = page_before P k (p.page + 1) (omega (arith, lt, some, below.3, below.4, times_next p.page P)) in
    omega (arith, page_order (λ x. 0) P k p.page (omega (arith, le)), below.1)

-- a page with a matching slot is one of the content's pages
pub page_in : (seal : List ℕ → ℕ) (P : ℕ) (c : List ℕ) (k : ℕ) → 1 ≤ page_length seal P c k → k < length c / (P + 12) + 1
unfolding page_at
page_in seal P c k some =
    let begins : k * (P + 12) ≤ length c = go (cases_lt 0 (slot_length seal P c k false)) in
    omega (arith, le-div k (length c) (P + 12) (omega arith) begins)
  where
    go : (0 < slot_length seal P c k false) ⊎ (slot_length seal P c k false ≤ 0) → k * (P + 12) ≤ length c
    go (inl first) = omega (arith, slot_stands seal P c k false first)
    go (inr none) = let second : 1 ≤ slot_length seal P c k true = omega (arith, none, some, page_length_is seal P c k) in omega (arith, slot_stands seal P c k true second)

-- a page of a blob whose extent fits has its place
pub extent_room : (P n k : ℕ) → 1 ≤ P → extent P n < 2 ^ 64 → k * P < n → page_at P k + (P + 12) < 2 ^ 64
extent_room P n k pos fits lt =
    let next : (k + 1) * P ≤ n + (P - 1) = omega (arith, lt, pos, times_next k P) in
    let le : k + 1 ≤ (n + (P - 1)) / P = le-div (k + 1) (n + (P - 1)) P (omega (arith, pos)) next in
    omega (arith, fits, page_next P k, page_order (λ x. 0) P (k + 1) ((n + (P - 1)) / P) le)

-- an error is the same whatever else might have been answered
pub same_error : {T U E : Type 0} {a b : E} → IsErrOf {T = T} {E = E} (Err a) b → IsErrOf {T = U} {E = E} (Err a) b
same_error is = cc

-- no bytes of anything
pub none_taken : (xs ys : List ℕ) → length xs ≡ 0 → xs ≡ take (length xs) ys
none_taken [] ys none = refl
none_taken (x ∷ xs) ys none = absurd (omega (arith, none))

-- a range that is refused ends behind the size, or passes 2^64
pub refused_range : {T : Type 0} (r : Result T RError) (b : Bool) (end size : ℕ) → b ≡ is_err r → b ≡ true → OnErr r ((r ≡ Err OffsetOverflow) ⊎ (r ≡ Err BlobInsufficientLength))
    → (IsErrOf r OffsetOverflow → 2 ^ 64 ≤ end) → (IsErrOf r BlobInsufficientLength → (end < 2 ^ 64) × (size < end)) → end ≤ size → end < 2 ^ 64 → ⊥
refused_range (Ok v) b end size is err cause over short within small = cc (is, err)
refused_range (Err e) b end size is err (inl o) over short within small = omega (arith, over (cc o), small)
refused_range (Err e) b end size is err (inr s) over short within small = omega (arith, (short (cc s)).1, within)

-- bytes of a page, taken out of what was read of it
pub part_bytes : (P k skip n m : ℕ) (c xs out : List ℕ) → xs ≡ page_of P c k → out ≡ take m (drop skip xs) → n ≤ m → skip + n ≤ P → (i : ℕ) → i < n → get_or out i 0 ≡ view c (page_at P k + (skip + i))
part_bytes P k skip n m c xs out whole is most fits i lt = ap (λ (l : List ℕ). get_or l i 0) is ∙ get_or-take m (drop skip xs) i 0 (omega (arith, lt, most)) ∙ get_or-drop skip xs i 0
    ∙ ap (λ (l : List ℕ). get_or l (skip + i) 0) whole ∙ get_or-take (P + 12) (drop (page_at P k) c) (skip + i) 0 (omega (arith, lt, fits)) ∙ get_or-drop (page_at P k) c (skip + i) 0

-- a page that does not cover what the read needs of it
pub step_short : (seal : List ℕ → ℕ) (c : List ℕ) (P m n k skip at part : ℕ) → skip < P → k * P + skip ≡ m + at → at < n → part ≡ min (n - at) (P - skip) → page_length seal P c k < skip + part → IsShort seal P c m n k
step_short seal c P m n k skip at part begun place_is more part_is less = record {
  wanted = step_wanted P m n k skip at part begun place_is more part_is;
  short = omega (arith, step_needed P m n k skip at part begun place_is more part_is, less);
}

-- as many bytes as stand there
pub span_take : (most n : ℕ) (xs : List ℕ) → n ≡ min (length xs) most → take n xs ≡ take most xs
span_take most n xs is = elim (cases_lt most (length xs)) [
  | inl less ↦ (let e : n ≡ most = omega (arith, is, less) in ap (λ (x : ℕ). take x xs) e)
  | inr all ↦ take_all n xs (omega (arith, is, all)) ∙ sym (take_all most xs (omega (arith, all)))
]
