-- The plain reading of pages, page by page.
use Rattle.std.proofs.Common.{◌≡◌, ◌≢◌, inl, inr, ℕ, suc, ◌+◌, ◌-◌, ◌*◌, ◌^◌, ◌<◌, ◌≤◌, eqb, Bool, cond, List, [], ◌∷◌, ◌++◌, get_or, length, take, drop, refl, sym, ◌∙◌, ap, arith, append_assoc, length-take, length-drop}
use Rattle.std.proofs.lemmas.Bool.{cases_lt, eq-eqb, ne_eqb}
use Rattle.std.proofs.lemmas.List.{append-nil, get_or-take, get_or-drop, ext_get_or}
use Rattle.std.specs.Int.{w16, w32, from_be_bytes}
use Rattle.sealed_pages.specs.SealedPrefix.{pages_in, sealed_from, sealed_prefix}
use Rattle.sealed_pages.specs.Slots.{page_length, named_length, named_seal, computed_seal}
use Rattle.sealed_pages.specs.View.{view, bytes_at, page_at, slot_at}
use Rattle.sealed_pages.proofs.looking.Looking.{two_at, four_at, page_below, page_reaches}
use Rattle.sealed_pages.specs.lemmas.looking.Looking.{page_length_is}
use Rattle.sealed_pages.specs.lemmas.slots.Slot.{get_or-bytes_at, length-bytes_at, slot_length-le}

pub page_place : (P k : ℕ) → k * (P + 12) ≡ page_at P k
unfolding page_at
page_place P k = refl

-- so it is as the code counts it
pub page_begins : (P size k : ℕ) → size ≡ P → k * (size + 12) ≡ page_at P k
page_begins P size k is = ap (λ (n : ℕ). k * (n + 12)) is ∙ page_place P k

pub slot_begins : (P size k within : ℕ) (second : Bool) → size ≡ P → within ≡ P + cond second 6 0 → k * (size + 12) + within ≡ slot_at P k second
slot_begins P size k within second is slot = omega (arith, page_begins P size k is, slot)

pub cut_off : (a b : ℕ) → a + b - a ≡ b
cut_off a b = omega arith

pub taken : (c : List ℕ) (start len : ℕ) → take (start + len - start) (drop start c) ≡ take len (drop start c)
taken c start len = ap (λ (n : ℕ). take n (drop start c)) (cut_off start len)

-- bytes that stand in the content
pub bytes_at-take : (c : List ℕ) (at n : ℕ) → at + n ≤ length c → bytes_at (view c) at n ≡ take n (drop at c)
bytes_at-take c at n fits = ext_get_or 0 (bytes_at (view c) at n) (take n (drop at c)) (omega (arith, length-bytes_at (view c) n at, length-take n (drop at c), length-drop at c, fits))
    (λ i lt. let inside : i < n = omega (arith, lt, length-bytes_at (view c) n at) in
    get_or-bytes_at (view c) n at i inside ∙ sym (get_or-take n (drop at c) i 0 inside ∙ get_or-drop at c i 0))

module _ (seal : List ℕ → ℕ) (P : ℕ) (c : List ℕ) (k : ℕ) where
  pub page_length-le : page_length seal P c k ≤ P
  page_length-le = omega (arith, page_length_is seal P c k, slot_length-le seal P c k)

  -- the data that a page's slots cover are there
  pub data_within : k < pages_in P c → page_at P k + page_length seal P c k ≤ length c
  data_within lt = elim (cases_lt 0 (page_length seal P c k)) [
    | inl some ↦ (let reach = page_reaches seal P c k some in omega (arith, reach, some, page_length-le, length-take (P + 12) (drop (page_at P k) c), length-drop (page_at P k) c))
    | inr none ↦ omega (arith, none, page_below P (length c) k lt)
  ]

  pub size_within : k < pages_in P c → k * P + page_length seal P c k ≤ length c
  size_within lt = omega (arith, data_within lt, page_place P k)

  step : (m : ℕ) → sealed_from seal P c k (suc m) ≡ bytes_at (view c) (page_at P k) (page_length seal P c k) ++ cond (eqb (page_length seal P c k) P) (sealed_from seal P c (k + 1) m) []
  unfolding sealed_from
  step m = refl

  -- one page more of the sealed prefix: `part` is its data
  module _ (prefix part all : List ℕ) (len at m : ℕ) (below : k < pages_in P c) (len_is : len ≡ page_length seal P c k) (at_is : at ≡ page_at P k) (part_is : part ≡ take len (drop at c))
      (left : m ≡ pages_in P c - k) (so_far : prefix ++ sealed_from seal P c k m ≡ all) where
    part_data : bytes_at (view c) (page_at P k) (page_length seal P c k) ≡ part
    part_data = bytes_at-take c (page_at P k) (page_length seal P c k) (data_within below) ∙ sym (part_is ∙ (λ i. take (len_is i) (drop (at_is i) c)))

    more : m ≡ suc (pages_in P c - (k + 1))
    more = omega (arith, left, below)

    pub prefix_ends : len < P → prefix ++ part ≡ all
    prefix_ends short =
        let differ : page_length seal P c k ≢ P = λ e. omega (arith, e, short, len_is) in
        sym (ap (λ (l : List ℕ). prefix ++ l) (ap (sealed_from seal P c k) more ∙ step (pages_in P c - (k + 1))
        ∙ ap (λ (b : Bool). bytes_at (view c) (page_at P k) (page_length seal P c k) ++ cond b (sealed_from seal P c (k + 1) (pages_in P c - (k + 1))) []) (ne_eqb (page_length seal P c k) P differ)
        ∙ append-nil (bytes_at (view c) (page_at P k) (page_length seal P c k)) ∙ part_data)) ∙ so_far

    pub prefix_goes_on : P ≤ len → (prefix ++ part) ++ sealed_from seal P c (k + 1) (pages_in P c - (k + 1)) ≡ all
    prefix_goes_on full =
        let same : page_length seal P c k ≡ P = omega (arith, full, len_is, page_length-le) in
        append_assoc prefix part (sealed_from seal P c (k + 1) (pages_in P c - (k + 1)))
        ∙ sym (ap (λ (l : List ℕ). prefix ++ l) (ap (sealed_from seal P c k) more ∙ step (pages_in P c - (k + 1))
        ∙ ap (λ (b : Bool). bytes_at (view c) (page_at P k) (page_length seal P c k) ++ cond b (sealed_from seal P c (k + 1) (pages_in P c - (k + 1))) []) (eq-eqb (page_length seal P c k) P same)
        ∙ ap (λ (l : List ℕ). l ++ sealed_from seal P c (k + 1) (pages_in P c - (k + 1))) part_data)) ∙ so_far

-- before the first page, and behind the last
pub prefix_whole : (seal : List ℕ → ℕ) (P : ℕ) (c : List ℕ) → sealed_from seal P c 0 (pages_in P c) ≡ sealed_prefix seal P c
unfolding sealed_prefix
prefix_whole seal P c = refl

nothing_left : (seal : List ℕ → ℕ) (P : ℕ) (c : List ℕ) (k : ℕ) → sealed_from seal P c k 0 ≡ []
unfolding sealed_from
nothing_left seal P c k = refl

pub prefix_done : (seal : List ℕ → ℕ) (P : ℕ) (c prefix all : List ℕ) (k : ℕ) → pages_in P c ≤ k → prefix ++ sealed_from seal P c k (pages_in P c - k) ≡ all → prefix ≡ all
prefix_done seal P c prefix all k past is =
    let none : pages_in P c - k ≡ 0 = omega (arith, past) in
    sym (append-nil prefix) ∙ sym (ap (λ (l : List ℕ). prefix ++ l) (ap (sealed_from seal P c k) none ∙ nothing_left seal P c k)) ∙ is

-- numbers spelled out, the greatest byte first
spelled_two : (a b : ℕ) → from_be_bytes w16 (a ∷ b ∷ []) ≡ a * 256 + b
spelled_two a b = omega arith

spelled_four : (a b d e : ℕ) → from_be_bytes w32 (a ∷ b ∷ d ∷ e ∷ []) ≡ (a * 256 + b) * 65536 + (d * 256 + e)
spelled_four a b d e = omega arith

pub length_spelled : (c : List ℕ) (at : ℕ) → named_length (view c) at ≡ get_or c at 0 * 256 + get_or c (at + 1) 0
length_spelled c at = ap (from_be_bytes w16) (two_at c at) ∙ spelled_two (get_or c at 0) (get_or c (at + 1) 0)

pub seal_spelled : (c : List ℕ) (at : ℕ) → named_seal (view c) at ≡ (get_or c (at + 2) 0 * 256 + get_or c (at + 3) 0) * 65536 + (get_or c (at + 4) 0 * 256 + get_or c (at + 5) 0)
seal_spelled c at = ap (from_be_bytes w32) (four_at c at) ∙ spelled_four (get_or c (at + 2) 0) (get_or c (at + 3) 0) (get_or c (at + 4) 0) (get_or c (at + 5) 0)

-- A slot whose numbers are spelled out: it stands whole in its page, names the length n and the seal y, and its bytes make the seal x.
pub record Spelled (seal : List ℕ → ℕ) (P : ℕ) (c : List ℕ) (k : ℕ) (second : Bool) (n x y : ℕ) : Type 0 where
  pub stands : slot_at P k second + 6 ≤ length c
  pub places : page_at P k + (P + 12) < 2 ^ 64
  pub short : named_length (view c) (slot_at P k second) ≤ P
  pub named : named_length (view c) (slot_at P k second) ≡ n
  pub made : computed_seal seal P (view c) (page_at P k) (slot_at P k second) (named_length (view c) (slot_at P k second)) ≡ x
  pub told : named_seal (view c) (slot_at P k second) ≡ y

-- what the bytes at a slot's place name, and make: its page begins at `start`
module _ (P : ℕ) (c : List ℕ) (k : ℕ) (second : Bool) (at : ℕ) (at_is : at ≡ slot_at P k second) where
  pub length_named : (a b : ℕ) → a ≡ get_or c at 0 → b ≡ get_or c (at + 1) 0 → named_length (view c) (slot_at P k second) ≡ a * 256 + b
  length_named a b first next = ap (named_length (view c)) (sym at_is) ∙ length_spelled c at ∙ sym (λ j. first j * 256 + next j)

  pub seal_named : (a b d e : ℕ) → a ≡ get_or c (at + 2) 0 → b ≡ get_or c (at + 3) 0 → d ≡ get_or c (at + 4) 0 → e ≡ get_or c (at + 5) 0
      → named_seal (view c) (slot_at P k second) ≡ (a * 256 + b) * 65536 + (d * 256 + e)
  seal_named a b d e one two three four = ap (named_seal (view c)) (sym at_is) ∙ seal_spelled c at ∙ sym (λ j. (one j * 256 + two j) * 65536 + (three j * 256 + four j))

  pub seal_made : (seal : List ℕ → ℕ) (start len made : ℕ) → start ≡ page_at P k → named_length (view c) (slot_at P k second) ≡ len → slot_at P k second + 6 ≤ length c → page_at P k + len ≤ length c
      → made ≡ seal (take (at + 2 - at) (drop at c) ++ take (start + len - start) (drop start c))
      → computed_seal seal P (view c) (page_at P k) (slot_at P k second) (named_length (view c) (slot_at P k second)) ≡ made
  seal_made seal start len made start_is named stands fits is =
      let first : bytes_at (view c) (slot_at P k second) 2 ≡ take (at + 2 - at) (drop at c) = bytes_at-take c (slot_at P k second) 2 (omega (arith, stands)) ∙ (λ j. take (sym (cut_off at 2) j) (drop (sym at_is j) c)) in
      let covered : bytes_at (view c) (page_at P k) (named_length (view c) (slot_at P k second)) ≡ take (start + len - start) (drop start c)
      = ap (bytes_at (view c) (page_at P k)) named ∙ bytes_at-take c (page_at P k) len fits ∙ (λ j. take (sym (cut_off start len) j) (drop (sym start_is j) c)) in
      (λ j. seal (first j ++ covered j)) ∙ sym is
