-- The bytes that a slot names, pages without a matching slot, and how many pages have their places.
use Rattle.std.proofs.Common.{◌≡◌, inl, inr, ℕ, zero, suc, ◌+◌, ◌-◌, ◌*◌, ◌^◌, ◌<◌, ◌≤◌, min, ◌/◌, Bool, true, false, List, [], ◌∷◌, length, get_or, take, Option, Some, refl, sym, ◌∙◌, ap, subst, arith, length-take}
use Rattle.std.specs.Prelude.{IfSome}
use Rattle.std.proofs.Math.Nat.{mul-le-mul_right, div-mul-le_self, lt-div-mul-add}
use Rattle.std.proofs.lemmas.Bool.{cases_lt}
use Rattle.std.proofs.lemmas.List.{get_or-take, ext_get_or}
use Rattle.sealed_pages.specs.lemmas.slots.Slot.{get_or-bytes_at, length-bytes_at, slot_stands, zero_named}
use Rattle.sealed_pages.specs.Reading.{page_of}
use Rattle.sealed_pages.specs.SealedPrefix.{size_below}
use Rattle.sealed_pages.specs.Slots.{named_length, slot_length, page_length}
use Rattle.sealed_pages.specs.View.{view, bytes_at, page_at, slot_at}
use Rattle.sealed_pages.specs.lemmas.looking.Looking.{low, offset, page_length_is, page_zero, part_length, part_view, size_none}

-- the bytes that a slot at this place names
pub two_at : (c : List ℕ) (at : ℕ) → bytes_at (view c) at 2 ≡ get_or c at 0 ∷ get_or c (at + 1) 0 ∷ []
unfolding bytes_at
two_at c at = refl

pub four_at : (c : List ℕ) (at : ℕ) → bytes_at (view c) (at + 2) 4 ≡ get_or c (at + 2) 0 ∷ get_or c (at + 3) 0 ∷ get_or c (at + 4) 0 ∷ get_or c (at + 5) 0 ∷ []
unfolding bytes_at
four_at c at =
    let a : at + 2 + 1 ≡ at + 3 = omega arith in
    let b : at + 2 + 1 + 1 ≡ at + 4 = omega arith in
    let d : at + 2 + 1 + 1 + 1 ≡ at + 5 = omega arith in
    λ t. get_or c (at + 2) 0 ∷ get_or c (a t) 0 ∷ get_or c (b t) 0 ∷ get_or c (d t) 0 ∷ []

pub prefix_at : (P n : ℕ) (c : List ℕ) → n ≤ length c → bytes_at (view c) (page_at P 0) n ≡ take n c
prefix_at P n c fits = ext_get_or 0 (bytes_at (view c) (page_at P 0) n) (take n c) (omega (arith, length-bytes_at (view c) n (page_at P 0), length-take n c, fits))
    (λ i lt. let inside : i < n = omega (arith, lt, length-bytes_at (view c) n (page_at P 0)) in
    get_or-bytes_at (view c) n (page_at P 0) i inside ∙ (let e : page_at P 0 + i ≡ i = omega (arith, page_zero P) in ap (view c) e) ∙ sym (get_or-take n c i 0 inside))

pub take_short : (n m : ℕ) (l : List ℕ) → n ≡ min m (length l) → take n l ≡ take m l
take_short n m l is = ext_get_or 0 (take n l) (take m l) (omega (arith, length-take n l, length-take m l, is))
    (λ i lt. get_or-take n l i 0 (omega (arith, lt, length-take n l)) ∙ sym (get_or-take m l i 0 (omega (arith, lt, length-take n l, is))))

pub page_below : (P end k : ℕ) → k < end / (P + 12) + 1 → page_at P k ≤ end
unfolding page_at
page_below P end k lt = let le : k ≤ end / (P + 12) = omega (arith, lt) in omega (arith, mul-le-mul_right (P + 12) le, div-mul-le_self end (P + 12))

-- a slot of zeros names no length
pub blank_named : (seal : List ℕ → ℕ) (P : ℕ) (c : List ℕ) (k : ℕ) (x : Bool) → ((i : ℕ) → i < 6 → get_or (page_of P c k) (slot_at P 0 x + i) 0 ≡ 0) → named_length (view c) (slot_at P k x) ≡ 0
blank_named seal P c k x zeros = zero_named (view c) (slot_at P k x) (λ i lt.
    let e : page_at P k + (slot_at P 0 x + i) ≡ slot_at P k x + i = omega (arith, offset seal P c k x) in
    sym (ap (view c) e) ∙ sym (part_view seal P c k (slot_at P 0 x + i) (omega (arith, lt, low seal P c k x))) ∙ zeros i (omega (arith, lt)))

-- a page with a matching slot has all its data bytes
pub page_reaches : (seal : List ℕ → ℕ) (P : ℕ) (c : List ℕ) (k : ℕ) → 1 ≤ page_length seal P c k → P ≤ length (page_of P c k)
page_reaches seal P c k some = elim (cases_lt 0 (slot_length seal P c k false)) [
  | inl first ↦ omega (arith, slot_stands seal P c k false first, part_length seal P c k)
  | inr none ↦ (let second : 1 ≤ slot_length seal P c k true = omega (arith, none, some, page_length_is seal P c k) in omega (arith, slot_stands seal P c k true second, part_length seal P c k))
]

pub below_some : {A : Type 0} (r : Option A) (p : A) (Q : A → Type 0) → r ≡ Some p → IfSome r Q → Q p
below_some {A = A} r p Q is below = subst (λ (x : Option A). IfSome x Q) is below

-- the size does not change by pages without a matching slot
pub size_upto : (seal : List ℕ → ℕ) (P : ℕ) (c : List ℕ) (n m : ℕ) → ((k : ℕ) → n ≤ k → page_length seal P c k ≡ 0) → size_below seal P c (n + m) ≡ size_below seal P c n
size_upto seal P c n zero none = let e : n + zero ≡ n = omega arith in ap (size_below seal P c) e
size_upto seal P c n (suc m) none = (let e : n + suc m ≡ suc (n + m) = omega arith in ap (size_below seal P c) e) ∙ size_none seal P c (n + m) (none (n + m) (omega arith)) ∙ size_upto seal P c n m none

-- so many pages have their places, and no page behind
pub places_count : (P : ℕ) → (page_at P ((2 ^ 64 - 1) / (P + 12)) < 2 ^ 64) × ((k : ℕ) → (2 ^ 64 - 1) / (P + 12) ≤ k → 2 ^ 64 ≤ page_at P k + (P + 12))
unfolding page_at
places_count P = (
  omega (arith, div-mul-le_self (2 ^ 64 - 1) (P + 12)),
  λ k past. (let pos : 0 < P + 12 = omega arith in
      let few : (2 ^ 64 - 1) / (P + 12) * (P + 12) ≤ k * (P + 12) = mul-le-mul_right (P + 12) past in
      let near : 2 ^ 64 - 1 < (2 ^ 64 - 1) / (P + 12) * (P + 12) + (P + 12) = lt-div-mul-add pos in
      omega (arith, few, near)),
)

-- fewer pages have their places too
pub fewer_places : (P n m : ℕ) → n ≤ m → page_at P m < 2 ^ 64 → page_at P n < 2 ^ 64
unfolding page_at
fewer_places P n m le fits = omega (arith, mul-le-mul_right (P + 12) le, fits)
