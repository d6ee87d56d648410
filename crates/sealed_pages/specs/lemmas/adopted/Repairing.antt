-- The first flush after adopting: what a crash left behind the last page that matches is cut, and a torn slot is cleared.
use Rattle.std.proofs.Common.{◌≡◌, ◌≢◌, ◌⊎◌, inl, inr, ℕ, zero, suc, ◌+◌, ◌-◌, ◌*◌, ◌<◌, ◌≤◌, Bool, true, false, cond, List, length, refl, ◌∙◌, ap, arith}
use Rattle.std.proofs.lemmas.Bool.{cases_lt, cases_eq}
use Rattle.std.proofs.lemmas.Bool.Decides.{eqb_tells}
use Rattle.std.proofs.lemmas.List.{get_or_past}
use Rattle.blob_device.specs.Change.{written, resized}
use Rattle.sealed_pages.specs.Flushing.{no_slot, Quiet, Below}
use Rattle.sealed_pages.specs.SealedPrefix.{pages_in, size_below, adopted_size}
use Rattle.sealed_pages.specs.Slots.{named_length, slot_length, page_length}
use Rattle.sealed_pages.specs.View.{view, page_at, slot_at}
use Rattle.sealed_pages.specs.lemmas.slots.SealedBytes.{page_length-le, page_length-slot, slot_inside}
use Rattle.sealed_pages.specs.lemmas.slots.Slot.{page_apart, page_next, slot_at_most, slot_named, slot_same, slot_stands, zero_named}
use Rattle.sealed_pages.specs.lemmas.slots.SlotSteps.{same_or_apart, slot_is, slot_kept}
use Rattle.sealed_pages.specs.lemmas.slots.Steps.{slot_high, slot_low}
use Rattle.blob_device.specs.Lengths.{length-resized, length-written}
use Rattle.blob_device.specs.Places.{resized_below}
use Rattle.blob_device.proofs.general.Numbers.{times_more}

module _ (seal : List ℕ → ℕ) (P : ℕ) where
  -- the size at which a blob is adopted: no slot covers more
  pub size_bounds : (v : List ℕ) (m k : ℕ) → k < m → 1 ≤ page_length seal P v k → k * P + page_length seal P v k ≤ size_below seal P v m
  unfolding size_below
  size_bounds v zero k lt some = absurd (omega (arith, lt))
  size_bounds v (suc m) k lt some = elim (eqb_tells (page_length seal P v m) 0) [
    | inl none ↦ elim (cases_eq k m) [
      | inl same ↦ absurd (omega (arith, some, none.1, ap (page_length seal P v) same))
      | inr other ↦ (let less : k < m = omega (arith, lt, other) in omega (arith, size_bounds v m k less some, ap (λ (t : Bool). cond t (size_below seal P v m) (m * P + page_length seal P v m)) none.0))
    ]
    | inr has ↦ elim (cases_eq k m) [
      | inl same ↦ omega (arith, ap (page_length seal P v) same, ap (λ (x : ℕ). x * P) same, ap (λ (t : Bool). cond t (size_below seal P v m) (m * P + page_length seal P v m)) has.0)
      | inr other ↦ (let less : k < m = omega (arith, lt, other) in omega (arith, times_more k m P less, page_length-le seal P v k, ap (λ (t : Bool). cond t (size_below seal P v m) (m * P + page_length seal P v m)) has.0))
    ]
  ]

  pub adopted_below : (c : List ℕ) → Below seal P (adopted_size seal P c) c
  adopted_below c k b some = omega (arith, page_length-slot seal P c k b, some, size_bounds c (pages_in P c) k (slot_inside seal P c k b some) (omega (arith, some, page_length-slot seal P c k b)))

  -- pages in order
  pub page_order : (j m : ℕ) → j ≤ m → page_at P j ≤ page_at P m
  page_order j m le = elim (cases_eq j m) [
    | inl same ↦ omega (arith, ap (page_at P) same)
    | inr other ↦ (let more : j < m = omega (arith, le, other) in omega (arith, page_apart P j m more))
  ]

  -- Six zeros over a slot of the last page, whose other slot stands whole.
  pub cleared_below : (F : ℕ) (c : List ℕ) (k : ℕ) (a b : Bool) → a ≢ b → slot_at P k a + 6 ≤ length c → length c ≤ page_at P (k + 1) → Below seal P F c → Below seal P F (written c (slot_at P k b) no_slot)
  cleared_below F c k a b differ whole short below j x some = elim (same_or_apart seal P c k b no_slot refl j x) [
    | inl is ↦ absurd (omega (arith, some, slot_at_most seal P (written c (slot_at P k b) no_slot) j x, named_same_slot is.0 is.1))
    | inr other ↦ elim (cases_lt k j) [
      | inl after ↦ absurd (omega (arith, slot_stands seal P (written c (slot_at P k b) no_slot) j x some, length-written c (slot_at P k b) no_slot, slot_high P k b, page_next P k, slot_low P j x, short, page_order (k + 1) j (omega (arith, after))))
      | inr before ↦ (let stands : slot_at P j x + 6 ≤ length c = whole_before j x other before in omega (arith, kept other stands, below j x (omega (arith, some, kept other stands))))
    ]
  ]
    where
      own_slot : (x y z : Bool) → y ≢ z → x ≢ z → x ≡ y
      own_slot false false z d e = refl
      own_slot true true z d e = refl
      own_slot false true false d e = absurd (e refl)
      own_slot false true true d e = absurd (d refl)
      own_slot true false true d e = absurd (e refl)
      own_slot true false false d e = absurd (d refl)

      whole_before : (j : ℕ) (x : Bool) → (j ≡ k → x ≢ b) → j ≤ k → slot_at P j x + 6 ≤ length c
      whole_before j x other before = elim (cases_eq j k) [
        | inl same ↦ (let e : slot_at P j x ≡ slot_at P k a = (λ t. slot_at P (same t) (own_slot x a b differ (other same) t)) in omega (arith, e, whole))
        | inr not_k ↦ (let less : j < k = omega (arith, before, not_k) in omega (arith, slot_high P j x, page_apart P j k less, slot_low P k a, whole))
      ]

      kept : (j ≡ k → x ≢ b) → slot_at P j x + 6 ≤ length c → slot_length seal P (written c (slot_at P k b) no_slot) j x ≡ slot_length seal P c j x
      kept other stands = slot_kept seal P c k b no_slot refl j x other stands

      zero_is : (i : ℕ) → i < 2 → view (written c (slot_at P k b) no_slot) (slot_at P k b + i) ≡ 0
      zero_is zero lt = slot_is seal P c k b no_slot refl 0 (omega arith)
      zero_is (suc zero) lt = slot_is seal P c k b no_slot refl 1 (omega arith)
      zero_is (suc (suc i)) lt = absurd (omega (arith, lt))

      named_same_slot : j ≡ k → x ≡ b → named_length (view (written c (slot_at P k b) no_slot)) (slot_at P j x) ≡ 0
      named_same_slot e f = (λ t. named_length (view (written c (slot_at P k b) no_slot)) (slot_at P (e t) (f t))) ∙ zero_named (view (written c (slot_at P k b) no_slot)) (slot_at P k b) zero_is

  -- bytes behind page j cut
  pub behind_below : (F : ℕ) (c : List ℕ) (j : ℕ) → page_at P j ≤ length c → Below seal P F c → Below seal P F (resized c (page_at P j))
  behind_below F c j long below k b some = elim (cases_lt k j) [
    | inl less ↦ (let inside : slot_at P k b + 6 ≤ page_at P j = omega (arith, slot_high P k b, page_apart P k j less) in
        let kept : slot_length seal P (resized c (page_at P j)) k b ≡ slot_length seal P c k b = slot_same seal P (resized c (page_at P j)) c k b (omega (arith, inside, length-resized c (page_at P j))) (omega (arith, inside, long))
        (λ i near. resized_below c (page_at P j) (slot_at P k b + i) (omega (arith, near, inside)))
        (λ i near short. resized_below c (page_at P j) (page_at P k + i) (omega (arith, short, page_apart P k j less))) in
        omega (arith, kept, below k b (omega (arith, some, kept))))
    | inr le ↦ absurd (omega (arith, page_order j k le, slot_low P k b, length-resized c (page_at P j), slot_stands seal P (resized c (page_at P j)) k b some))
  ]

  -- Once nothing stands behind the pages below q, and each slot of the page in which F ends matches or is zeros, no slot can come to match.
  pub repaired_quiet : (F : ℕ) (c : List ℕ) (q : ℕ) → Below seal P F c → length c ≤ page_at P q → ((k : ℕ) → F < k * P + P → k < q → k * P ≤ F)
      → ((k : ℕ) (b : Bool) → F < k * P + P → k < q → (1 ≤ slot_length seal P c k b) ⊎ (named_length (view c) (slot_at P k b) ≡ 0)) → Quiet P F (view c)
  repaired_quiet F c q below end start clean j b part = elim (cases_lt j q) [
    | inl less ↦ by_clean less (clean j b part less)
    | inr past ↦ omega (arith, zero_named (view c) (slot_at P j b) (λ i lt. get_or_past c (slot_at P j b + i) 0 (omega (arith, end, slot_low P j b, page_order q j past))))
  ]
    where
      by_clean : j < q → (1 ≤ slot_length seal P c j b) ⊎ (named_length (view c) (slot_at P j b) ≡ 0) → named_length (view c) (slot_at P j b) ≤ F - j * P
      by_clean less (inl some) = omega (arith, slot_named seal P c j b some, below j b some)
      by_clean less (inr none) = omega (arith, none)
