-- The slots that cover the sealed prefix of a content that is adopted, and the data of its pages.
use Rattle.std.proofs.Common.{◌≡◌, inl, inr, ℕ, zero, suc, ◌+◌, ◌-◌, ◌*◌, ◌/◌, ◌%◌, ◌<◌, ◌≤◌, min, true, false, List, length, get_or, refl, sym, ◌∙◌, ap, arith}
use Rattle.std.proofs.lemmas.Bool.{cases_lt, cases_order, cases_Bool}
use Rattle.std.proofs.lemmas.Bool.Decides.{Decides-ltb}
use Rattle.std.proofs.Math.Nat.{mod-eq-sub-div-mul, div-lt_iff_lt-mul}
use Rattle.std.proofs.lemmas.Nat.{le-div}
use Rattle.sealed_pages.specs.Flushing.{Data, Covers}
use Rattle.sealed_pages.specs.SealedPrefix.{pages_in, sealed_from, sealed_prefix, place, data_from}
use Rattle.sealed_pages.specs.Slots.{slot_length, page_length, best_slot}
use Rattle.sealed_pages.specs.View.{View, page_at}
use Rattle.sealed_pages.specs.lemmas.slots.SealedBytes.{length-step, page_length-le, rest_is}
use Rattle.blob_device.proofs.general.Numbers.{times_more, times_next}

module _ (seal : List ℕ → ℕ) (P : ℕ) where
  -- each page below the end of what is sealed is covered that far
  pub sealed_covers : (v : List ℕ) (m k j : ℕ) → k ≤ j → j * P < k * P + length (sealed_from seal P v k m) → min P (k * P + length (sealed_from seal P v k m) - j * P) ≤ page_length seal P v j
  unfolding sealed_from
  sealed_covers v zero k j le lt = elim (cases_order k j) [
    | inl same ↦ absurd (omega (arith, lt, ap (λ (x : ℕ). x * P) same))
    | inr (inl less) ↦ absurd (omega (arith, lt, times_more k j P less))
    | inr (inr more) ↦ absurd (omega (arith, le, more))
  ]
  sealed_covers v (suc m) k j le lt = elim (rest_is seal P v k m) [
    | inl full ↦ elim (cases_order k j) [
      | inl same ↦ omega (arith, full.0, ap (page_length seal P v) same)
      | inr (inl less) ↦ (let step : k * P + length (sealed_from seal P v k (suc m)) ≡ (k + 1) * P + length (sealed_from seal P v (k + 1) m) = omega (arith, length-step seal P v k m, full.0, ap length full.1, times_next k P) in
          omega (arith, step, sealed_covers v m (k + 1) j (omega (arith, less)) (omega (arith, lt, step))))
      | inr (inr more) ↦ absurd (omega (arith, le, more))
    ]
    | inr part ↦ elim (cases_order k j) [
      | inl same ↦ omega (arith, length-step seal P v k m, ap length part.1, ap (page_length seal P v) same, ap (λ (x : ℕ). x * P) same)
      | inr (inl less) ↦ absurd (omega (arith, lt, length-step seal P v k m, ap length part.1, page_length-le seal P v k, times_more k j P less))
      | inr (inr more) ↦ absurd (omega (arith, le, more))
    ]
  ]

  -- the slot that has the page's length
  pub best_length : (v : List ℕ) (k : ℕ) → slot_length seal P v k (best_slot seal P v k) ≡ page_length seal P v k
  unfolding page_length
  best_length v k = elim (cases_lt (slot_length seal P v k false) (slot_length seal P v k true)) [
    | inl lt ↦ (let e : best_slot seal P v k ≡ true = (Decides-ltb (slot_length seal P v k false) (slot_length seal P v k true)).1 lt in omega (arith, lt, ap (slot_length seal P v k) e))
    | inr le ↦ elim (cases_Bool (best_slot seal P v k)) [
      | inl is ↦ absurd (omega (arith, le, (Decides-ltb (slot_length seal P v k false) (slot_length seal P v k true)).0 is))
      | inr not ↦ omega (arith, le, ap (slot_length seal P v k) not)
    ]
  ]

  pub best_covers : (c : List ℕ) → Covers seal P c (length (sealed_prefix seal P c)) (best_slot seal P c)
  unfolding sealed_prefix
  best_covers c k lt = omega (arith, best_length c k, sealed_covers c (pages_in P c) 0 k (omega arith) (omega (arith, lt)))

pub length-data_from : (P : ℕ) (v : View) (n m : ℕ) → length (data_from P v m n) ≡ n
unfolding data_from
length-data_from P v zero m = refl
length-data_from P v (suc n) m = omega (arith, length-data_from P v n (m + 1))

pub get_or-data_from : (P : ℕ) (v : View) (n m i : ℕ) → i < n → get_or (data_from P v m n) i 0 ≡ v (place P (m + i))
unfolding data_from
get_or-data_from P v zero m i lt = absurd (omega (arith, lt))
get_or-data_from P v (suc n) m zero lt = let e : m ≡ m + zero = omega arith in ap (λ (x : ℕ). v (place P x)) e
get_or-data_from P v (suc n) m (suc i) lt = get_or-data_from P v n (m + 1) i (omega (arith, lt)) ∙ (let e : m + 1 + i ≡ m + suc i = omega arith in ap (λ (x : ℕ). v (place P x)) e)

pub place_in : (P k i : ℕ) → i < P → place P (k * P + i) ≡ page_at P k + i
place_in P k i lt =
    let low : k ≤ (k * P + i) / P = le-div k (k * P + i) P (omega (arith, lt)) (omega arith) in
    let high : (k * P + i) / P < k + 1 = (div-lt_iff_lt-mul {k = P} {x = k * P + i} {y = k + 1} (omega (arith, lt))).1 (omega (arith, lt, times_next k P)) in
    let is : (k * P + i) / P ≡ k = omega (arith, low, high) in
    let left : (k * P + i) % P ≡ i = omega (arith, mod-eq-sub-div-mul (k * P + i) P, ap (λ (x : ℕ). x * P) is) in
    λ t. page_at P (is t) + left t

-- what a content's own bytes are: the data of its pages
pub own_data : (P n : ℕ) (v : View) → Data P (data_from P v 0 n) n v
own_data P n v k i lt below = sym (get_or-data_from P v n 0 (k * P + i) below ∙ (let e : 0 + (k * P + i) ≡ k * P + i = omega arith in ap (λ (x : ℕ). v (place P x)) e) ∙ ap v (place_in P k i lt))
