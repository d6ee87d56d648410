-- Where pages and slots stand, and what decides whether a slot matches.
use Rattle.std.proofs.Common.{◌≡◌, ◌⊎◌, inl, inr, ℕ, zero, suc, ◌+◌, ◌*◌, ◌^◌, ◌<◌, ◌≤◌, ◌&&◌, leb, eqb, Bool, true, false, cond, List, ◌∷◌, ◌++◌, length, get_or, refl, sym, ◌∙◌, ap, subst, arith}
use Rattle.std.specs.Int.{w16, w32, from_be_bytes}
use Rattle.std.proofs.Math.Nat.{mul-le-mul_left}
use Rattle.std.proofs.lemmas.Bool.{cases_lt, le-leb, leb-true, lt-ltb, ltb-true}
use Rattle.std.proofs.lemmas.Bool.Decides.{leb_tells}
use Rattle.sealed_pages.specs.Slots.{named_length, named_seal, has_places, is_whole, slot_length}
use Rattle.sealed_pages.specs.View.{View, view, bytes_at, page_at, slot_at}
use Rattle.blob_device.proofs.general.Numbers.{times_more, times_next}

pub page_next : (P k : ℕ) → page_at P (k + 1) ≡ page_at P k + (P + 12)
unfolding page_at
page_next P k = times_next k (P + 12)

pub page_apart : (P j k : ℕ) → j < k → page_at P j + (P + 12) ≤ page_at P k
unfolding page_at
page_apart P j k lt = times_more j k (P + 12) lt

pub length-bytes_at : (v : View) (n at : ℕ) → length (bytes_at v at n) ≡ n
unfolding bytes_at
length-bytes_at v zero at = refl
length-bytes_at v (suc n) at = omega (arith, length-bytes_at v n (at + 1))

pub get_or-bytes_at : (v : View) (n at i : ℕ) → i < n → get_or (bytes_at v at n) i 0 ≡ v (at + i)
unfolding bytes_at
get_or-bytes_at v zero at i lt = absurd (omega (arith, lt))
get_or-bytes_at v (suc n) at zero lt = let e : at ≡ at + zero = omega arith in ap v e
get_or-bytes_at v (suc n) at (suc i) lt = get_or-bytes_at v n (at + 1) i (omega (arith, lt)) ∙ (let e : at + 1 + i ≡ at + suc i = omega arith in ap v e)

pub bytes_at-same : (v w : View) (n at : ℕ) → ((i : ℕ) → i < n → v (at + i) ≡ w (at + i)) → bytes_at v at n ≡ bytes_at w at n
unfolding bytes_at
bytes_at-same v w zero at same = refl
bytes_at-same v w (suc n) at same =
    let e : at ≡ at + 0 = omega arith in
    let here : v at ≡ w at = ap v e ∙ same 0 (omega arith) ∙ sym (ap w e) in
    let rest = bytes_at-same v w n (at + 1) (λ i lt. let f : at + 1 + i ≡ at + (i + 1) = omega arith in ap v f ∙ same (i + 1) (omega (arith, lt)) ∙ sym (ap w f)) in
    λ t. here t ∷ rest t

pub named_bytes : (v w : View) (at : ℕ) → ((i : ℕ) → i < 6 → v (at + i) ≡ w (at + i)) → bytes_at v at 2 ≡ bytes_at w at 2
named_bytes v w at same = bytes_at-same v w 2 at (λ i lt. same i (omega (arith, lt)))

pub seal_bytes : (v w : View) (at : ℕ) → ((i : ℕ) → i < 6 → v (at + i) ≡ w (at + i)) → bytes_at v (at + 2) 4 ≡ bytes_at w (at + 2) 4
seal_bytes v w at same = bytes_at-same v w 4 (at + 2) (λ i lt. let e : at + 2 + i ≡ at + (2 + i) = omega arith in ap v e ∙ same (2 + i) (omega (arith, lt)) ∙ sym (ap w e))

both_true : (x y : Bool) → (x && y) ≡ true → (x ≡ true) × (y ≡ true)
both_true true true e = (refl, refl)
both_true true false e = absurd (cc e)
both_true false y e = absurd (cc e)

true_both : (x y : Bool) → x ≡ true → y ≡ true → (x && y) ≡ true
true_both x y e f = λ t. e t && f t

-- a slot stands whole where its bytes are below the end, in a page that has its places
pub whole_true : (P : ℕ) (c : List ℕ) (k : ℕ) (b : Bool) → slot_at P k b + 6 ≤ length c → page_at P k + (P + 12) < 2 ^ 64 → is_whole P c k b ≡ true
unfolding is_whole
whole_true P c k b stands room = true_both (leb (slot_at P k b + 6) (length c)) (has_places P k) (le-leb (slot_at P k b + 6) (length c) stands) (lt-ltb (page_at P k + (P + 12)) (2 ^ 64) room)

pub whole_stands : (P : ℕ) (c : List ℕ) (k : ℕ) (b : Bool) → is_whole P c k b ≡ true → (slot_at P k b + 6 ≤ length c) × (page_at P k + (P + 12) < 2 ^ 64)
unfolding is_whole
whole_stands P c k b whole = let both = both_true (leb (slot_at P k b + 6) (length c)) (has_places P k) whole in (leb-true (slot_at P k b + 6) (length c) both.0, ltb-true (page_at P k + (P + 12)) (2 ^ 64) both.1)

-- where both stand, one is whole as the other is
pub whole_same : (P : ℕ) (c d : List ℕ) (k : ℕ) (b : Bool) → slot_at P k b + 6 ≤ length c → slot_at P k b + 6 ≤ length d → is_whole P c k b ≡ is_whole P d k b
unfolding is_whole
whole_same P c d k b in_c in_d = ap (λ (t : Bool). t && has_places P k) (le-leb (slot_at P k b + 6) (length c) in_c ∙ sym (le-leb (slot_at P k b + 6) (length d) in_d))

module _ (seal : List ℕ → ℕ) (P : ℕ) where
  pick : ℕ → ℕ → ℕ → Bool → Bool → ℕ
  pick n made named short stands = cond stands (cond short (cond (eqb made named) n 0) 0) 0

  pick_le : (n made named : ℕ) (short stands : Bool) → (short ≡ true → n ≤ P) → (pick n made named short stands ≤ P) × ((pick n made named short stands ≡ 0) ⊎ ((pick n made named short stands ≡ n) × (stands ≡ true)))
  unfolding pick
  pick_le n made named short false le = (omega arith, inl refl)
  pick_le n made named false true le = (omega arith, inl refl)
  pick_le n made named true true le = by_test (eqb made named)
    where
      by_test : (t : Bool) → (cond t n 0 ≤ P) × ((cond t n 0 ≡ 0) ⊎ ((cond t n 0 ≡ n) × (true ≡ true)))
      by_test true = (le refl, inr (refl, refl))
      by_test false = (omega arith, inl refl)

  module _ (c : List ℕ) (k : ℕ) (b : Bool) where
    parts : (slot_length seal P c k b ≤ P) × ((slot_length seal P c k b ≡ 0) ⊎ ((slot_length seal P c k b ≡ named_length (view c) (slot_at P k b)) × (is_whole P c k b ≡ true)))
    unfolding slot_length pick
    parts = pick_le (named_length (view c) (slot_at P k b)) (seal (bytes_at (view c) (slot_at P k b) 2 ++ bytes_at (view c) (page_at P k) (named_length (view c) (slot_at P k b)))) (named_seal (view c) (slot_at P k b)) (leb (named_length (view c) (slot_at P k b)) P) (is_whole P c k b)
        (λ e. elim (leb_tells (named_length (view c) (slot_at P k b)) P) [
          | inl it ↦ it.1
          | inr it ↦ absurd (cc (e, it.0))
        ])

    pub slot_length-le : slot_length seal P c k b ≤ P
    slot_length-le = parts.0

    -- a slot that matches stands whole
    pub slot_stands : 1 ≤ slot_length seal P c k b → slot_at P k b + 6 ≤ length c
    slot_stands some = elim parts.1 [
      | inl none ↦ absurd (omega (arith, some, none))
      | inr is ↦ (whole_stands P c k b is.1).0
    ]

    -- its page has its places
    pub slot_room : 1 ≤ slot_length seal P c k b → page_at P k + (P + 12) < 2 ^ 64
    slot_room some = elim parts.1 [
      | inl none ↦ absurd (omega (arith, some, none))
      | inr is ↦ (whole_stands P c k b is.1).1
    ]

    -- a slot that matches names its length
    pub slot_named : 1 ≤ slot_length seal P c k b → named_length (view c) (slot_at P k b) ≡ slot_length seal P c k b
    slot_named some = elim parts.1 [
      | inl none ↦ absurd (omega (arith, some, none))
      | inr is ↦ sym is.0
    ]

    pub slot_at_most : slot_length seal P c k b ≤ named_length (view c) (slot_at P k b)
    slot_at_most = elim parts.1 [
      | inl none ↦ omega (arith, none)
      | inr is ↦ omega (arith, is.0)
    ]

    -- a slot that names too much does not match
    slot_past : P < named_length (view c) (slot_at P k b) → slot_length seal P c k b ≡ 0
    slot_past past = elim parts.1 [
      | inl none ↦ none
      | inr is ↦ absurd (omega (arith, past, is.0, parts.0))
    ]

  -- Two contents with the same slot, whole in both, and with the same data bytes as far as it names them.
  pub slot_same : (c d : List ℕ) (k : ℕ) (b : Bool) → slot_at P k b + 6 ≤ length c → slot_at P k b + 6 ≤ length d → ((i : ℕ) → i < 6 → view c (slot_at P k b + i) ≡ view d (slot_at P k b + i))
      → ((i : ℕ) → i < named_length (view c) (slot_at P k b) → i < P → view c (page_at P k + i) ≡ view d (page_at P k + i)) → slot_length seal P c k b ≡ slot_length seal P d k b
  unfolding slot_length pick
  slot_same c d k b in_c in_d slots bytes = elim (cases_lt P (named_length (view c) (slot_at P k b))) [
    | inl past ↦ slot_past c k b past ∙ sym (slot_past d k b (subst (λ (n : ℕ). P < n) (ap (from_be_bytes w16) (named_bytes v w (slot_at P k b) slots)) past))
    | inr fits ↦ step1 (bytes_at-same v w (named_length v (slot_at P k b)) (page_at P k) (λ i lt. bytes i lt (omega (arith, lt, fits)))) (whole_same P c d k b in_c in_d)
        ∙ step2 (named_bytes v w (slot_at P k b) slots) (seal_bytes v w (slot_at P k b) slots)
  ]
    where
      v : View
      v = view c

      w : View
      w = view d

      with_bytes : Bool → List ℕ → ℕ
      with_bytes stands l = pick (named_length v (slot_at P k b)) (seal (bytes_at v (slot_at P k b) 2 ++ l)) (named_seal v (slot_at P k b)) (leb (named_length v (slot_at P k b)) P) stands

      step1 : bytes_at v (page_at P k) (named_length v (slot_at P k b)) ≡ bytes_at w (page_at P k) (named_length v (slot_at P k b))
          → is_whole P c k b ≡ is_whole P d k b
          → slot_length seal P c k b ≡ with_bytes (is_whole P d k b) (bytes_at w (page_at P k) (named_length v (slot_at P k b)))
      step1 e f = λ t. with_bytes (f t) (e t)

      step2 : bytes_at v (slot_at P k b) 2 ≡ bytes_at w (slot_at P k b) 2 → bytes_at v (slot_at P k b + 2) 4 ≡ bytes_at w (slot_at P k b + 2) 4
          → with_bytes (is_whole P d k b) (bytes_at w (page_at P k) (named_length v (slot_at P k b))) ≡ slot_length seal P d k b
      step2 e f = λ t. pick (from_be_bytes w16 (e t)) (seal (e t ++ bytes_at w (page_at P k) (from_be_bytes w16 (e t)))) (from_be_bytes w32 (f t)) (leb (from_be_bytes w16 (e t)) P) (is_whole P d k b)

pub times_page : (P k : ℕ) → k * P ≤ page_at P k
unfolding page_at
times_page P k = let le : P ≤ P + 12 = omega arith in mul-le-mul_left k le

-- named by zeros, a slot has no length
pub zero_named : (v : View) (at : ℕ) → ((i : ℕ) → i < 2 → v (at + i) ≡ 0) → named_length v at ≡ 0
unfolding bytes_at
zero_named v at zeros = ap (from_be_bytes w16) (bytes_at-same v (λ i. 0) 2 at zeros)
