-- What a write in one page leaves of the others, and of what is sealed.
use Rattle.std.proofs.Common.{◌≡◌, ◌≢◌, ◌⊎◌, inl, inr, ℕ, ◌+◌, ◌-◌, ◌*◌, ◌<◌, ◌≤◌, Bool, true, false, List, length, get_or, refl, ◌∙◌, ap, arith}
use Rattle.std.specs.Int.{w16, from_be_bytes}
use Rattle.std.proofs.lemmas.Bool.{cases_lt, cases_eq, cases_order}
use Rattle.blob_device.specs.Change.{written}
use Rattle.sealed_pages.specs.Flushing.{Quiet, Data, Sound, Below}
use Rattle.sealed_pages.specs.Slots.{named_length}
use Rattle.sealed_pages.specs.View.{View, view, page_at, slot_at}
use Rattle.sealed_pages.specs.lemmas.slots.Slot.{named_bytes, page_apart, slot_at_most, slot_length-le}
use Rattle.blob_device.specs.Places.{written_in, written_out}
use Rattle.blob_device.proofs.general.Numbers.{times_more}

module _ (P : ℕ) where
  pub slot_low : (k : ℕ) (b : Bool) → page_at P k + P ≤ slot_at P k b
  slot_low k false = omega arith
  slot_low k true = omega arith

  pub slot_high : (k : ℕ) (b : Bool) → slot_at P k b + 6 ≤ page_at P k + (P + 12)
  slot_high k false = omega arith
  slot_high k true = omega arith

  slots_apart : (k : ℕ) (a b : Bool) → a ≢ b → (slot_at P k a + 6 ≤ slot_at P k b) ⊎ (slot_at P k b + 6 ≤ slot_at P k a)
  slots_apart k false false other = absurd (other refl)
  slots_apart k false true other = inl (omega arith)
  slots_apart k true false other = inr (omega arith)
  slots_apart k true true other = absurd (other refl)

  same_slot_or : (a b : Bool) → (a ≡ b) ⊎ (a ≢ b)
  same_slot_or false false = inl refl
  same_slot_or true true = inl refl
  same_slot_or false true = inr (λ e. cc e)
  same_slot_or true false = inr (λ e. cc e)

  -- places of two different pages
  pages_apart : (j k x at n : ℕ) → j ≢ k → page_at P j ≤ x → x < page_at P j + (P + 12) → page_at P k ≤ at → at + n ≤ page_at P k + (P + 12) → (x < at) ⊎ (at + n ≤ x)
  pages_apart j k x at n other low high start end = elim (cases_lt j k) [
    | inl lt ↦ inl (omega (arith, high, start, page_apart P j k lt))
    | inr le ↦ (let gt : k < j = omega (arith, le, other) in inr (omega (arith, low, end, page_apart P k j gt)))
  ]

  -- a slot, against a range of data bytes of a page
  pub slot_data : (j : ℕ) (a : Bool) (i k at n : ℕ) → i < 6 → page_at P k ≤ at → at + n ≤ page_at P k + P → (slot_at P j a + i < at) ⊎ (at + n ≤ slot_at P j a + i)
  slot_data j a i k at n lt start end = elim (cases_eq j k) [
    | inl is ↦ inr (omega (arith, end, slot_low j a, ap (page_at P) is))
    | inr other ↦ pages_apart j k (slot_at P j a + i) at n other (omega (arith, slot_low j a)) (omega (arith, lt, slot_high j a)) start (omega (arith, end))
  ]

  -- a data byte, against a slot
  pub data_slot : (j i k : ℕ) (b : Bool) → i < P → (page_at P j + i < slot_at P k b) ⊎ (slot_at P k b + 6 ≤ page_at P j + i)
  data_slot j i k b lt = elim (cases_eq j k) [
    | inl is ↦ inl (omega (arith, lt, slot_low k b, ap (page_at P) is))
    | inr other ↦ pages_apart j k (page_at P j + i) (slot_at P k b) 6 other (omega arith) (omega (arith, lt)) (omega (arith, slot_low k b)) (slot_high k b)
  ]

  -- a slot, against another
  pub slot_slot : (j : ℕ) (a : Bool) (i k : ℕ) (b : Bool) → i < 6 → (j ≡ k → a ≢ b) → (slot_at P j a + i < slot_at P k b) ⊎ (slot_at P k b + 6 ≤ slot_at P j a + i)
  slot_slot j a i k b lt other = elim (cases_eq j k) [
    | inl is ↦ elim (slots_apart k a b (other is)) [
      | inl below ↦ inl (omega (arith, lt, below, ap (page_at P) is))
      | inr past ↦ inr (omega (arith, past, ap (page_at P) is))
    ]
    | inr differ ↦ pages_apart j k (slot_at P j a + i) (slot_at P k b) 6 differ (omega (arith, slot_low j a)) (omega (arith, lt, slot_high j a)) (omega (arith, slot_low k b)) (slot_high k b)
  ]

  -- a data byte below F, against data bytes of page k from F on
  pub data_data : (j i k f at n F : ℕ) → i < P → F ≡ k * P + f → f < P → j * P + i < F → at ≡ page_at P k + f → at + n ≤ page_at P k + P → (page_at P j + i < at) ⊎ (at + n ≤ page_at P j + i)
  data_data j i k f at n F lt is short below start end = elim (cases_eq j k) [
    | inl same ↦ inl (omega (arith, below, is, start, ap (page_at P) same, ap (λ (m : ℕ). m * P) same))
    | inr differ ↦ pages_apart j k (page_at P j + i) at n differ (omega arith) (omega (arith, lt)) (omega (arith, start)) (omega (arith, end))
  ]

module _ (seal : List ℕ → ℕ) (P : ℕ) where
  -- quiet slots over the right data cover no more than F
  pub quiet_below : (F : ℕ) (c : List ℕ) → Quiet P F (view c) → Below seal P F c
  quiet_below F c quiet k b some = elim (cases_lt F (k * P + P)) [
    | inl part ↦ omega (arith, some, quiet k b part, slot_at_most seal P c k b)
    | inr full ↦ omega (arith, full, slot_length-le seal P c k b)
  ]

  -- slots that cover no more than the right data are sound
  pub below_sound : (bytes : List ℕ) (F : ℕ) (c : List ℕ) → F ≤ length bytes → Below seal P F c → Data P bytes F (view c) → Sound seal P bytes c
  below_sound bytes F c fits below same = record {
    within = λ k b some. omega (arith, fits, below k b some);
    same = λ k b i lt. same k i (omega (arith, lt, slot_length-le seal P c k b)) (omega (arith, lt, below k b (omega (arith, lt))));
  }

  pub tidy_sound : (bytes : List ℕ) (F : ℕ) (c : List ℕ) → F ≤ length bytes → Quiet P F (view c) → Data P bytes F (view c) → Sound seal P bytes c
  tidy_sound bytes F c fits quiet same = below_sound bytes F c fits (quiet_below F c quiet) same

  pub named_same : (v w : View) (k : ℕ) (b : Bool) → ((i : ℕ) → i < 6 → v (slot_at P k b + i) ≡ w (slot_at P k b + i)) → named_length v (slot_at P k b) ≡ named_length w (slot_at P k b)
  named_same v w k b same = ap (from_be_bytes w16) (named_bytes v w (slot_at P k b) same)

  -- the first step of a flush: data bytes of page k, from F on
  module _ (bytes : List ℕ) (F : ℕ) (c : List ℕ) (k f at : ℕ) (chunk : List ℕ) (is : F ≡ k * P + f) (short : f < P) (start : at ≡ page_at P k + f) (end : f + length chunk ≤ P) where
    data_end : at + length chunk ≤ page_at P k + P
    data_end = omega (arith, start, end)

    pub data_slots : (j : ℕ) (a : Bool) (i : ℕ) → i < 6 → view (written c at chunk) (slot_at P j a + i) ≡ view c (slot_at P j a + i)
    data_slots j a i lt = written_out c at chunk (slot_at P j a + i) (slot_data P j a i k at (length chunk) lt (omega (arith, start)) data_end)

    pub data_quiet : Quiet P F (view c) → Quiet P F (view (written c at chunk))
    data_quiet quiet j a part = omega (arith, named_same (view (written c at chunk)) (view c) j a (data_slots j a), quiet j a part)

    pub data_below : (j i : ℕ) → i < P → j * P + i < F → view (written c at chunk) (page_at P j + i) ≡ view c (page_at P j + i)
    data_below j i lt below = written_out c at chunk (page_at P j + i) (data_data P j i k f at (length chunk) F lt is short below start data_end)

    pub data_same : Data P bytes F (view c) → ((i : ℕ) → i < length chunk → get_or chunk i 0 ≡ get_or bytes (F + i) 0) → Data P bytes (F + length chunk) (view (written c at chunk))
    data_same same chunk_is j i lt below = elim (cases_lt (j * P + i) F) [
      | inl old ↦ data_below j i lt old ∙ same j i lt old
      | inr new ↦ (let page : j ≡ k = in_page j i lt below new in
          let f_le : f ≤ i = omega (arith, new, is, ap (λ (m : ℕ). m * P) page) in
          let place : page_at P j + i ≡ at + (i - f) = omega (arith, start, f_le, ap (page_at P) page) in
          let offset : F + (i - f) ≡ j * P + i = omega (arith, is, f_le, ap (λ (m : ℕ). m * P) page) in
          let inside : i - f < length chunk = omega (arith, offset, below) in
          ap (view (written c at chunk)) place ∙ written_in c at chunk (i - f) inside ∙ chunk_is (i - f) inside ∙ ap (λ (m : ℕ). get_or bytes m 0) offset)
    ]
      where
        in_page : (j i : ℕ) → i < P → j * P + i < F + length chunk → F ≤ j * P + i → j ≡ k
        in_page j i lt below new = elim (cases_order j k) [
          | inl same ↦ same
          | inr (inl less) ↦ absurd (omega (arith, times_more j k P less, lt, is, new))
          | inr (inr more) ↦ absurd (omega (arith, times_more k j P more, below, is, end))
        ]
