-- What the steps of a cut leave: the pages below a page start, a slot beside the one that covers a page, and zeros over a slot.
use Rattle.std.proofs.Common.{◌≡◌, ◌≢◌, ◌⊎◌, inl, inr, ℕ, zero, suc, ◌+◌, ◌*◌, ◌^◌, ◌<◌, ◌≤◌, ltb, min, max, Bool, true, false, cond, List, length, get_or, take, drop, refl, sym, ◌∙◌, ap, subst, arith, length-take}
use Rattle.std.proofs.lemmas.Bool.{cases_lt, cases_eq, cases_order, eq-eqb, ne_eqb}
use Rattle.std.proofs.lemmas.List.{get_or-take, get_or-drop, get_or_past, ext_get_or}
use Rattle.blob_device.specs.Change.{written}
use Rattle.sealed_pages.specs.Flushing.{with_slot, no_slot, Quiet, Covers, Below}
use Rattle.sealed_pages.specs.SealedPrefix.{sealed_prefix}
use Rattle.sealed_pages.specs.Slots.{named_length, slot_length, page_length, best_slot, slot_bytes}
use Rattle.sealed_pages.specs.View.{view, page_at, slot_at}
use Rattle.sealed_pages.specs.lemmas.Reaching.{prefix_is, prefix_sound}
use Rattle.sealed_pages.specs.lemmas.adopted.Adopt.{best_covers, best_length}
use Rattle.sealed_pages.specs.lemmas.adopted.Repairing.{page_order}
use Rattle.sealed_pages.specs.lemmas.looking.Looking.{slot_short}
use Rattle.sealed_pages.specs.lemmas.slots.SealedBytes.{SoundTo}
use Rattle.sealed_pages.specs.lemmas.slots.Slot.{page_apart, page_next, slot_at_most, slot_length-le, slot_named, slot_room, slot_same, slot_stands, zero_named}
use Rattle.sealed_pages.specs.lemmas.slots.SlotSteps.{length-slot_bytes, same_or_apart, slot_is, slot_kept, slot_matches, slot_same_data}
use Rattle.sealed_pages.specs.lemmas.slots.Steps.{slot_high, slot_low}
use Rattle.sealed_pages.specs.SlotNames.{is_b}
use Rattle.blob_device.specs.Lengths.{length-written}
use Rattle.blob_device.proofs.general.Numbers.{times_more}

-- the prefix of a prefix
pub take_prefix : (m n : ℕ) (l : List ℕ) → m ≤ n → take m (take n l) ≡ take m l
take_prefix m n l le = ext_get_or 0 (take m (take n l)) (take m l) (omega (arith, length-take m (take n l), length-take n l, length-take m l, le))
    (λ i lt. let inside : i < m = omega (arith, lt, length-take m (take n l)) in get_or-take m (take n l) i 0 inside ∙ get_or-take n l i 0 (omega (arith, inside, le)) ∙ sym (get_or-take m l i 0 inside))

-- places below a page start
pub below_start : (P j k : ℕ) → k * P < j * P → k < j
below_start P j k lt = elim (cases_order k j) [
  | inl same ↦ absurd (omega (arith, lt, ap (λ (m : ℕ). m * P) same))
  | inr (inl less) ↦ less
  | inr (inr more) ↦ absurd (omega (arith, lt, times_more j k P more))
]

module _ (seal : List ℕ → ℕ) (P : ℕ) where
  -- a shorter list of bytes
  pub sound_shorter : (bytes c : List ℕ) (L : ℕ) → SoundTo seal P bytes c → ((k : ℕ) (b : Bool) → k * P ≤ length bytes → 1 ≤ slot_length seal P c k b → k * P + slot_length seal P c k b ≤ L) → SoundTo seal P (take L bytes) c
  sound_shorter bytes c L sound below = record {
    within = λ k b start some. omega (arith, length-take L bytes, start, sound.within k b (omega (arith, length-take L bytes, start)) some, below k b (omega (arith, length-take L bytes, start)) some);
    same = λ k b i start lt. (let some : 1 ≤ slot_length seal P c k b = omega (arith, lt) in let whole : k * P ≤ length bytes = omega (arith, length-take L bytes, start) in
        sound.same k b i whole lt ∙ sym (get_or-take L bytes (k * P + i) 0 (omega (arith, lt, below k b whole some))));
  }

  -- the content cut where page j begins
  module _ (c : List ℕ) (j : ℕ) where
    cut_view : (i : ℕ) → i < page_at P j → view (take (page_at P j) c) i ≡ view c i
    cut_view i lt = get_or-take (page_at P j) c i 0 lt

    pub cut_slot : (k : ℕ) (b : Bool) → k < j → slot_length seal P (take (page_at P j) c) k b ≡ slot_length seal P c k b
    cut_slot k b less = elim (cases_lt (length c) (slot_at P k b + 6)) [
      | inl short ↦ slot_short seal P (take (page_at P j) c) k b (omega (arith, short, length-take (page_at P j) c)) ∙ sym (slot_short seal P c k b short)
      | inr stands ↦ slot_same seal P (take (page_at P j) c) c k b (omega (arith, stands, inside, length-take (page_at P j) c)) stands
          (λ i near. cut_view (slot_at P k b + i) (omega (arith, near, inside)))
          (λ i near short. cut_view (page_at P k + i) (omega (arith, short, page_apart P k j less)))
    ]
      where
        inside : slot_at P k b + 6 ≤ page_at P j
        inside = omega (arith, slot_high P k b, page_apart P k j less)

    pub cut_page : (k : ℕ) → k < j → page_length seal P (take (page_at P j) c) k ≡ page_length seal P c k
    unfolding page_length
    cut_page k less = λ t. max (cut_slot k false less t) (cut_slot k true less t)

    pub cut_best : (k : ℕ) → k < j → best_slot seal P (take (page_at P j) c) k ≡ best_slot seal P c k
    cut_best k less = λ t. ltb (cut_slot k false less t) (cut_slot k true less t)

    -- no page from there on has a slot
    pub cut_inside : (k : ℕ) (b : Bool) → 1 ≤ slot_length seal P (take (page_at P j) c) k b → k < j
    cut_inside k b some = elim (cases_lt k j) [
      | inl less ↦ less
      | inr le ↦ absurd (omega (arith, slot_stands seal P (take (page_at P j) c) k b some, length-take (page_at P j) c, page_order seal P j k le, slot_low P k b))
    ]

    pub cut_sound : (bytes : List ℕ) → SoundTo seal P bytes c → SoundTo seal P bytes (take (page_at P j) c)
    cut_sound bytes sound = record {
      within = λ k b start some. (let is = cut_slot k b (cut_inside k b some) in omega (arith, is, sound.within k b start (omega (arith, some, is))));
      same = λ k b i start lt. (let less = cut_inside k b (omega (arith, lt)) in let is = cut_slot k b less in
          cut_view (page_at P k + i) (omega (arith, lt, slot_length-le seal P (take (page_at P j) c) k b, page_apart P k j less)) ∙ sound.same k b i start (omega (arith, lt, is)));
    }

    pub cut_covers : (L : ℕ) (σ : ℕ → Bool) → Covers seal P c L σ → Covers seal P (take (page_at P j) c) (min (j * P) L) σ
    cut_covers L σ covers k lt = let less = below_start P j k (omega (arith, lt)) in omega (arith, cut_slot k (σ k) less, covers k (omega (arith, lt)), times_more k j P less)

    pub cut_at_most : (k : ℕ) (b : Bool) → 1 ≤ slot_length seal P (take (page_at P j) c) k b → k * P + slot_length seal P (take (page_at P j) c) k b ≤ j * P
    cut_at_most k b some = omega (arith, times_more k j P (cut_inside k b some), slot_length-le seal P (take (page_at P j) c) k b)

    -- the sealed prefix is cut so too
    pub cut_prefix : 1 ≤ P → sealed_prefix seal P (take (page_at P j) c) ≡ take (j * P) (sealed_prefix seal P c)
    cut_prefix pos = prefix_is seal P (take (j * P) (sealed_prefix seal P c)) (take (page_at P j) c) (best_slot seal P c) pos
        (sound_shorter (sealed_prefix seal P c) (take (page_at P j) c) (j * P) (cut_sound (sealed_prefix seal P c) (prefix_sound seal P c)) (λ k b start some. cut_at_most k b some))
        (subst (λ (n : ℕ). Covers seal P (take (page_at P j) c) n (best_slot seal P c)) (sym (length-take (j * P) (sealed_prefix seal P c))) (cut_covers (length (sealed_prefix seal P c)) (best_slot seal P c) (best_covers seal P c)))

    pub cut_quiet : Quiet P (j * P) (view (take (page_at P j) c))
    cut_quiet k b part = elim (cases_lt k j) [
      | inl less ↦ absurd (omega (arith, part, times_more k j P less))
      | inr le ↦ omega (arith, zero_named (view (take (page_at P j) c)) (slot_at P k b) (λ i lt. get_or_past (take (page_at P j) c) (slot_at P k b + i) 0 (omega (arith, length-take (page_at P j) c, page_order seal P j k le, slot_low P k b))))
    ]

  -- six bytes over slot b of page j, the last one, whose other slot stands whole
  module _ (c : List ℕ) (j : ℕ) (a b : Bool) (six : List ℕ) (is_six : length six ≡ 6) (differ : a ≢ b) (whole : slot_at P j a + 6 ≤ length c) (last : length c ≤ page_at P (j + 1)) where
    pub six_end : length (written c (slot_at P j b) six) ≤ page_at P (j + 1)
    six_end = omega (arith, length-written c (slot_at P j b) six, is_six, last, slot_high P j b, page_next P j)

    pub six_last : (k : ℕ) (x : Bool) → 1 ≤ slot_length seal P (written c (slot_at P j b) six) k x → k ≤ j
    six_last k x some = elim (cases_lt j k) [
      | inl more ↦ absurd (omega (arith, slot_stands seal P (written c (slot_at P j b) six) k x some, six_end, slot_low P k x, page_order seal P (j + 1) k (omega (arith, more))))
      | inr le ↦ le
    ]

    own_slot : (x y z : Bool) → y ≢ z → x ≢ z → x ≡ y
    own_slot false false z d e = refl
    own_slot true true z d e = refl
    own_slot false true false d e = absurd (e refl)
    own_slot false true true d e = absurd (d refl)
    own_slot true false true d e = absurd (e refl)
    own_slot true false false d e = absurd (d refl)

    whole_before : (k : ℕ) (x : Bool) → (k ≡ j → x ≢ b) → k ≤ j → slot_at P k x + 6 ≤ length c
    whole_before k x other before = elim (cases_eq k j) [
      | inl same ↦ (let e : slot_at P k x ≡ slot_at P j a = (λ t. slot_at P (same t) (own_slot x a b differ (other same) t)) in omega (arith, e, whole))
      | inr not_j ↦ (let less : k < j = omega (arith, before, not_j) in omega (arith, slot_high P k x, page_apart P k j less, slot_low P j a, whole))
    ]

    pub six_kept : (k : ℕ) (x : Bool) → (k ≡ j → x ≢ b) → k ≤ j → slot_length seal P (written c (slot_at P j b) six) k x ≡ slot_length seal P c k x
    six_kept k x other before = slot_kept seal P c j b six is_six k x other (whole_before k x other before)

    module _ (short : slot_length seal P (written c (slot_at P j b) six) j b ≤ slot_length seal P c j a) where
      here : (k : ℕ) (x : Bool) → k ≡ j → x ≡ b → slot_length seal P (written c (slot_at P j b) six) k x ≡ slot_length seal P (written c (slot_at P j b) six) j b
      here k x is same = λ t. slot_length seal P (written c (slot_at P j b) six) (is t) (same t)

      pub six_sound : (bytes : List ℕ) → SoundTo seal P bytes c → SoundTo seal P bytes (written c (slot_at P j b) six)
      six_sound bytes sound = record {
        within = λ k x start some. elim (same_or_apart seal P c j b six is_six k x) [
          | inl is ↦ (let e = here k x is.0 is.1 in let at : k * P ≡ j * P = ap (λ (m : ℕ). m * P) is.0 in omega (arith, e, at, short, some, sound.within j a (omega (arith, at, start)) (omega (arith, e, some, short))))
          | inr other ↦ (let e = six_kept k x other (six_last k x some) in omega (arith, e, sound.within k x start (omega (arith, some, e))))
        ];
        same = λ k x i start lt. slot_same_data seal P c j b six is_six k i (omega (arith, lt, slot_length-le seal P (written c (slot_at P j b) six) k x)) ∙ elim (same_or_apart seal P c j b six is_six k x) [
          | inl is ↦ (let e = here k x is.0 is.1 in let at : k * P ≡ j * P = ap (λ (m : ℕ). m * P) is.0 in
              subst (λ (m : ℕ). view c (page_at P m + i) ≡ get_or bytes (m * P + i) 0) (sym is.0) (sound.same j a i (omega (arith, at, start)) (omega (arith, e, lt, short))))
          | inr other ↦ (let e = six_kept k x other (six_last k x (omega (arith, lt))) in sound.same k x i start (omega (arith, lt, e)))
        ];
      }

    -- as far as slots that were picked cover, where the page's other one was picked
    pub six_covers : (L : ℕ) (σ : ℕ → Bool) → 1 ≤ P → σ j ≡ a → Covers seal P c L σ → Covers seal P (written c (slot_at P j b) six) L σ
    six_covers L σ pos own covers k lt =
        let some : 1 ≤ slot_length seal P c k (σ k) = omega (arith, covers k lt, lt, pos) in
        let before : k ≤ j = not_past k (σ k) some in
        omega (arith, six_kept k (σ k) (λ is e. differ (sym own ∙ ap σ (sym is) ∙ e)) before, covers k lt)
      where
        not_past : (k : ℕ) (x : Bool) → 1 ≤ slot_length seal P c k x → k ≤ j
        not_past k x some = elim (cases_lt j k) [
          | inl more ↦ absurd (omega (arith, slot_stands seal P c k x some, last, slot_low P k x, page_order seal P (j + 1) k (omega (arith, more))))
          | inr le ↦ le
        ]

  -- a slot that covers nothing
  zeros_named : (c : List ℕ) (j : ℕ) (b : Bool) → named_length (view (written c (slot_at P j b) no_slot)) (slot_at P j b) ≡ 0
  zeros_named c j b = zero_named (view (written c (slot_at P j b) no_slot)) (slot_at P j b) zero_is
    where
      zero_is : (i : ℕ) → i < 2 → view (written c (slot_at P j b) no_slot) (slot_at P j b + i) ≡ 0
      zero_is zero lt = slot_is seal P c j b no_slot refl 0 (omega arith)
      zero_is (suc zero) lt = slot_is seal P c j b no_slot refl 1 (omega arith)
      zero_is (suc (suc i)) lt = absurd (omega (arith, lt))

  pub zeros_none : (c : List ℕ) (j : ℕ) (b : Bool) → slot_length seal P (written c (slot_at P j b) no_slot) j b ≡ 0
  zeros_none c j b = omega (arith, slot_at_most seal P (written c (slot_at P j b) no_slot) j b, zeros_named c j b)

  pub best_is : (c : List ℕ) (j : ℕ) (a : Bool) → best_slot seal P c j ≡ a → slot_length seal P c j a ≡ page_length seal P c j
  best_is c j a own = ap (slot_length seal P c j) (sym own) ∙ best_length seal P c j

  -- the shorter slot, in slot b, over bytes that the page's best slot covers
  module _ (c : List ℕ) (j : ℕ) (a b : Bool) (page : List ℕ) (fits : (x : List ℕ) → seal x < 2 ^ 32) (small : P < 2 ^ 16) (pos : 1 ≤ P) (some : 0 < length page) (own : best_slot seal P c j ≡ a) (differ : a ≢ b) (covered : length page ≤ page_length seal P c j)
      (last : length c ≤ page_at P (j + 1)) (page_is : page ≡ take (length page) (drop (page_at P j) c)) where
    reach : length page ≤ slot_length seal P c j a
    reach = omega (arith, best_is c j a own, covered)

    pub short_whole : slot_at P j a + 6 ≤ length c
    short_whole = slot_stands seal P c j a (omega (arith, reach, some))

    pub short_length : slot_length seal P (written c (slot_at P j b) (slot_bytes seal P page)) j b ≡ length page
    short_length = slot_matches seal P (written c (slot_at P j b) (slot_bytes seal P page)) j b page
        (omega (arith, length-slot_bytes seal P page, length-written c (slot_at P j b) (slot_bytes seal P page))) (slot_room seal P c j a (omega (arith, reach, some))) fits (omega (arith, reach, slot_length-le seal P c j a)) small
        (λ i lt. slot_is seal P c j b (slot_bytes seal P page) (length-slot_bytes seal P page) i lt)
        (λ i lt. slot_same_data seal P c j b (slot_bytes seal P page) (length-slot_bytes seal P page) j i (omega (arith, lt, reach, slot_length-le seal P c j a))
        ∙ sym (get_or-take (length page) (drop (page_at P j) c) i 0 lt ∙ get_or-drop (page_at P j) c i 0) ∙ sym (ap (λ (l : List ℕ). get_or l i 0) page_is))

    pub short_sound : SoundTo seal P (sealed_prefix seal P c) (written c (slot_at P j b) (slot_bytes seal P page))
    short_sound = six_sound c j a b (slot_bytes seal P page) (length-slot_bytes seal P page) differ short_whole last (omega (arith, short_length, reach)) (sealed_prefix seal P c) (prefix_sound seal P c)

    pub short_prefix : sealed_prefix seal P (written c (slot_at P j b) (slot_bytes seal P page)) ≡ sealed_prefix seal P c
    short_prefix = prefix_is seal P (sealed_prefix seal P c) (written c (slot_at P j b) (slot_bytes seal P page)) (best_slot seal P c) pos short_sound
        (six_covers c j a b (slot_bytes seal P page) (length-slot_bytes seal P page) differ short_whole last (length (sealed_prefix seal P c)) (best_slot seal P c) pos own (best_covers seal P c))

  -- zeros over slot b, where the other slot covers the first r bytes of the page
  module _ (c : List ℕ) (j r : ℕ) (a b : Bool) (pos : 1 ≤ P) (some : 0 < r) (covers : slot_length seal P c j a ≡ r) (differ : a ≢ b) (last : length c ≤ page_at P (j + 1)) (inside : j * P + r ≤ length (sealed_prefix seal P c)) where
    zeros_whole : slot_at P j a + 6 ≤ length c
    zeros_whole = slot_stands seal P c j a (omega (arith, covers, some))

    pub zeros_end : length (written c (slot_at P j b) no_slot) ≤ page_at P (j + 1)
    zeros_end = six_end c j a b no_slot refl differ zeros_whole last

    pub zeros_sound : SoundTo seal P (sealed_prefix seal P c) (written c (slot_at P j b) no_slot)
    zeros_sound = six_sound c j a b no_slot refl differ zeros_whole last (omega (arith, zeros_none c j b)) (sealed_prefix seal P c) (prefix_sound seal P c)

    -- the slot that now counts on page j
    pub short_covers : Covers seal P c (j * P + r) (with_slot (best_slot seal P c) j a)
    short_covers k lt = elim (cases_eq k j) [
      | inl same ↦ (let picked : with_slot (best_slot seal P c) j a k ≡ a = ap (λ (t : Bool). cond t a (best_slot seal P c k)) (eq-eqb k j same) in
          let e : slot_length seal P c k (with_slot (best_slot seal P c) j a k) ≡ slot_length seal P c j a = λ t. slot_length seal P c (same t) (picked t) in
          omega (arith, e, covers, ap (λ (m : ℕ). m * P) same))
      | inr apart ↦ (let e : slot_length seal P c k (with_slot (best_slot seal P c) j a k) ≡ slot_length seal P c k (best_slot seal P c k) = ap (λ (t : Bool). slot_length seal P c k (cond t a (best_slot seal P c k))) (ne_eqb k j apart) in
          omega (arith, e, inside, best_covers seal P c k (omega (arith, lt, inside)), times_more k j P (before k lt apart)))
    ]
      where
        before : (k : ℕ) → k * P < j * P + r → k ≢ j → k < j
        before k lt apart = elim (cases_lt k j) [
          | inl less ↦ less
          | inr le ↦ (let more : j < k = omega (arith, le, apart) in absurd (omega (arith, lt, times_more j k P more, covers, slot_length-le seal P c j a)))
        ]

    pub with_own : with_slot (best_slot seal P c) j a j ≡ a
    with_own = ap (λ (t : Bool). cond t a (best_slot seal P c j)) (eq-eqb j j refl)

    pub zeros_covers : Covers seal P (written c (slot_at P j b) no_slot) (j * P + r) (with_slot (best_slot seal P c) j a)
    zeros_covers = six_covers c j a b no_slot refl differ zeros_whole last (j * P + r) (with_slot (best_slot seal P c) j a) pos with_own short_covers

    two_slots : (x y z : Bool) → y ≢ z → (x ≡ y) ⊎ (x ≡ z)
    two_slots false false z d = inl refl
    two_slots true true z d = inl refl
    two_slots false true false d = inr refl
    two_slots true false true d = inr refl
    two_slots false true true d = absurd (d refl)
    two_slots true false false d = absurd (d refl)

    zeros_kept : slot_length seal P (written c (slot_at P j b) no_slot) j a ≡ r
    zeros_kept = six_kept c j a b no_slot refl differ zeros_whole last j a (λ is. differ) (omega arith) ∙ covers

    pub zeros_below : Below seal P (j * P + r) (written c (slot_at P j b) no_slot)
    zeros_below k x has = elim (cases_eq k j) [
      | inl same ↦ elim (two_slots x a b differ) [
        | inl is_a ↦ (let e : slot_length seal P (written c (slot_at P j b) no_slot) k x ≡ slot_length seal P (written c (slot_at P j b) no_slot) j a = λ t. slot_length seal P (written c (slot_at P j b) no_slot) (same t) (is_a t) in
            omega (arith, e, zeros_kept, ap (λ (m : ℕ). m * P) same))
        | inr is_b ↦ (let e : slot_length seal P (written c (slot_at P j b) no_slot) k x ≡ slot_length seal P (written c (slot_at P j b) no_slot) j b = λ t. slot_length seal P (written c (slot_at P j b) no_slot) (same t) (is_b t) in
            absurd (omega (arith, e, zeros_none c j b, has)))
      ]
      | inr apart ↦ (let less : k < j = omega (arith, six_last c j a b no_slot refl differ zeros_whole last k x has, apart) in omega (arith, times_more k j P less, slot_length-le seal P (written c (slot_at P j b) no_slot) k x))
    ]

    pub zeros_prefix : sealed_prefix seal P (written c (slot_at P j b) no_slot) ≡ take (j * P + r) (sealed_prefix seal P c)
    zeros_prefix = prefix_is seal P (take (j * P + r) (sealed_prefix seal P c)) (written c (slot_at P j b) no_slot) (with_slot (best_slot seal P c) j a) pos
        (sound_shorter (sealed_prefix seal P c) (written c (slot_at P j b) no_slot) (j * P + r) zeros_sound (λ k x start has. zeros_below k x has))
        (subst (λ (n : ℕ). Covers seal P (written c (slot_at P j b) no_slot) n (with_slot (best_slot seal P c) j a)) length_is zeros_covers)
      where
        length_is : j * P + r ≡ length (take (j * P + r) (sealed_prefix seal P c))
        length_is = omega (arith, length-take (j * P + r) (sealed_prefix seal P c), inside)

    pub zeros_quiet : Quiet P (j * P + r) (view (written c (slot_at P j b) no_slot))
    zeros_quiet k x part = elim (cases_order k j) [
      | inl same ↦ elim (two_slots x a b differ) [
        | inl is_a ↦ (let e : named_length (view (written c (slot_at P j b) no_slot)) (slot_at P k x) ≡ named_length (view (written c (slot_at P j b) no_slot)) (slot_at P j a) = λ t. named_length (view (written c (slot_at P j b) no_slot)) (slot_at P (same t) (is_a t)) in
            omega (arith, e, slot_named seal P (written c (slot_at P j b) no_slot) j a (omega (arith, zeros_kept, some)), zeros_kept, ap (λ (m : ℕ). m * P) same))
        | inr is_b ↦ (let e : named_length (view (written c (slot_at P j b) no_slot)) (slot_at P k x) ≡ named_length (view (written c (slot_at P j b) no_slot)) (slot_at P j b) = λ t. named_length (view (written c (slot_at P j b) no_slot)) (slot_at P (same t) (is_b t)) in
            omega (arith, e, zeros_named c j b))
      ]
      | inr (inl less) ↦ absurd (omega (arith, part, times_more k j P less))
      | inr (inr more) ↦ omega (arith, zero_named (view (written c (slot_at P j b) no_slot)) (slot_at P k x) (λ i lt. get_or_past (written c (slot_at P j b) no_slot) (slot_at P k x + i) 0 (omega (arith, zeros_end, slot_low P k x, page_order seal P (j + 1) k (omega (arith, more))))))
    ]
