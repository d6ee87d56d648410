-- How far a blob is adopted after a cut, whatever its slots said before.
use Rattle.std.proofs.Common.{◌≡◌, inl, inr, ℕ, ◌+◌, ◌*◌, ◌^◌, ◌<◌, ◌≤◌, not, Bool, true, false, List, ◌++◌, length, get_or, take, drop, refl, sym, ◌∙◌, ap, arith, length-take}
use Rattle.std.specs.Int.{w16, w32, to_be_bytes, from_be_bytes}
use Rattle.std.proofs.lemmas.Bool.{cases_lt, cases_order}
use Rattle.std.proofs.lemmas.List.{get_or_append_left, get_or-take, get_or-drop}
use Rattle.std.proofs.lemmas.Nat.{from_be_bytes-to_be_bytes_2}
use Rattle.blob_device.specs.Change.{written, resized}
use Rattle.sealed_pages.specs.Cutting.{page_cut}
use Rattle.sealed_pages.specs.Flushing.{no_slot}
use Rattle.sealed_pages.specs.SealedPrefix.{pages_in, adopted_size}
use Rattle.sealed_pages.specs.Slots.{named_length, slot_length, page_length, best_slot, slot_bytes}
use Rattle.sealed_pages.specs.View.{View, view, bytes_at, page_at, slot_at}
use Rattle.sealed_pages.specs.lemmas.Reaching.{size_at_most}
use Rattle.sealed_pages.specs.lemmas.adopted.Adopt.{best_length}
use Rattle.sealed_pages.specs.lemmas.adopted.Repairing.{page_order}
use Rattle.sealed_pages.specs.lemmas.cutting.Cuts.{zeros_none}
use Rattle.sealed_pages.specs.lemmas.cutting.Steps.{other_not}
use Rattle.sealed_pages.specs.lemmas.looking.Looking.{page_length_is}
use Rattle.sealed_pages.specs.lemmas.slots.SealedBytes.{page_length-le}
use Rattle.sealed_pages.specs.lemmas.slots.Slot.{page_next, slot_at_most, slot_stands}
use Rattle.sealed_pages.specs.lemmas.slots.SlotSteps.{bytes_at-list, length-slot_bytes, length-two_bytes, slot_is, slot_matches, slot_same_data, slot_same_slot}
use Rattle.sealed_pages.specs.lemmas.slots.Steps.{named_same, slot_high, slot_low}
use Rattle.blob_device.specs.Lengths.{length-resized, length-written}
use Rattle.blob_device.proofs.general.Numbers.{times_more}

module _ (seal : List ℕ → ℕ) (P : ℕ) where
  -- a page with a matching slot begins within the content
  begins : (c : List ℕ) (k j : ℕ) → length c ≤ page_at P j → 1 ≤ page_length seal P c k → k < j
  begins c k j short some = elim (cases_lt k j) [
    | inl less ↦ less
    | inr le ↦ (let is = best_length seal P c k in absurd (omega (arith, short, page_order seal P j k le, slot_low P k (best_slot seal P c k), slot_stands seal P c k (best_slot seal P c k) (omega (arith, is, some)))))
  ]

  -- a content that ends where page j begins
  pub size_before : (c : List ℕ) (j : ℕ) → length c ≤ page_at P j → adopted_size seal P c ≤ j * P
  size_before c j short = size_at_most seal P (j * P) c (pages_in P c) (λ k some. omega (arith, times_more k j P (begins c k j short some), page_length-le seal P c k))

  pub shorter_at : (c : List ℕ) (j : ℕ) → adopted_size seal P (resized c (page_at P j)) ≤ j * P
  shorter_at c j = size_before (resized c (page_at P j)) j (omega (arith, length-resized c (page_at P j)))

  -- a slot over these bytes names their number
  slot_names : (v : View) (at : ℕ) (bytes : List ℕ) → length bytes < 2 ^ 16 → ((i : ℕ) → i < 6 → v (at + i) ≡ get_or (slot_bytes seal P bytes) i 0) → named_length v at ≡ length bytes
  unfolding slot_bytes
  slot_names v at bytes small slot = ap (from_be_bytes w16) (ap (bytes_at v at) (sym (length-two_bytes (length bytes))) ∙ first) ∙ from_be_bytes-to_be_bytes_2 (length bytes) (omega (arith, small))
    where
      first : bytes_at v at (length (to_be_bytes w16 (length bytes))) ≡ to_be_bytes w16 (length bytes)
      first = bytes_at-list v (to_be_bytes w16 (length bytes)) at (λ i lt. slot i (omega (arith, lt, length-two_bytes (length bytes)))
          ∙ get_or_append_left (to_be_bytes w16 (length bytes)) (to_be_bytes w32 (seal (to_be_bytes w16 (length bytes) ++ bytes))) 0 i lt)

  -- a page cut to these bytes is covered no further
  module _ (c : List ℕ) (j : ℕ) (old : Bool) (page : List ℕ) (small : length page < 2 ^ 16) where
    cut : List ℕ
    cut = written (take (page_at P (j + 1)) c) (slot_at P j (not old)) (slot_bytes seal P page)

    cut_end : length (page_cut seal P c j old page) ≤ page_at P (j + 1)
    cut_end = omega (
      arith,
      length-written (written (take (page_at P (j + 1)) c) (slot_at P j (not old)) (slot_bytes seal P page)) (slot_at P j old) no_slot,
      length-written (take (page_at P (j + 1)) c) (slot_at P j (not old)) (slot_bytes seal P page),
      length-take (page_at P (j + 1)) c,
      length-slot_bytes seal P page,
      slot_high P j old,
      slot_high P j (not old),
      page_next P j,
    )

    names : named_length (view (page_cut seal P c j old page)) (slot_at P j (not old)) ≡ length page
    names = named_same seal P (view (page_cut seal P c j old page)) (view (written (take (page_at P (j + 1)) c) (slot_at P j (not old)) (slot_bytes seal P page))) j (not old)
        (λ i lt. slot_same_slot seal P (written (take (page_at P (j + 1)) c) (slot_at P j (not old)) (slot_bytes seal P page)) j old no_slot refl j (not old) i lt (λ same e. other_not old (sym e)))
        ∙ slot_names (view (written (take (page_at P (j + 1)) c) (slot_at P j (not old)) (slot_bytes seal P page))) (slot_at P j (not old)) page small
        (λ i lt. slot_is seal P (take (page_at P (j + 1)) c) j (not old) (slot_bytes seal P page) (length-slot_bytes seal P page) i lt)

    by_slot : (b : Bool) → slot_length seal P (page_cut seal P c j old page) j old ≤ length page → slot_length seal P (page_cut seal P c j old page) j (not old) ≤ length page → slot_length seal P (page_cut seal P c j old page) j b ≤ length page
    by_slot = go old
      where
        go : (o b : Bool) → slot_length seal P (page_cut seal P c j old page) j o ≤ length page → slot_length seal P (page_cut seal P c j old page) j (not o) ≤ length page → slot_length seal P (page_cut seal P c j old page) j b ≤ length page
        go true true this that = this
        go true false this that = that
        go false true this that = that
        go false false this that = this

    covered : page_length seal P (page_cut seal P c j old page) j ≤ length page
    covered =
        let this : slot_length seal P (page_cut seal P c j old page) j old ≤ length page = omega (arith, zeros_none seal P (written (take (page_at P (j + 1)) c) (slot_at P j (not old)) (slot_bytes seal P page)) j old) in
        let that : slot_length seal P (page_cut seal P c j old page) j (not old) ≤ length page = omega (arith, slot_at_most seal P (page_cut seal P c j old page) j (not old), names) in
        omega (arith, page_length_is seal P (page_cut seal P c j old page) j, by_slot false this that, by_slot true this that)

    slot_within : (b : Bool) → slot_length seal P (page_cut seal P c j old page) j b ≤ page_length seal P (page_cut seal P c j old page) j
    slot_within false = omega (arith, page_length_is seal P (page_cut seal P c j old page) j)
    slot_within true = omega (arith, page_length_is seal P (page_cut seal P c j old page) j)

    -- and as far
    pub cut_covers : ((x : List ℕ) → seal x < 2 ^ 32) → P < 2 ^ 16 → page_at P j + (P + 12) < 2 ^ 64 → length page ≤ P → page ≡ take (length page) (drop (page_at P j) c)
        → length page ≤ page_length seal P (page_cut seal P c j old page) j
    cut_covers fits narrow room size is = omega (arith, slot_within (not old), whole)
      where
        before : List ℕ
        before = written (take (page_at P (j + 1)) c) (slot_at P j (not old)) (slot_bytes seal P page)

        whole : slot_length seal P (page_cut seal P c j old page) j (not old) ≡ length page
        whole = slot_matches seal P (page_cut seal P c j old page) j (not old) page
            (omega (
              arith,
              length-written (written (take (page_at P (j + 1)) c) (slot_at P j (not old)) (slot_bytes seal P page)) (slot_at P j old) no_slot,
              length-written (take (page_at P (j + 1)) c) (slot_at P j (not old)) (slot_bytes seal P page),
              length-slot_bytes seal P page,
            )) room fits size narrow
            (λ i lt. slot_same_slot seal P before j old no_slot refl j (not old) i lt (λ same e. other_not old (sym e))
            ∙ slot_is seal P (take (page_at P (j + 1)) c) j (not old) (slot_bytes seal P page) (length-slot_bytes seal P page) i lt)
            (λ i lt. slot_same_data seal P before j old no_slot refl j i (omega (arith, lt, size))
            ∙ slot_same_data seal P (take (page_at P (j + 1)) c) j (not old) (slot_bytes seal P page) (length-slot_bytes seal P page) j i (omega (arith, lt, size))
            ∙ get_or-take (page_at P (j + 1)) c (page_at P j + i) 0 (omega (arith, lt, size, page_next P j))
            ∙ sym (get_or-take (length page) (drop (page_at P j) c) i 0 lt ∙ get_or-drop (page_at P j) c i 0) ∙ sym (ap (λ (l : List ℕ). get_or l i 0) is))

    pub shorter_within : adopted_size seal P (page_cut seal P c j old page) ≤ j * P + length page
    shorter_within = size_at_most seal P (j * P + length page) (page_cut seal P c j old page) (pages_in P (page_cut seal P c j old page)) each
      where
        each : (k : ℕ) → 1 ≤ page_length seal P (page_cut seal P c j old page) k → k * P + page_length seal P (page_cut seal P c j old page) k ≤ j * P + length page
        each k some = elim (cases_order k j) [
          | inl same ↦ omega (arith, covered, ap (page_length seal P (page_cut seal P c j old page)) same, ap (λ (x : ℕ). x * P) same)
          | inr (inl less) ↦ omega (arith, times_more k j P less, page_length-le seal P (page_cut seal P c j old page) k)
          | inr (inr more) ↦ absurd (omega (arith, more, begins (page_cut seal P c j old page) k (j + 1) cut_end some))
        ]
