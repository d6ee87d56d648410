-- A settled content by itself: what its sealed prefix says of its pages, and when these bytes are its sealed prefix.
use Rattle.std.proofs.Common.{◌≡◌, inl, inr, ℕ, zero, suc, ◌+◌, ◌-◌, ◌*◌, ◌/◌, ◌<◌, ◌≤◌, Bool, cond, List, length, get_or, refl, sym, ◌∙◌, ap, subst, arith}
use Rattle.std.proofs.Math.Nat.{div-lt_iff_lt-mul, div-mul-le_self}
use Rattle.std.proofs.lemmas.Bool.{cases_lt, cases_order}
use Rattle.std.proofs.lemmas.Bool.Decides.{eqb_tells}
use Rattle.std.proofs.lemmas.List.{get_or-take, take_all}
use Rattle.blob_device.specs.Disk.{Blob, settled_at}
use Rattle.blob_device.specs.Guards.{Sealed}
use Rattle.blob_device.specs.lemmas.Guards.{guards_settled}
use Rattle.sealed_pages.specs.lemmas.adopted.Adopt.{best_covers, best_length, length-data_from, own_data}
use Rattle.sealed_pages.specs.lemmas.adopted.Repairing.{adopted_below, size_bounds}
use Rattle.sealed_pages.specs.lemmas.slots.SealedBytes.{SoundTo, covers_length, length-step, page_length-le, page_length-slot, rest_is, sealed_leaves, slot_inside, sound_prefix, sound_to}
use Rattle.sealed_pages.specs.lemmas.slots.Slot.{slot_length-le}
use Rattle.sealed_pages.specs.lemmas.slots.SlotSteps.{covers_inside}
use Rattle.sealed_pages.specs.lemmas.slots.Steps.{below_sound}
use Rattle.sealed_pages.specs.ChanceSeal.{Leaves}
use Rattle.sealed_pages.specs.Flushing.{Covers, Held, Below}
use Rattle.sealed_pages.specs.SealedPrefix.{pages_in, sealed_from, sealed_prefix, size_below, adopted_size, Prefix, data_from}
use Rattle.sealed_pages.specs.Slots.{slot_length, page_length, best_slot}
use Rattle.sealed_pages.specs.View.{view, page_at}
use Rattle.blob_device.proofs.general.Numbers.{times_more, times_next}

module _ (seal : List ℕ → ℕ) (P : ℕ) where
  -- a page at which the sealed prefix arrives is in it as far as it is sealed
  sealed_reaches : (v : List ℕ) (m k j : ℕ) → k ≤ j → j < k + m → j * P ≤ k * P + length (sealed_from seal P v k m) → j * P + page_length seal P v j ≤ k * P + length (sealed_from seal P v k m)
  sealed_reaches v zero k j le fuel at = absurd (omega (arith, le, fuel))
  sealed_reaches v (suc m) k j le fuel at = elim (cases_order k j) [
    | inl same ↦ omega (arith, length-step seal P v k m, ap (page_length seal P v) same, ap (λ (x : ℕ). x * P) same)
    | inr (inl less) ↦ elim (rest_is seal P v k m) [
      | inl full ↦ (let step : k * P + length (sealed_from seal P v k (suc m)) ≡ (k + 1) * P + length (sealed_from seal P v (k + 1) m) = omega (arith, length-step seal P v k m, full.0, ap length full.1, times_next k P) in
          omega (arith, step, sealed_reaches v m (k + 1) j (omega (arith, less)) (omega (arith, fuel)) (omega (arith, at, step))))
      | inr part ↦ (let below : page_length seal P v k < P = omega (arith, part.0, page_length-le seal P v k) in absurd (omega (arith, at, below, length-step seal P v k m, ap length part.1, times_more k j P less)))
    ]
    | inr (inr more) ↦ absurd (omega (arith, le, more))
  ]

  pub own_prefix : (c : List ℕ) → Prefix seal P (data_from P (view c) 0 (adopted_size seal P c)) 0 c
  own_prefix c = sound_prefix seal P (data_from P (view c) 0 (adopted_size seal P c)) c
      (sound_to seal P (data_from P (view c) 0 (adopted_size seal P c)) c (below_sound seal P (data_from P (view c) 0 (adopted_size seal P c)) (adopted_size seal P c) c (omega (arith, length-data_from P (view c) (adopted_size seal P c) 0)) (adopted_below seal P c) (own_data P (adopted_size seal P c) (view c))))
      0 (omega arith)

  pub prefix_size : (c : List ℕ) → length (sealed_prefix seal P c) ≤ adopted_size seal P c
  prefix_size c = omega (arith, (own_prefix c).no_longer, length-data_from P (view c) (adopted_size seal P c) 0)

  prefix_opens : (c : List ℕ) → sealed_prefix seal P c ≡ sealed_from seal P c 0 (pages_in P c)
  unfolding sealed_prefix
  prefix_opens c = refl

  -- as far as the sealed prefix goes, each place that matches has its bytes
  pub prefix_sound : (c : List ℕ) → SoundTo seal P (sealed_prefix seal P c) c
  prefix_sound c = record {
    within = within;
    same = λ k b i start lt. place_is k i (omega (arith, lt, slot_length-le seal P c k b)) (omega (arith, lt, within k b start (omega (arith, lt))));
  }
    where
      opens : length (sealed_prefix seal P c) ≡ length (sealed_from seal P c 0 (pages_in P c))
      opens = ap length (prefix_opens c)

      reach : (j : ℕ) → j < pages_in P c → j * P ≤ length (sealed_prefix seal P c) → j * P + page_length seal P c j ≤ length (sealed_prefix seal P c)
      reach j fuel at = omega (arith, opens, sealed_reaches c (pages_in P c) 0 j (omega arith) (omega (arith, fuel)) (omega (arith, at, opens)))

      within : (k : ℕ) (b : Bool) → k * P ≤ length (sealed_prefix seal P c) → 1 ≤ slot_length seal P c k b → k * P + slot_length seal P c k b ≤ length (sealed_prefix seal P c)
      within k b start some = omega (arith, page_length-slot seal P c k b, reach k (slot_inside seal P c k b some) start)

      place_is : (k i : ℕ) → i < P → k * P + i < length (sealed_prefix seal P c) → view c (page_at P k + i) ≡ get_or (sealed_prefix seal P c) (k * P + i) 0
      place_is k i lt below = own_data P (adopted_size seal P c) (view c) k i lt (omega (arith, below, prefix_size c))
          ∙ sym (get_or-take (length (sealed_prefix seal P c)) (data_from P (view c) 0 (adopted_size seal P c)) (k * P + i) 0 below)
          ∙ sym (ap (λ (l : List ℕ). get_or l (k * P + i) 0) (own_prefix c).is)

  -- bytes that each matching place has, and that are covered to their end, are the sealed prefix
  pub prefix_is : (bytes c : List ℕ) (σ : ℕ → Bool) → 1 ≤ P → SoundTo seal P bytes c → Covers seal P c (length bytes) σ → sealed_prefix seal P c ≡ bytes
  prefix_is bytes c σ pos sound covers =
      let low = covers_length seal P c (length bytes) σ pos covers in
      let p = sound_prefix seal P bytes c sound (length bytes) low in
      let full : length bytes ≤ length (sealed_prefix seal P c) = low in
      p.is ∙ take_all (length (sealed_prefix seal P c)) bytes full

  pub size_at_most : (F : ℕ) (c : List ℕ) (m : ℕ) → ((k : ℕ) → 1 ≤ page_length seal P c k → k * P + page_length seal P c k ≤ F) → size_below seal P c m ≤ F
  unfolding size_below
  size_at_most F c zero pages = omega arith
  size_at_most F c (suc m) pages = elim (eqb_tells (page_length seal P c m) 0) [
    | inl none ↦ omega (arith, size_at_most F c m pages, ap (λ (t : Bool). cond t (size_below seal P c m) (m * P + page_length seal P c m)) none.0)
    | inr has ↦ omega (arith, pages m (omega (arith, has.1)), ap (λ (t : Bool). cond t (size_below seal P c m) (m * P + page_length seal P c m)) has.0)
  ]

  -- covered to F, and no further: adopting it gives F
  pub adopted_size_is : (F : ℕ) (c : List ℕ) (σ : ℕ → Bool) → 1 ≤ P → Below seal P F c → Covers seal P c F σ → adopted_size seal P c ≡ F
  adopted_size_is F c σ pos below covers = omega (arith, low, size_at_most F c (pages_in P c) pages)
    where
      pages : (k : ℕ) → 1 ≤ page_length seal P c k → k * P + page_length seal P c k ≤ F
      pages k some = let is = best_length seal P c k in omega (arith, is, below k (best_slot seal P c k) (omega (arith, is, some)))

      low : F ≤ adopted_size seal P c
      low = elim (cases_lt 0 F) [
        | inl more ↦ last ((F - 1) / P) (omega (arith, div-mul-le_self (F - 1) P, more))
            (omega (arith, more, times_next ((F - 1) / P) P, (div-lt_iff_lt-mul {k = P} {x = F - 1} {y = (F - 1) / P + 1} (omega (arith, pos))).0 (omega arith)))
        | inr none ↦ omega (arith, none)
      ]
        where
          last : (k : ℕ) → k * P < F → F ≤ k * P + P → F ≤ size_below seal P c (pages_in P c)
          last k lt high =
              let reach : F - k * P ≤ slot_length seal P c k (σ k) = omega (arith, covers k lt, high) in
              let inside = slot_inside seal P c k (σ k) (omega (arith, reach, lt)) in
              omega (arith, lt, reach, page_length-slot seal P c k (σ k), size_bounds seal P c (pages_in P c) k inside (omega (arith, reach, lt, page_length-slot seal P c k (σ k))))

  -- a content that has settled, and of which these slots are held
  pub settled_sealed : (bytes c : List ℕ) (L : ℕ) (σ : ℕ → Bool) → 1 ≤ P → Covers seal P c L σ → SoundTo seal P bytes c → Sealed (Held seal P c L σ) (view c) (SoundTo seal P bytes) (settled_at c)
  settled_sealed bytes c L σ pos covers sound = record {
    guards = guards_settled (Held seal P c L σ) (view c) c (covers_inside seal P c L σ pos covers) (λ i held. refl);
    all = (sound, tt);
  }

  -- a crash now leaves its sealed prefix
  pub rest_leaves : (b : Blob) → 1 ≤ P → b ≡ settled_at b.content → Leaves seal P (sealed_prefix seal P b.content) (length (sealed_prefix seal P b.content)) b
  rest_leaves b pos is = subst (Leaves seal P (sealed_prefix seal P b.content) (length (sealed_prefix seal P b.content))) (sym is)
      (sealed_leaves seal P b.content (length (sealed_prefix seal P b.content)) (best_slot seal P b.content) (sealed_prefix seal P b.content) (settled_at b.content) pos (best_covers seal P b.content)
      (settled_sealed (sealed_prefix seal P b.content) b.content (length (sealed_prefix seal P b.content)) (best_slot seal P b.content) pos (best_covers seal P b.content) (prefix_sound b.content)))
