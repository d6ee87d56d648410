-- The three steps of a cut inside a page, one after the other.
use Rattle.std.proofs.Common.{◌≡◌, ℕ, ◌+◌, ◌*◌, ◌^◌, ◌<◌, ◌≤◌, min, not, Bool, true, false, List, length, take, drop, refl, sym, ◌∙◌, ap, subst, arith, length-take, length-drop}
use Rattle.std.proofs.lemmas.List.{get_or-take, get_or-drop, ext_get_or}
use Rattle.blob_device.specs.Disk.{Key}
use Rattle.blob_device.specs.Change.{written}
use Rattle.blob_device.specs.Timeline.{Timeline}
use Rattle.sealed_pages.specs.ChanceSeal.{Sealing}
use Rattle.sealed_pages.specs.SealedPrefix.{sealed_prefix}
use Rattle.sealed_pages.specs.Slots.{slot_length, page_length, best_slot, slot_bytes}
use Rattle.sealed_pages.specs.View.{page_at, slot_at}
use Rattle.sealed_pages.proofs.cutting.Calls.{sealing_then}
use Rattle.sealed_pages.specs.lemmas.cutting.Calls.{sealing_less, sealing_whole}
use Rattle.sealed_pages.specs.lemmas.cutting.Cuts.{cut_best, cut_page, cut_prefix, short_length, short_prefix, short_whole, six_end}
use Rattle.sealed_pages.specs.lemmas.slots.Slot.{page_next}
use Rattle.sealed_pages.specs.lemmas.slots.SlotSteps.{length-slot_bytes}
use Rattle.blob_device.proofs.general.Numbers.{times_next}
use Rattle.sealed_pages.specs.lemmas.cutting.Steps.{other_not}

pub not_not : (b : Bool) → not (not b) ≡ b
not_not true = refl
not_not false = refl

-- bytes of a page, in the content and in its cut
part_of_cut : (c : List ℕ) (n at r : ℕ) → at + r ≤ n → take r (drop at (take n c)) ≡ take r (drop at c)
part_of_cut c n at r le = ext_get_or 0 (take r (drop at (take n c))) (take r (drop at c))
    (omega (arith, length-take r (drop at (take n c)), length-drop at (take n c), length-take n c, length-take r (drop at c), length-drop at c, le))
    (λ i lt. let inside : i < r = omega (arith, lt, length-take r (drop at (take n c))) in
    get_or-take r (drop at (take n c)) i 0 inside ∙ get_or-drop at (take n c) i 0 ∙ get_or-take n c (at + i) 0 (omega (arith, inside, le)) ∙ sym (get_or-take r (drop at c) i 0 inside ∙ get_or-drop at c i 0))

module _ (seal : List ℕ → ℕ) (P : ℕ) (pos : 1 ≤ P) (c0 : List ℕ) (j : ℕ) (old : Bool) (page : List ℕ) (fits : (x : List ℕ) → seal x < 2 ^ 32) (small : P < 2 ^ 16) (some : 0 < length page) (short : length page < P) (own : best_slot seal P c0 j ≡ old)
    (covered : length page ≤ page_length seal P c0 j) (page_is : page ≡ take (length page) (drop (page_at P j) c0)) (inside : j * P + length page ≤ length (sealed_prefix seal P c0)) where
  -- once later pages are gone
  module _ (c1 : List ℕ) (cut : c1 ≡ take (page_at P (j + 1)) c0) where
    near : j < j + 1
    near = omega arith

    pub last1 : length c1 ≤ page_at P (j + 1)
    last1 = omega (arith, ap length cut, length-take (page_at P (j + 1)) c0)

    pub own1 : best_slot seal P c1 j ≡ not (not old)
    own1 = ap (λ (c : List ℕ). best_slot seal P c j) cut ∙ cut_best seal P c0 (j + 1) j near ∙ own ∙ sym (not_not old)

    pub covered1 : length page ≤ page_length seal P c1 j
    covered1 = omega (arith, covered, ap (λ (c : List ℕ). page_length seal P c j) cut, cut_page seal P c0 (j + 1) j near)

    pub page_is1 : page ≡ take (length page) (drop (page_at P j) c1)
    page_is1 = page_is ∙ sym (part_of_cut c0 (page_at P (j + 1)) (page_at P j) (length page) (omega (arith, short, page_next P j))) ∙ ap (λ (c : List ℕ). take (length page) (drop (page_at P j) c)) (sym cut)

    pub prefix1 : sealed_prefix seal P c1 ≡ take ((j + 1) * P) (sealed_prefix seal P c0)
    prefix1 = ap (sealed_prefix seal P) cut ∙ cut_prefix seal P c0 (j + 1) pos

    pub inside1 : j * P + length page ≤ length (sealed_prefix seal P c1)
    inside1 = omega (arith, ap length prefix1, length-take ((j + 1) * P) (sealed_prefix seal P c0), inside, short, times_next j P)

    -- once the shorter slot stands beside the old one
    module _ (c2 : List ℕ) (both : c2 ≡ written c1 (slot_at P j (not old)) (slot_bytes seal P page)) where
      own_old : best_slot seal P c1 j ≡ old
      own_old = own1 ∙ not_not old

      pub last2 : length c2 ≤ page_at P (j + 1)
      last2 = omega (
        arith,
        ap length both,
        six_end seal P c1 j old (not old) (slot_bytes seal P page) (length-slot_bytes seal P page) (other_not old)
            (short_whole seal P c1 j old (not old) page fits small pos some own_old (other_not old) covered1 last1 page_is1) last1,
      )

      pub own2 : slot_length seal P c2 j (not old) ≡ length page
      own2 = ap (λ (c : List ℕ). slot_length seal P c j (not old)) both ∙ short_length seal P c1 j old (not old) page fits small pos some own_old (other_not old) covered1 last1 page_is1

      pub prefix2 : sealed_prefix seal P c2 ≡ take ((j + 1) * P) (sealed_prefix seal P c0)
      prefix2 = ap (sealed_prefix seal P) both ∙ short_prefix seal P c1 j old (not old) page fits small pos some own_old (other_not old) covered1 last1 page_is1 ∙ prefix1

      pub inside2 : j * P + length page ≤ length (sealed_prefix seal P c2)
      inside2 = omega (arith, ap length prefix2, length-take ((j + 1) * P) (sealed_prefix seal P c0), inside, short, times_next j P)

  -- the moments of each step, over all bytes
  pub first_any : (key : Key) (a b : Timeline) → Sealing seal P (sealed_prefix seal P c0) (min ((j + 1) * P) (length (sealed_prefix seal P c0))) key a b → Sealing seal P (sealed_prefix seal P c0) (j * P + length page) key a b
  first_any key a b sealing = sealing_less seal P (sealed_prefix seal P c0) (min ((j + 1) * P) (length (sealed_prefix seal P c0))) (j * P + length page) key a b (omega (arith, inside, short, times_next j P)) sealing

  pub later_any : (bytes : List ℕ) (L : ℕ) (key : Key) (a b : Timeline) → bytes ≡ take ((j + 1) * P) (sealed_prefix seal P c0) → j * P + length page ≤ L → Sealing seal P bytes L key a b → Sealing seal P (sealed_prefix seal P c0) (j * P + length page) key a b
  later_any bytes L key a b is le sealing = sealing_whole seal P (sealed_prefix seal P c0) ((j + 1) * P) (j * P + length page) key a b
      (subst (λ (l : List ℕ). Sealing seal P l (j * P + length page) key a b) is (sealing_less seal P bytes L (j * P + length page) key a b le sealing))

  pub both_any : (key : Key) (a b d : Timeline) → Sealing seal P (sealed_prefix seal P c0) (j * P + length page) key a b → Sealing seal P (sealed_prefix seal P c0) (j * P + length page) key b d → Sealing seal P (sealed_prefix seal P c0) (j * P + length page) key a d
  both_any key a b d first second = sealing_then seal P (sealed_prefix seal P c0) (j * P + length page) key a b d first second
