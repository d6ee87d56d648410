-- Which records an opening keeps: the first ones of each section, by markers those of the entries, and within a bound so many of these.
use Rattle.std.proofs.Common.{◌≡◌, ℕ, zero, suc, ◌==◌, min, if◌then◌else◌, Bool, true, false, List, [], ◌∷◌, length, take, IsTrue, refl, sym, ◌∙◌, ap, subst, arith, length-take}
use Rattle.std.specs.Prelude.{nat_lt, map}
use Rattle.std.specs.List.{AllByRecursion}
use Rattle.std.proofs.lemmas.List.{take_all, take-take}
use Rattle.blob_device.specs.Disk.{Image}
use Rattle.paired.specs.Kept.{Layout, Markers, marker_of, content_at, stored_records, is_sound_in, kept_by}
use Rattle.paired.specs.Opening.{IsLawful}
use Rattle.paired.specs.Openings.{some_sound, up_to_last, within, lowered, inferred, inferred_at_most, checkpointed, tracked, tracked_at_most, KeepsFirst}
use Rattle.paired.specs.Records.{unbroken_prefix}
use Rattle.paired.specs.lemmas.Kept.{stored_entries}
use Rattle.paired.specs.lemmas.opening.Ends.{prefix_lower, sound_below}
use Rattle.paired.specs.lemmas.Records.{prefix-take}
use Rattle.paired.proofs.opening.Ends.{prefix_of_first}
use Rattle.blob_device.proofs.general.Lists.{all_take}

-- ---- the first ones
first_of_first : {X : Type 0} (last found list : List X) → last ≡ take (length last) found → found ≡ take (length found) list → last ≡ take (length last) list
first_of_first last found list more first =
    more ∙ ap (take (length last)) first ∙ take-take (length last) (length found) list (omega (arith, ap length more, length-take (length last) found))

first_so_many : {X : Type 0} (n : ℕ) (xs : List X) → take n xs ≡ take (length (take n xs)) xs
first_so_many zero xs = refl
first_so_many (suc n) [] = refl
first_so_many {X} (suc n) (x ∷ xs) = ap (λ (ys : List X). x ∷ ys) (first_so_many n xs)

up_to_last_first : (sound : List ℕ → Bool) (rs : List (List ℕ)) → up_to_last sound rs ≡ take (length (up_to_last sound rs)) rs
up_to_last_first sound [] = refl
up_to_last_first sound (r ∷ rs) = step (some_sound sound (r ∷ rs)) (up_to_last sound rs) (up_to_last_first sound rs)
  where
    step : (b : Bool) (tail : List (List ℕ)) → tail ≡ take (length tail) rs → (if b then r ∷ tail else []) ≡ take (length (if b then r ∷ tail else [])) (r ∷ rs)
    step true tail is = ap (λ (xs : List (List ℕ)). r ∷ xs) is
    step false tail is = refl

within_first : {X : Type 0} (section n s : ℕ) (xs : List X) → within section n s xs ≡ take (length (within section n s xs)) xs
within_first {X} section n s xs = step (nat_lt s section) (s == section)
  where
    step : (b e : Bool) → (if b then xs else (if e then take n xs else [])) ≡ take (length (if b then xs else (if e then take n xs else []))) xs
    step true e = sym (take_all (length xs) xs (omega arith))
    step false true = first_so_many n xs
    step false false = refl

module _ (l : Layout) where
  pub inferred_first : KeepsFirst l (inferred l)
  inferred_first image markers s = up_to_last_first (is_sound_in l image s) (stored_records l image s)

  pub checkpointed_first : (section n : ℕ) → KeepsFirst l (checkpointed l section n)
  checkpointed_first section n image markers s = within_first section n s (stored_records l image s)

  pub inferred_at_most_first : (section n : ℕ) → KeepsFirst l (inferred_at_most l section n)
  inferred_at_most_first section n image markers s =
      first_of_first (inferred_at_most l section n image markers s) (within section n s (stored_records l image s)) (stored_records l image s)
      (up_to_last_first (is_sound_in l image s) (within section n s (stored_records l image s))) (within_first section n s (stored_records l image s))

  pub tracked_first : KeepsFirst l (tracked l)
  tracked_first image markers s = prefix-take (is_sound_in l image s) (marker_of markers.entries s) 0 (stored_records l image s)

  pub tracked_at_most_first : (section n : ℕ) → KeepsFirst l (tracked_at_most l section n)
  tracked_at_most_first section n image markers s =
      first_of_first (tracked_at_most l section n image markers s) (within section n s (stored_records l image s)) (stored_records l image s)
      (prefix-take (is_sound_in l image s) (lowered section n s (marker_of markers.entries s)) 0 (within section n s (stored_records l image s))) (within_first section n s (stored_records l image s))

  -- ---- by markers
  -- the records of what is kept
  pub tracked_kept : (image : Image) (markers : Markers) (s : ℕ) → map (λ e. e.stored) (kept_by l image markers s) ≡ tracked l image markers s
  tracked_kept image markers s = stored_entries l.place (content_at image l.values s) (tracked l image markers s)

  -- On a lawful image a bound keeps so many of what all would keep: below a marker all are sound, so a lower one keeps the same.
  module _ (image : Image) (markers : Markers) (lawful : IsLawful l image markers) (section n s : ℕ) where
    pub capped_within : tracked_at_most l section n image markers s ≡ within section n s (tracked l image markers s)
    capped_within = step (nat_lt s section) (s == section) (marker_of markers.entries s) (stored_records l image s) (sound_below l image markers lawful.true_markers s)
      where
        sound : List ℕ → Bool
        sound = is_sound_in l image s

        here : (m : ℕ) (rs : List (List ℕ)) → AllByRecursion (λ r. IsTrue (sound r)) (take m rs) → unbroken_prefix sound (min m n) 0 (take n rs) ≡ take n (unbroken_prefix sound m 0 rs)
        here m rs all =
            prefix_lower sound (min m n) m m 0 (take n rs) (omega arith) (omega arith) (take_both m rs all)
            ∙ prefix_of_first sound m 0 n rs
          where
            swap : (k j : ℕ) (xs : List (List ℕ)) → take k (take j xs) ≡ take j (take k xs)
            swap zero zero xs = refl
            swap zero (suc j) [] = refl
            swap zero (suc j) (x ∷ xs) = refl
            swap (suc k) zero xs = refl
            swap (suc k) (suc j) [] = refl
            swap (suc k) (suc j) (x ∷ xs) = ap (λ (ys : List (List ℕ)). x ∷ ys) (swap k j xs)

            take_both : (m : ℕ) (rs : List (List ℕ)) → AllByRecursion (λ r. IsTrue (sound r)) (take m rs) → AllByRecursion (λ r. IsTrue (sound r)) (take m (take n rs))
            take_both m rs all = subst (AllByRecursion (λ r. IsTrue (sound r))) (swap n m rs) (all_take (λ r. IsTrue (sound r)) n (take m rs) all)

        step : (b e : Bool) (m : ℕ) (rs : List (List ℕ)) → AllByRecursion (λ r. IsTrue (sound r)) (take m rs)
            → unbroken_prefix sound (if b then m else (if e then min m n else 0)) 0 (if b then rs else (if e then take n rs else []))
            ≡ (if b then unbroken_prefix sound m 0 rs else (if e then take n (unbroken_prefix sound m 0 rs) else []))
        step true e m rs all = refl
        step false true m rs all = here m rs all
        step false false m rs all = refl
