-- What stands at a place after a write or a resize. The laws of the device in memory cite these.
use Rattle.std.proofs.Common.{◌≡◌, ◌⊎◌, inl, inr, ℕ, ◌+◌, ◌-◌, ◌<◌, ◌≤◌, List, [], ◌∷◌, ◌++◌, length, get_or, take, drop, replicate, refl, sym, ◌∙◌, ap, arith, length-append, length-take}
use Rattle.std.proofs.Math.ListN.{length-replicate}
use Rattle.std.proofs.lemmas.List.{get_or_append_left, get_or-append_right, get_or-take, get_or-drop, get_or-replicate, get_or_past}
use Rattle.std.proofs.lemmas.Bool.{cases_lt}
use Rattle.blob_device.specs.Disk.{Outside}
use Rattle.blob_device.specs.Change.{written, resized}
use Rattle.blob_device.specs.Lengths.{length-resized}

zeros_at : (n i : ℕ) → ◌≡◌ {A = ℕ} (get_or (replicate n 0) i 0) 0
zeros_at n i = elim (cases_lt i n) [
  | inl inside ↦ get_or-replicate n i 0 0 inside
  | inr past ↦ get_or_past (replicate n 0) i 0 (omega (arith, past, length-replicate {A = ℕ} n 0))
]

-- the old bytes with zeros up to a place
prefix : List ℕ → ℕ → List ℕ
prefix old at = take at old ++ replicate (at - length old) 0

length-prefix : (old : List ℕ) (at : ℕ) → length (prefix old at) ≡ at
unfolding prefix
length-prefix old at = omega (arith, length-append (take at old) (replicate (at - length old) 0), length-take at old, length-replicate {A = ℕ} (at - length old) 0)

prefix_at : (old : List ℕ) (at i : ℕ) → i < at → get_or (prefix old at) i 0 ≡ get_or old i 0
unfolding prefix
prefix_at old at i below = elim (cases_lt i (length (take at old))) [
  | inl inside ↦ get_or_append_left (take at old) (replicate (at - length old) 0) 0 i inside ∙ get_or-take at old i 0 below
  | inr past ↦ get_or-append_right (take at old) (replicate (at - length old) 0) (length (take at old)) i 0 refl past
      ∙ zeros_at (at - length old) (i - length (take at old))
      ∙ sym (get_or_past old i 0 (omega (arith, past, below, length-take at old)))
]

module _ (old : List ℕ) (at : ℕ) (bytes : List ℕ) where
  whole : List ℕ
  whole = prefix old at ++ bytes ++ drop (at + length bytes) old

  is_whole : written old at bytes ≡ prefix old at ++ bytes ++ drop (at + length bytes) old
  unfolding prefix
  is_whole = refl

  length-two : length (prefix old at ++ bytes) ≡ at + length bytes
  length-two = omega (arith, length-append (prefix old at) bytes, length-prefix old at)

  written_prefix : (i : ℕ) → i < at → get_or (written old at bytes) i 0 ≡ get_or old i 0
  written_prefix i below = ap (λ (l : List ℕ). get_or l i 0) is_whole
      ∙ get_or_append_left (prefix old at ++ bytes) (drop (at + length bytes) old) 0 i (omega (arith, below, length-two))
      ∙ get_or_append_left (prefix old at) bytes 0 i (omega (arith, below, length-prefix old at))
      ∙ prefix_at old at i below

  written_back : (i : ℕ) → at + length bytes ≤ i → get_or (written old at bytes) i 0 ≡ get_or old i 0
  written_back i past = ap (λ (l : List ℕ). get_or l i 0) is_whole
      ∙ get_or-append_right (prefix old at ++ bytes) (drop (at + length bytes) old) (at + length bytes) i 0 length-two past
      ∙ get_or-drop (at + length bytes) old (i - (at + length bytes)) 0
      ∙ (let e : at + length bytes + (i - (at + length bytes)) ≡ i = omega (arith, past) in ap (λ (j : ℕ). get_or old j 0) e)

  -- outside the range: as before, also where the blob becomes longer
  pub written_out : (i : ℕ) → (i < at) ⊎ (at + length bytes ≤ i) → get_or (written old at bytes) i 0 ≡ get_or old i 0
  written_out i (inl below) = written_prefix i below
  written_out i (inr past) = written_back i past

  -- in the range: the bytes
  pub written_in : (i : ℕ) → i < length bytes → get_or (written old at bytes) (at + i) 0 ≡ get_or bytes i 0
  written_in i below = ap (λ (l : List ℕ). get_or l (at + i) 0) is_whole
      ∙ get_or_append_left (prefix old at ++ bytes) (drop (at + length bytes) old) 0 (at + i) (omega (arith, below, length-two))
      ∙ get_or-append_right (prefix old at) bytes at (at + i) 0 (length-prefix old at) (omega arith)
      ∙ (let e : at + i - at ≡ i = omega arith in ap (λ (j : ℕ). get_or bytes j 0) e)

pub resized_below : (old : List ℕ) (n i : ℕ) → i < n → get_or (resized old n) i 0 ≡ get_or old i 0
unfolding prefix
resized_below old n i below = prefix_at old n i below

pub resized_past : (old : List ℕ) (n i : ℕ) → n ≤ i → get_or (resized old n) i 0 ≡ 0
resized_past old n i past = get_or_past (resized old n) i 0 (omega (arith, past, length-resized old n))

-- outside one range more
pub outside_before : (rs : List (ℕ × ℕ)) (at n i : ℕ) → Outside (rs ++ (at, n) ∷ []) i → Outside rs i × ((i < at) ⊎ (at + n ≤ i))
outside_before [] at n i out = (tt, out.0)
outside_before (r ∷ rs) at n i out = let rest = outside_before rs at n i out.1 in ((out.0, rest.0), rest.1)
