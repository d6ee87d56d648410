-- The free places of a blob, counted.
use Rattle.std.proofs.Common.{◌≡◌, inl, inr, ℕ, ◌+◌, ◌<◌, ◌%◌, Bool, cond, List, [], ◌∷◌, ◌++◌, length, get_or, refl, ◌∙◌, ap, arith, add-one}
use Rattle.std.proofs.lemmas.Bool.{cases_lt}
use Rattle.std.proofs.lemmas.List.{get_or_append_left, get_or-append-add}
use Rattle.blob_device.specs.Disk.{Blob}
use Rattle.blob_device.specs.Picked.{is_free, free_below}

pub free_none : (b : Blob) → free_below b 0 ≡ 0
unfolding free_below
free_none b = refl

pub free_more : (b : Blob) (i : ℕ) → free_below b (i + 1) ≡ free_below b i + cond (is_free b i) 1 0
unfolding free_below
free_more b i = ap (free_below b) (add-one i)

pub mod_step : (x k : ℕ) → (x % 64 + k) % 64 ≡ (x + k) % 64
mod_step x k = omega arith

-- the number of the next free place
pub number_more : (b : Blob) (n i number next : ℕ) (free : Bool) → number ≡ (n + free_below b i) % 64 → free ≡ is_free b i → next ≡ (number + cond free 1 0) % 64 → next ≡ (n + free_below b (i + 1)) % 64
number_more b n i number next free is same step =
    step ∙ (λ t. (is t + cond (same t) 1 0) % 64) ∙ mod_step (n + free_below b i) (cond (is_free b i) 1 0)
    ∙ ap (λ (x : ℕ). x % 64) (omega (arith, free_more b i))

-- one byte more
pub bytes_more : (f : ℕ → ℕ) (old new : List ℕ) (x i : ℕ) → new ≡ old ++ x ∷ [] → length old ≡ i → x ≡ f i → ((j : ℕ) → j < i → get_or old j 0 ≡ f j) → (j : ℕ) → j < i + 1 → get_or new j 0 ≡ f j
bytes_more f old new x i is size here before j lt = ap (λ (l : List ℕ). get_or l j 0) is ∙ elim (cases_lt j i) [
  | inl below ↦ get_or_append_left old (x ∷ []) 0 j (omega (arith, below, size)) ∙ before j below
  | inr past ↦ let same : j ≡ length old + 0 = omega (arith, past, lt, size) in let place : i ≡ j = omega (arith, past, lt) in
      ap (λ (k : ℕ). get_or (old ++ x ∷ []) k 0) same ∙ get_or-append-add old (x ∷ []) 0 0 ∙ here ∙ ap f place
]
