-- Two numbers are the same, or not.
use Rattle.std.proofs.Common.{◌≡◌, ◌≢◌, ◌⊎◌, inl, inr, refl, ℕ, Bool, true, false, ◌==◌, arith}
use Rattle.std.proofs.lemmas.Bool.Decides.{nat_tests}

-- a number is another one, or the same
pub other_or_same : (s t : ℕ) → (t ≡ s) ⊎ (t ≢ s)
other_or_same s t = go (t == s) refl
  where
    go : (b : Bool) → (t == s) ≡ b → (t ≡ s) ⊎ (t ≢ s)
    go true is = inl (grind (arith, nat_tests, is))
    go false is = inr (λ same. grind (arith, nat_tests, is, same))
