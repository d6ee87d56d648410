-- How the places that records name follow each other.
use Rattle.std.specs.Prelude.{◌≡◌, ℕ, ◌+◌, ◌≤◌, List, [], ◌∷◌}

-- The places that records name begin here, each follows the one before and has at least four bytes, and there they end.
abbrev pub Follow : (List ℕ → ℕ × ℕ) → ℕ → List (List ℕ) → ℕ → Type 0
Follow place at [] end = at ≡ end
Follow place at (r ∷ rs) end = ((place r).0 ≡ at) × (4 ≤ (place r).1) × Follow place (at + (place r).1) rs end

-- where the places of these records end
abbrev pub end_of : (List ℕ → ℕ × ℕ) → ℕ → List (List ℕ) → ℕ
end_of place at [] = at
end_of place at (r ∷ rs) = end_of place (at + (place r).1) rs

-- where the place of the last of these records ends, 0 where there is none
abbrev pub last_end : (List ℕ → ℕ × ℕ) → List (List ℕ) → ℕ
last_end place [] = 0
last_end place (r ∷ []) = (place r).0 + (place r).1
last_end place (r ∷ s ∷ rs) = last_end place (s ∷ rs)
