-- Names of one letter each, which differ.
use Rattle.std.proofs.Common.{◌≡◌, ◌≢◌, ℕ, List, [], ◌∷◌, get_or, ◌∙◌, sym, ap}

pub apart_by : {a b : List ℕ} (x y : ℕ) → a ≡ x ∷ [] → b ≡ y ∷ [] → x ≢ y → a ≢ b
apart_by x y is_a is_b other same = other (ap (λ (l : List ℕ). get_or l 0 0) (sym is_a ∙ same ∙ is_b))
