-- Which form a map with this floor is written in.
use Rattle.std.proofs.Common.{◌≡◌, ◌≢◌, ℕ, zero, suc, refl, ap}
use Rattle.meta_store.specs.declared.copy.Form.TheVariants.{Plain, Floored}
use Rattle.meta_store.specs.Copies.{form_of}

-- ---- the form of a floor

pub form_above : (floor : ℕ) → floor ≢ 0 → form_of floor ≡ Floored floor
form_above zero above = absurd (above refl)
form_above (suc n) above = refl

pub form_at_zero : (floor : ℕ) → floor ≡ 0 → form_of floor ≡ Plain 1
form_at_zero floor is = ap form_of is

-- the form of a floor is neither another number, nor floor 0
pub no_floor_of : (number floor : ℕ) → number ≢ 1 → Plain number ≢ form_of floor
no_floor_of number zero other same = other (cc same)
no_floor_of number (suc n) other same = absurd (cc same)

pub none_at_zero : (zero_floor floor : ℕ) → zero_floor ≡ 0 → Floored zero_floor ≢ form_of floor
none_at_zero z zero is same = absurd (cc same)
none_at_zero z (suc n) is same = let e : z ≡ suc n = cc same in absurd (cc (is, e))
