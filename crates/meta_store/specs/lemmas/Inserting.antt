-- What is retained of the entries of a map is no more than there were.
use Rattle.std.proofs.Common.{◌≡◌, ◌≤◌, length, arith, Bool, true, false, cond, List, [], ◌∷◌, ap}
use Rattle.meta_store.specs.Entries.{Retained}

-- one entry, and what is kept of the others
fewer_by : {X : Type 0} (b : Bool) (e : X) (es kept rest : List X) → kept ≡ cond b (e ∷ rest) rest → length rest ≤ length es → length kept ≤ length (e ∷ es)
fewer_by true e es kept rest is fewer = omega (arith, ap length is, fewer)
fewer_by false e es kept rest is fewer = omega (arith, ap length is, fewer)

pub retained_fewer : {K V : Type 0} (answers : K → V → Bool → Type 0) (es kept : List (K × V)) → Retained answers es kept → length kept ≤ length es
retained_fewer answers [] kept ran = omega (arith, ap length ran)
retained_fewer answers (e ∷ es) kept ran = fewer_by ran.0 e es kept ran.1 ran.4 (retained_fewer answers es ran.1 ran.3)
