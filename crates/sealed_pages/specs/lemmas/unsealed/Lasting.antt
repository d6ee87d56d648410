-- No place is in a run of no bytes.
use Rattle.std.proofs.Common.{◌≡◌, ◌⊎◌, inl, inr, ℕ, ◌+◌, ◌<◌, ◌≤◌, List, [], ◌∷◌, length, sym, subst, arith}
use Rattle.std.proofs.lemmas.Bool.{cases_lt}
use Rattle.blob_device.specs.Disk.{Outside}
use Rattle.sealed_pages.specs.unsealed.Writing.{WriteBuffer, run_of}

pub nowhere : (at i : ℕ) → (i < at) ⊎ (at + 0 ≤ i)
nowhere at i = elim (cases_lt i at) [ inl before ↦ inl before | inr from ↦ inr (omega (arith, from)) ]

pub outside_none : (r : WriteBuffer) → r.pending ≡ [] → (i : ℕ) → Outside (run_of r ∷ []) i
outside_none r none i = (subst (λ (l : List ℕ). (i < r.at) ⊎ (r.at + length l ≤ i)) (sym none) (nowhere r.at i), tt)
