-- What an append of the pair answers where it fails, and what the archive answers then.
use Rattle.std.proofs.Common.{◌≡◌, ◌⊎◌, inl, inr, ℕ, Result, Err}
use Rattle.std.specs.Result.{IsErrOf}
use Rattle.section_manager.specs.Refusing.{HasFailed, IsPruned}
use Rattle.section_manager.specs.declared.journal.Error as journal
use Rattle.section_manager.specs.declared.journal.Error.TheVariants as section
use Rattle.archives.specs.Raised.{raised}
use Rattle.archives.specs.declared.error.Error.{Error}
use Rattle.archives.specs.declared.error.Error.TheVariants.{Full, Journal}

module _ {T U : Type 0} (e : journal.Error) (inner : Result T journal.Error) (outer : Result U Error) (inside : inner ≡ Err e) (answer : outer ≡ Err (raised e)) where
  -- the archive answers what it makes of the pair's error
  pub answers : (x : journal.Error) → IsErrOf inner x → IsErrOf outer (raised x)
  answers x is = cc

  -- Where the archive answers `Full` the pair did.
  pub full_from : (floor before now : ℕ) → (IsPruned inner floor → ⊥)
      → IsErrOf inner section.ValueTooLarge ⊎ (IsPruned inner floor ⊎ (IsErrOf inner section.Full ⊎ HasFailed inner before now))
      → IsErrOf outer Full → IsErrOf inner section.Full
  full_from floor before now not_pruned cause is = elim cause [
    | inl large ↦ (let other = answers section.ValueTooLarge large in absurd (cc (is, other)))
    | inr (inl pruned) ↦ absurd (not_pruned pruned)
    | inr (inr (inl full)) ↦ full
    | inr (inr (inr (inl memory))) ↦ (let other = answers section.Mem memory in absurd (cc (is, other)))
    | inr (inr (inr (inr fault))) ↦ (let other = answers _ fault.0 in absurd (cc (is, other)))
  ]

  -- Where the archive answers that the value is too large the pair did.
  pub large_from : (floor before now : ℕ) → (IsPruned inner floor → ⊥)
      → IsErrOf inner section.ValueTooLarge ⊎ (IsPruned inner floor ⊎ (IsErrOf inner section.Full ⊎ HasFailed inner before now))
      → IsErrOf outer (Journal section.ValueTooLarge) → IsErrOf inner section.ValueTooLarge
  large_from floor before now not_pruned cause is = elim cause [
    | inl large ↦ large
    | inr (inl pruned) ↦ absurd (not_pruned pruned)
    | inr (inr (inl full)) ↦ (let other = answers section.Full full in absurd (cc (is, other)))
    | inr (inr (inr (inl memory))) ↦ (let other = answers section.Mem memory in absurd (cc (is, other)))
    | inr (inr (inr (inr fault))) ↦ (let other = answers _ fault.0 in absurd (cc (is, other)))
  ]

-- a result has one error
pub two_errors : {T E : Type 0} (x y : E) (r : Result T E) → (x ≡ y → ⊥) → IsErrOf r x → IsErrOf r y → ⊥
two_errors x y r other is also = (let same : x ≡ y = cc in other same)
