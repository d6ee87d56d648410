-- The error of a call of a fixed journal, passed on by the call above it: the same cause.
use Rattle.std.proofs.Common.{◌≡◌, ◌⊎◌, ◌↔◌, inl, inr, ℕ, Result, Ok, Err, OnErr}
use Rattle.std.specs.Result.{IsErrOf}
use Rattle.section_manager.specs.declared.journal.Error.{Error}
use Rattle.section_manager.specs.Refusing.{IsPruned, HasFailed}
use Rattle.blob_device.proofs.general.Results.{err_with}

-- want of memory, or a fault
pub failed_on : {T U : Type 0} (r : Result T Error) (e : Error) (n m : ℕ) → r ≡ Err e → HasFailed {T = U} (Err e) n m → HasFailed r n m
failed_on r e n m is failed = elim failed [
  | inl none ↦ inl (cc (is, none))
  | inr fault ↦ (let h = fault.0 in inr (cc (is, h), fault.1))
]

-- a section below the floor, or such a failure
pub pruned_on : {T U : Type 0} (r : Result T Error) (e : Error) (floor n m : ℕ) → r ≡ Err e
    → IsPruned {T = U} (Err e) floor ⊎ HasFailed {T = U} (Err e) n m → OnErr r (IsPruned r floor ⊎ HasFailed r n m)
pruned_on {U = U} r e floor n m is cause = err_with r (elim cause [
  | inl pruned ↦ inl (cc (is, pruned))
  | inr failed ↦ inr (failed_on {U = U} r e n m is failed)
])

-- a call that ended well has no error
pub no_error : {T : Type 0} (v : T) (e : Error) → IsErrOf (Ok v) e → ⊥
no_error v e is = cc is

-- the same error of an answer of another type
pub same_error : {T U : Type 0} (r : Result T Error) (e x : Error) → r ≡ Err e → IsErrOf {T = U} (Err e) x → IsErrOf r x
same_error r e x is of = cc (is, of)

pub error_back : {T U : Type 0} (r : Result T Error) (e x : Error) → r ≡ Err e → IsErrOf r x → IsErrOf {T = U} (Err e) x
error_back r e x is of = cc (is, of)

-- the same bound is refused
pub guard_on : {T U : Type 0} (r : Result T Error) (e : Error) (floor : ℕ) (X : Type 0) → r ≡ Err e
    → IsPruned {T = U} (Err e) floor ↔ X → IsPruned r floor ↔ X
guard_on r e floor X is guard = (λ pruned. guard.0 (error_back r e _ is pruned), λ x. same_error r e _ is (guard.1 x))

pub guard_ok : {T U : Type 0} (v : T) (w : U) (floor : ℕ) (X : Type 0) → IsPruned (Ok w) floor ↔ X → IsPruned (Ok v) floor ↔ X
guard_ok v w floor X guard = (λ pruned. absurd (no_error v _ pruned), λ x. absurd (no_error w _ (guard.1 x)))
