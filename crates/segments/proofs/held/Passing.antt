-- What a call of a fixed journal whose error was passed on does not answer, and why the last step of an opening fails.
use Rattle.std.proofs.Common.{◌≡◌, ◌⊎◌, ◌≤◌, inl, inr, ℕ, List, Result, Ok, Err, sym, subst, OnErr, IfOk}
use Rattle.std.specs.Result.{IsErr, IsErrOf}
use Rattle.section_manager.specs.declared.journal.Error.{Error}
use Rattle.section_manager.specs.declared.journal.Error.TheVariants.{InvalidBlobName, Corruption, Codec, Mem}
use Rattle.section_manager.specs.declared.journal.Damage.{Damage}
use Rattle.value_codec.specs.declared.codec.Error as codec
use Rattle.section_manager.specs.Refusing.{IsPruned, HasDamage, HasFailed}
use Rattle.segments.specs.lemmas.replay.Reading.{failed_since}
use Rattle.blob_device.proofs.general.Results.{err_with}
use Rattle.segments.specs.lemmas.held.Passing.{failed_on, same_error}

-- nothing is said of the value of a call that failed
pub no_value : {T E : Type 0} (P : T → Type 0) (r : Result T E) → IsErr r → IfOk r P
no_value P (Ok v) is = absurd (cc is)
no_value P (Err e) is = tt

-- a section below the floor, a damaged page, or such a failure
pub cut_on : {T U : Type 0} (r : Result T Error) (e : Error) (floor n m : ℕ) → r ≡ Err e
    → IsPruned {T = U} (Err e) floor ⊎ (HasDamage {T = U} (Err e) ⊎ HasFailed {T = U} (Err e) n m)
    → OnErr r (IsPruned r floor ⊎ (HasDamage r ⊎ HasFailed r n m))
cut_on {U = U} r e floor n m is cause = err_with r (elim cause [
  | inl pruned ↦ inl (same_error r e _ is pruned)
  | inr (inl damage) ↦ inr (inl (damage.0, same_error r e _ is damage.1))
  | inr (inr failed) ↦ inr (inr (failed_on {U = U} r e n m is failed))
])

-- the same of another spelling of the result of an opening
pub foreign_on : {T : Type 0} (r q : Result T Error) (n m : ℕ) → r ≡ q
    → OnErr q (((x : List ℕ) × IsErrOf q (InvalidBlobName x)) ⊎ HasFailed q n m)
    → OnErr r (((x : List ℕ) × IsErrOf r (InvalidBlobName x)) ⊎ HasFailed r n m)
foreign_on {T = T} r q n m is cause =
    subst (λ (y : Result T Error). OnErr y (((x : List ℕ) × IsErrOf y (InvalidBlobName x)) ⊎ HasFailed y n m)) (sym is) cause

-- what only fails so names no blob
pub never_named : {T : Type 0} (r : Result T Error) (n m : ℕ) (x : List ℕ) → OnErr r (HasFailed r n m) → IsErrOf r (InvalidBlobName x) → ⊥
never_named (Ok v) n m x failed is = cc is
never_named (Err e) n m x failed is = elim failed [ inl none ↦ cc (none, is) | inr fault ↦ (let h = fault.0 in cc (h, is)) ]

-- A marker's check failed: a damaged item, one that is none, or as any call of the device.
module _ {T U : Type 0} (r : Result T Error) (e : Error) (n m l : ℕ) (is : r ≡ Err e)
    (cause : ((x : Damage) × IsErrOf {T = U} (Err e) (Corruption x)) ⊎ (((x : codec.Error) × IsErrOf {T = U} (Err e) (Codec x)) ⊎ HasFailed {T = U} (Err e) m l)) where
  pub checked_on : n ≤ m
      → OnErr r (((x : List ℕ) × IsErrOf r (InvalidBlobName x)) ⊎ (((x : Damage) × IsErrOf r (Corruption x))
      ⊎ (((x : codec.Error) × IsErrOf r (Codec x)) ⊎ HasFailed r n l)))
  checked_on le = err_with r (elim cause [
    | inl (x, damage) ↦ inr (inl (x, cc (is, damage)))
    | inr (inl (x, refused)) ↦ inr (inr (inl (x, cc (is, refused))))
    | inr (inr failed) ↦ inr (inr (inr (failed_since r n m l le (failed_on {U = U} r e m l is failed))))
  ])

  pub checked_named : (x : List ℕ) → IsErrOf r (InvalidBlobName x) → ⊥
  checked_named x named = elim cause [
    | inl (y, damage) ↦ cc (is, damage, named)
    | inr (inl (y, refused)) ↦ cc (is, refused, named)
    | inr (inr (inl none)) ↦ cc (is, none, named)
    | inr (inr (inr (fault, rose))) ↦ cc (is, fault, named)
  ]

-- The last step fails by damage, or for want of memory.
pub owing_cause : {U : Type 0} (e : Error) (m l : ℕ) → ((x : Damage) × IsErrOf {T = U} (Err e) (Corruption x)) ⊎ IsErrOf {T = U} (Err e) Mem
    → ((x : Damage) × IsErrOf {T = U} (Err e) (Corruption x)) ⊎ (((x : codec.Error) × IsErrOf {T = U} (Err e) (Codec x)) ⊎ HasFailed {T = U} (Err e) m l)
owing_cause e m l cause = elim cause [ inl damage ↦ inl damage | inr none ↦ inr (inr (inl none)) ]

pub owing_coded : {T U : Type 0} (r : Result T Error) (e : Error) (x : codec.Error) → r ≡ Err e
    → ((x : Damage) × IsErrOf {T = U} (Err e) (Corruption x)) ⊎ IsErrOf {T = U} (Err e) Mem → IsErrOf r (Codec x) → ⊥
owing_coded r e x is cause refused = elim cause [ inl (y, damage) ↦ cc (is, damage, refused) | inr none ↦ cc (is, none, refused) ]

-- The opening failed.
pub opening_on : {T U : Type 0} (r : Result T Error) (e : Error) (n m : ℕ) → r ≡ Err e
    → ((x : List ℕ) × IsErrOf {T = U} (Err e) (InvalidBlobName x)) ⊎ HasFailed {T = U} (Err e) n m
    → OnErr r (((x : List ℕ) × IsErrOf r (InvalidBlobName x)) ⊎ (((x : Damage) × IsErrOf r (Corruption x))
    ⊎ (((x : codec.Error) × IsErrOf r (Codec x)) ⊎ HasFailed r n m)))
opening_on {U = U} r e n m is cause = err_with r (elim cause [
  | inl (x, named) ↦ inl (x, cc (is, named))
  | inr failed ↦ inr (inr (inr (failed_on {U = U} r e n m is failed)))
])
