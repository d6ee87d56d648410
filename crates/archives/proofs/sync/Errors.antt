-- What an archive answers where a sync of its pair failed.
use Rattle.std.proofs.Common.{◌≡◌, ◌⊎◌, inl, inr, sym, ◌∙◌, ap, subst, ℕ, ◌+◌, ◌^◌, ◌≤◌, Result, Err}
use Rattle.std.specs.Result.{IsErrOf}
use Rattle.blob_device.specs.Counts.{Rose}
use Rattle.blob_device.specs.declared.runtime.RError.TheVariants.{Fault}
use Rattle.meta_store.specs.declared.error.Error.TheVariants as store
use Rattle.sealed_pages.specs.declared.page_blob.PageBlob.{PageBlob}
use Rattle.section_manager.specs.declared.journal.Error as journal
use Rattle.section_manager.specs.declared.journal.Error.TheVariants as section
use Rattle.section_manager.specs.Refusing.{IsPruned}
use Rattle.section_manager.specs.Refusing as refusing
use Rattle.paired.specs.PairFaults.{StopsAtMarkers}
use Rattle.paired.specs.PairRefusing as pair
use Rattle.archives.specs.Archives.{Archive}
use Rattle.archives.specs.Changes.{outcome}
use Rattle.archives.specs.Raised.{raised}
use Rattle.archives.specs.Syncing.{IsMoving}
use Rattle.archives.specs.Syncs.{IsOfMarkers, IsSyncCause}
use Rattle.archives.specs.declared.error.Error.{Error}

abbrev pub error_in : (U : Type 0) → journal.Error → Result U journal.Error
error_in U e = Err e

error_same : {U : Type 0} (e x : journal.Error) → error_in U e ≡ error_in U x → e ≡ x
error_same e x is = cc is

-- an error that is known is the answer
pub known_error : {T U : Type 0} (r : Result T Error) (e x : Error) → r ≡ Err e → IsErrOf {T = U} (Err e) x → r ≡ Err x
known_error {T} r e x is known = (let err : Error → Result T Error = λ y. Err y in let same : e ≡ x = cc known in is ∙ ap err same)

-- a result that fails is seen to fail
pub outcome_err : {T U E : Type 0} (see : T → U) (r : Result T E) (e : E) → r ≡ Err e → outcome see r ≡ Err e
outcome_err see r e is = ap (outcome see) is

-- What is said of the archive's error holds, where it holds of each that a pair's call comes to which stops for want of memory, or where the
-- device failed, in a call of the records or values, or of the markers.
pub raised_by : (U : Type 0) (e : journal.Error) (before now : ℕ) (Says : Error → Type 0) → refusing.HasFailed (error_in U e) before now ⊎ pair.HasLostMarkers (error_in U e) before now
    → Says (raised section.Mem) → (Rose before now → Says (raised (section.Runtime Fault))) → (pair.HasLostMarkers (error_in U e) before now → Says (raised (section.Metadata (store.Runtime Fault)))) → Says (raised e)
raised_by U e before now Says why memory fault lost = elim why [
  | inl (inl is) ↦ carried section.Mem is memory
  | inl (inr failed) ↦ carried (section.Runtime Fault) failed.0 (fault failed.1)
  | inr gone ↦ carried (section.Metadata (store.Runtime Fault)) gone.0 (lost gone)
]
  where
    carried : (x : journal.Error) → IsErrOf (error_in U e) x → Says (raised x) → Says (raised e)
    carried x is says = subst (λ (y : journal.Error). Says (raised y)) (sym (error_same {U = U} e x is)) says

-- or where the markers have no next version
pub raised_or_full : (U : Type 0) (e : journal.Error) (before now : ℕ) (Says : Error → Type 0) → IsErrOf (error_in U e) section.Full ⊎ (refusing.HasFailed (error_in U e) before now ⊎ pair.HasLostMarkers (error_in U e) before now)
    → (IsErrOf (error_in U e) section.Full → Says (raised section.Full)) → Says (raised section.Mem) → (Rose before now → Says (raised (section.Runtime Fault)))
    → (pair.HasLostMarkers (error_in U e) before now → Says (raised (section.Metadata (store.Runtime Fault)))) → Says (raised e)
raised_or_full U e before now Says why full memory fault lost = elim why [
  | inl is ↦ subst (λ (y : journal.Error). Says (raised y)) (sym (error_same {U = U} e section.Full is)) (full is)
  | inr other ↦ raised_by U e before now Says other memory fault lost
]

-- why a sync of a pair fails
abbrev pub WhyStopped : (U : Type 0) → journal.Error → ℕ → ℕ → ℕ → Type 0
WhyStopped U e floor a b = IsPruned (error_in U e) floor ⊎ (IsErrOf (error_in U e) section.Full ⊎ (refusing.HasFailed (error_in U e) a b ⊎ pair.HasLostMarkers (error_in U e) a b))

module _ {F S : Type 0} {gs : _} (a : Archive F (PageBlob S gs)) (U : Type 0) (e : journal.Error) (floor before now : ℕ) (why : WhyStopped U e floor before now) (unpruned : IsPruned (error_in U e) floor → ⊥) where
  -- the archive's cause is the pair's
  pub stopped_cause : (IsErrOf (error_in U e) section.Full → (2 ^ 64 ≤ a.pair.store.version + 1) × IsMoving a) → (pair.HasLostMarkers (error_in U e) before now → IsMoving a) → IsSyncCause a before now (raised e)
  stopped_cause full lost = elim why [
    | inl pruned ↦ absurd (unpruned pruned)
    | inr other ↦ raised_or_full U e before now (IsSyncCause a before now) other full tt (λ rose. rose) (λ gone. (gone.1, lost gone))
  ]

  -- it stopped at the markers where the pair did
  pub stopped_at : IsOfMarkers (raised e) → StopsAtMarkers (error_in U e) before now
  stopped_at = elim why [
    | inl pruned ↦ absurd (unpruned pruned)
    | inr other ↦ raised_or_full U e before now (λ x. IsOfMarkers x → StopsAtMarkers (error_in U e) before now) other (λ is at. inl is)
        (λ at. absurd (elim at [ inl one ↦ cc one | inr two ↦ cc two ])) (λ rose at. absurd (elim at [ inl one ↦ cc one | inr two ↦ cc two ])) (λ gone at. inr gone)
  ]
