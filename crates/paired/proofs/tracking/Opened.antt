-- What an opening of the markers that failed says, of a result that is its error.
use Rattle.std.proofs.Common.{◌≡◌, ◌⊎◌, inl, inr, ℕ, List, Result, Ok, Err, OnErr, ◌∙◌, ap, subst}
use Rattle.std.specs.Result.{IsErrOf, MatchResult}
use Rattle.blob_device.specs.Timeline.{disk}
use Rattle.blob_device.specs.declared.device.Device as device
use Rattle.blob_device.specs.declared.runtime.RError.TheVariants as runtime
use Rattle.meta_store.specs.declared.error.Error.{Error}
use Rattle.meta_store.specs.declared.error.Error.TheVariants.{Runtime, Corruption, Full, Mem}
use Rattle.meta_store.specs.declared.error.Side.{Side}
use Rattle.meta_store.specs.declared.pair.Chosen.{Chosen}
use Rattle.meta_store.specs.Calls.{GaveUp, IsFailure}
use Rattle.meta_store.specs.Format.{Format}
use Rattle.meta_store.specs.Opening.{IsOpeningCause, NotOpened, PairOn}
use Rattle.paired.proofs.opening.StartCauses.{match_err}
use Rattle.blob_device.proofs.general.Results.{err_with}

pub gave_up : {T : Type 0} (r : Result T Error) (e : Error) (before now : ℕ) → r ≡ Err e → IsFailure before now e → GaveUp r before now
gave_up {T = T} r e before now is (inl short) = let f : Error → Result T Error = λ y. Err y in inl (is ∙ ap f short)
gave_up {T = T} r e before now is (inr fault) = let f : Error → Result T Error = λ y. Err y in inr (is ∙ ap f fault.0, fault.1)

module _ {K V C D T : Type 0} (dev : device.Ghosts D) (f : C → Format K V) (config : C) (p : List ℕ) (old new : D) (r : Result T Error) (e : Error) (is : r ≡ Err e) (no : NotOpened dev f config p old new e) where
  pub corrupt_of : dev.Tells → (side : Side) → IsErrOf r (Corruption side) → PairOn (f config) p (disk (dev.time old)) (Err side)
  corrupt_of t side has = let same : e ≡ Corruption side = cc (is, has) in subst (IsOpeningCause dev f config p old new) same no.cause t

  pub map_of : (P : T → Type 0) → dev.Tells → (chosen : Chosen K V) → PairOn (f config) p (disk (dev.time old)) (Ok chosen) → MatchResult r P (λ _. GaveUp r (dev.faults old) (dev.faults new))
  map_of P t chosen pair = match_err r e _ _ is (gave_up r e (dev.faults old) (dev.faults new) is (no.complete t chosen pair))

  pub refused_of : dev.Tells → (side : Side) → PairOn (f config) p (disk (dev.time old)) (Err side) → (r ≡ Err (Corruption side)) ⊎ GaveUp r (dev.faults old) (dev.faults new)
  refused_of t side pair = either (no.refused t side pair)
    where
      either : (e ≡ Corruption side) ⊎ IsFailure (dev.faults old) (dev.faults new) e → (r ≡ Err (Corruption side)) ⊎ GaveUp r (dev.faults old) (dev.faults new)
      either (inl same) = let g : Error → Result T Error = λ y. Err y in inl (is ∙ ap g same)
      either (inr failure) = inr (gave_up r e (dev.faults old) (dev.faults new) is failure)

  pub cause_of : OnErr r (((side : Side) × (r ≡ Err (Corruption side))) ⊎ GaveUp r (dev.faults old) (dev.faults new))
  cause_of = err_with r (by_error e is no.cause)
    where
      by_error : (x : Error) → r ≡ Err x → IsOpeningCause dev f config p old new x → ((side : Side) × (r ≡ Err (Corruption side))) ⊎ GaveUp r (dev.faults old) (dev.faults new)
      by_error Mem same cause = inr (inl same)
      by_error (Runtime runtime.Fault) same cause = inr (inr (same, cause))
      by_error (Corruption side) same cause = inl (side, same)
      by_error Full same cause = absurd cause
      by_error (Runtime (runtime.InvalidChecksum page)) same cause = absurd cause
      by_error (Runtime runtime.BlobInsufficientLength) same cause = absurd cause
      by_error (Runtime runtime.OffsetOverflow) same cause = absurd cause
      by_error (Runtime runtime.Mem) same cause = absurd cause
