-- What a call that a device refused says of its count of faults.
use Rattle.std.proofs.Common.{◌≡◌, inl, inr, ℕ, ◌≤◌, Result, Ok, Err, IsErrAnd, refl, ◌∙◌, ap, arith}
use Rattle.std.specs.Result.{IsErrOf}
use Rattle.blob_device.specs.Counts.{Counted, Rose}
use Rattle.blob_device.specs.declared.error.DevError.{DevError}
use Rattle.blob_device.specs.declared.error.DevError.TheVariants.{Fault, Mem}
use Rattle.blob_device.specs.declared.device.Device as device
use Rattle.meta_store.specs.declared.error.Error.{Error}
use Rattle.meta_store.specs.declared.error.Error.TheVariants as error
use Rattle.meta_store.specs.Calls.{IsFailure, outcome}
use Rattle.meta_store.specs.Errors.{raised}
use Rattle.meta_store.specs.Format.{Format}
use Rattle.meta_store.specs.Store.{Seen}
use Rattle.meta_store.specs.Syncs.{IsSyncCause}

-- the count that rose from a later number rose from an earlier one
pub rose_later : (before mid now : ℕ) → before ≤ mid → Rose mid now → Rose before now
rose_later before mid now later rose = omega (arith, later, rose)

-- an error that is a fault
pub on_fault : {T P : Type 0} (e : DevError) → (IsErrOf {T = T} (Err e) Fault → P) → e ≡ Fault → P
on_fault {T = T} e cause is = let f : DevError → Result T DevError = λ y. Err y in cause (ap f is)

module _ {T : Type 0} (e : DevError) where
  pub failed : (before now calls calls' : ℕ) → Counted {T = T} (Err e) before now calls calls' → IsFailure before now (raised e)
  failed before now calls calls' counted = by_error e (on_fault e counted.cause)
    where
      by_error : (x : DevError) → (x ≡ Fault → Rose before now) → IsFailure before now (raised x)
      by_error Fault rose = inr (refl, rose refl)
      by_error Mem rose = inl refl

  -- after a call that went well
  pub failed_later : (before mid now calls calls' : ℕ) → before ≤ mid → Counted {T = T} (Err e) mid now calls calls' → IsFailure before now (raised e)
  failed_later before mid now calls calls' later counted = by_error e (on_fault e counted.cause)
    where
      by_error : (x : DevError) → (x ≡ Fault → Rose mid now) → IsFailure before now (raised x)
      by_error Fault rose = inr (refl, rose_later before mid now later (rose refl))
      by_error Mem rose = inl refl

-- ---- as the cause of a sync that failed

module _ {K V C D : Type 0} (dev : device.Ghosts D) (f : C → Format K V) (m : Seen K V C) {T : Type 0} (old mid : D) where
  pub caused : (e : DevError) → Counted {T = T} (Err e) (dev.faults old) (dev.faults mid) (dev.time old).calls (dev.time mid).calls → IsSyncCause dev f m old mid (raised e)
  caused e counted = by_error e (on_fault e counted.cause)
    where
      by_error : (x : DevError) → (x ≡ Fault → Rose (dev.faults old) (dev.faults mid)) → IsSyncCause dev f m old mid (raised x)
      by_error Fault rose = rose refl
      by_error Mem rose = tt

  pub caused_later : (new : D) (e : DevError) → dev.faults old ≤ dev.faults mid → Counted {T = T} (Err e) (dev.faults mid) (dev.faults new) (dev.time mid).calls (dev.time new).calls
      → IsSyncCause dev f m old new (raised e)
  caused_later new e later counted = by_error e (on_fault e counted.cause)
    where
      by_error : (x : DevError) → (x ≡ Fault → Rose (dev.faults mid) (dev.faults new)) → IsSyncCause dev f m old new (raised x)
      by_error Fault rose = rose_later (dev.faults old) (dev.faults mid) (dev.faults new) later (rose refl)
      by_error Mem rose = tt

-- an error as what is seen of it
pub err_seen : {T U E : Type 0} (see : T → U) (r : Result T E) (e : E) → IsErrAnd r (λ x. x ≡ e) → outcome see r ≡ Err e
err_seen see (Ok x) e is = absurd is
err_seen {U = U} {E = E} see (Err y) e is = let f : E → Result U E = λ z. Err z in ap f is

-- want of memory likewise
pub err_memory : {T U W : Type 0} (see : T → U) (r : Result T Error) (e : Error) → IsErrAnd r (λ x. x ≡ e) → ◌≡◌ {A = Result W Error} (Err e) (Err error.Mem) → outcome see r ≡ Err error.Mem
err_memory {U = U} see r e is short =
    let same : e ≡ error.Mem = cc short in
    let f : Error → Result U Error = λ z. Err z in
    err_seen see r e is ∙ ap f same

pub err_short : {T U : Type 0} (see : T → U) (r : Result T Error) (e : Error) → IsErrAnd r (λ x. x ≡ e) → e ≡ error.Mem → outcome see r ≡ Err error.Mem
err_short {U = U} see r e is short = let f : Error → Result U Error = λ z. Err z in err_seen see r e is ∙ ap f short
