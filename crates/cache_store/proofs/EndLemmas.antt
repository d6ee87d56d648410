-- How calls of a cache end: why they fail, and what they touch.
use Rattle.std.specs.Prelude.{◌≡◌, ◌⊎◌, ℕ, ◌≤◌, Result, Ok, Err, IfOk, OnOk, OnErr}
use Rattle.std.proofs.Common.{inl, inr, ⊎_elim, sym, subst, arith}
use Rattle.blob_device.specs.Counts.{Rose}
use Rattle.blob_device.specs.Disk.{Key}
use Rattle.blob_device.specs.Footprint.{Footprint, NoBound, SameElsewhere}
use Rattle.blob_device.specs.Timeline.{Always, disk}
use Rattle.blob_device.specs.declared.device.Device as device
use Rattle.blob_device.specs.declared.runtime.RError.TheVariants as runtime
use Rattle.std.specs.Result.{IsErrOf}
use Rattle.section_manager.specs.Answers.{seen}
use Rattle.section_manager.specs.Lasting.{EntriesLeave}
use Rattle.section_manager.specs.Refusing.{HasFailed, IsPruned}
use Rattle.section_manager.specs.declared.journal.Error.{Error}
use Rattle.section_manager.specs.declared.journal.Error.TheVariants.{Mem, Runtime}
use Rattle.cache_store.specs.Changes.{IsFailure}

-- a fault or want of memory is just that
pub failed : {T : Type 0} (r : Result T Error) (a b : ℕ) (e : Error) → r ≡ Err e → OnErr r (HasFailed r a b) → IsFailure a b e
failed (Ok x) a b e is cause = absurd (cc is)
failed (Err x) a b e is (inl mem) = inl (cc (mem, is))
failed (Err x) a b e is (inr fault) = inr (cc (fault.0, is), fault.1)

pub failed_of : {T : Type 0} (r : Result T Error) (a b : ℕ) (e : Error) → r ≡ Err e → HasFailed r a b → IsFailure a b e
failed_of (Ok x) a b e is has = absurd (cc is)
failed_of (Err x) a b e is has = failed (Err x) a b e is has

-- a failure of a later call
pub failed_since : {T : Type 0} (e : Error) (a b now : ℕ) → a ≤ b → HasFailed {T = T} (Err e) b now → IsFailure a now e
failed_since e a b now le (inl mem) = inl (cc mem)
failed_since e a b now le (inr fault) = inr (cc fault.0, omega (arith, le, fault.1))

-- of a fault the count rose
pub rose_of : (e : Error) (a b : ℕ) → IsFailure a b e → e ≡ Runtime runtime.Fault → Rose a b
rose_of e a b (inl mem) is = absurd (cc (mem, is))
rose_of e a b (inr fault) is = fault.1

-- why it failed
pub err_cause : {T : Type 0} {P : Type 0} (r : Result T Error) (e : Error) → r ≡ Err e → OnErr r P → P
err_cause (Ok x) e is cause = absurd (cc is)
err_cause (Err x) e is cause = cause

-- what holds of the value
pub ok_value : {T : Type 0} (P : T → Type 0) (r : Result T Error) (x : T) → r ≡ Ok x → IfOk r P → P x
ok_value P (Ok y) x is has = (let same : y ≡ x = cc is in subst P same has)
ok_value P (Err e) x is has = absurd (cc is)

-- what holds where a call ended Ok
pub ok_of : {T : Type 0} {P : Type 0} (r : Result T Error) (x : T) → r ≡ Ok x → OnOk r P → P
ok_of (Ok y) x is has = has
ok_of (Err e) x is has = absurd (cc is)

module _ {D : Type 0} (dev : device.Ghosts D) (MayTouch Own : Key → Type 0) (own : (q : Key) → Own q → MayTouch q) (old new : D) where
  -- entries of blobs that a call may touch left the list
  pub leaving_footprint : (dev.Tells → Always (dev.time old) (dev.time new) (SameElsewhere MayTouch (disk (dev.time old)))) → EntriesLeave Own (dev.opened old) (dev.opened new)
      → dev.faults old ≤ dev.faults new → Footprint dev MayTouch NoBound old new
  leaving_footprint alone entries faults = record {
    alone = alone;
    entries = λ q other. ⊎_elim (λ same. same) (λ gone. absurd (other (own q gone.0))) (entries q);
    reads = λ q n most. absurd most;
    faults = faults;
  }

  -- no other entry changed
  pub keeping_footprint : (dev.Tells → Always (dev.time old) (dev.time new) (SameElsewhere MayTouch (disk (dev.time old)))) → ((q : Key) → (Own q → ⊥) → dev.opened new q ≡ dev.opened old q)
      → dev.faults old ≤ dev.faults new → Footprint dev MayTouch NoBound old new
  keeping_footprint alone entries faults = record {
    alone = alone;
    entries = λ q other. entries q (λ is. other (own q is));
    reads = λ q n most. absurd most;
    faults = faults;
  }

-- want of memory is a failure
pub mem_failed : {T : Type 0} (e : Error) (a b : ℕ) → IsErrOf {T = T} (Err e) Mem → IsFailure a b e
mem_failed e a b is = inl (cc is)

-- an error is handed on as it is
pub carried : {T U : Type 0} (see : T → U) (r : Result T Error) (e : Error) (P : Result U Error → Type 0) → r ≡ Err e → P (Err e) → P (seen see r)
carried see r e P is has = subst (λ x. P (seen see x)) (sym is) has

-- where no section is below the floor
pub unpruned : {T : Type 0} (r : Result T Error) (floor a b : ℕ) (e : Error) → r ≡ Err e → (IsPruned r floor → ⊥) → OnErr r (IsPruned r floor ⊎ HasFailed r a b) → IsFailure a b e
unpruned (Ok x) floor a b e is not cause = absurd (cc is)
unpruned (Err x) floor a b e is not (inl pruned) = absurd (not pruned)
unpruned (Err x) floor a b e is not (inr has) = failed (Err x) a b e is has
