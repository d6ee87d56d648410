-- What an answer is, seen another way.
use Rattle.std.proofs.Common.{◌≡◌, ◌⊎◌, ◌∙◌, List, inl, inr, ◌≤◌, ℕ, Option, None, Some, IsSomeAnd, Result, Ok, Err, IsErrAnd, IfOk, refl, ap, subst, arith}
use Rattle.std.specs.Result.{IsErrOf}
use Rattle.blob_device.specs.Counts.{Counted, Rose}
use Rattle.blob_device.specs.declared.error.DevError.{DevError}
use Rattle.blob_device.specs.declared.error.DevError.TheVariants.{Fault as DevFault, Mem as DevMem}
use Rattle.blob_device.specs.declared.runtime.RError.{RError}
use Rattle.blob_device.specs.declared.runtime.RError.TheVariants.{Fault, Mem as RMem}
use Rattle.section_manager.specs.Answers.{seen}
use Rattle.section_manager.specs.Raised.{raised, raised_device}
use Rattle.section_manager.specs.Refusing.{HasFailed, IsPruned}
use Rattle.section_manager.specs.declared.journal.Error.{Error}
use Rattle.section_manager.specs.declared.journal.Error.TheVariants.{InvalidBlobName, Mem, Runtime}

pub err_seen : {T U E : Type 0} (f : T → U) (r : Result T E) (e : E) → IsErrAnd r (λ x. x ≡ e) → seen f r ≡ Err e
err_seen f (Ok v) e is = absurd is
err_seen {U = U} {E = E} f (Err x) e is = let refused : E → Result U E = λ y. Err y in ap refused is

-- what is seen of a value that an answer has
pub if_seen : {T U E : Type 0} (f : T → U) (P : U → Type 0) (r : Result T E) → IfOk (seen f r) P → IfOk r (λ v. P (f v))
if_seen f P (Ok v) has = has
if_seen f P (Err e) has = tt

-- want of memory, as the cause of another answer
pub short : {T : Type 0} (before now : ℕ) → HasFailed {T = T} (Err Mem) before now
short before now = inl refl

-- a buffer's failure has the same cause, as an error of the journal
pub raised_failed : {S T : Type 0} (x : Result S RError) (e : RError) (before after : ℕ) → x ≡ Err e → (x ≡ Err RMem) ⊎ ((x ≡ Err Fault) × Rose before after) → HasFailed {T = T} (Err (raised e)) before after
raised_failed x e before after was (inl memory) = let same : e ≡ RMem = cc (was, memory) in inl (ap Err (ap raised same))
raised_failed x e before after was (inr fault) = let same : e ≡ Fault = cc (was, fault.0) in inr (ap Err (ap raised same), fault.1)

-- and so has a device's
pub device_failed : {S T : Type 0} (e : DevError) (before after calls called : ℕ) → Counted {T = S} (Err e) before after calls called → HasFailed {T = T} (Err (raised_device e)) before after
device_failed {S = S} {T = T} e before after calls called counted = by_error e (λ is. counted.cause (let refused : DevError → Result S DevError = λ y. Err y in ap refused is))
  where
    by_error : (x : DevError) → (x ≡ DevFault → Rose before after) → HasFailed {T = T} (Err (raised_device x)) before after
    by_error DevFault rose = inr (refl, rose refl)
    by_error DevMem rose = inl refl

-- a failure of a later call is one of them all
pub failed_later : {T U : Type 0} (e : Error) (first before now : ℕ) → first ≤ before → HasFailed {T = T} (Err e) before now → HasFailed {T = U} (Err e) first now
failed_later e first before now le failed = elim failed [
  | inl none ↦ (let same : e ≡ Mem = cc none in inl (cc same))
  | inr fault ↦ (let same : e ≡ Runtime Fault = cc fault.0 in inr (cc same, omega (arith, le, fault.1)))
]

pub failed_again : {T U : Type 0} (e : Error) (before now : ℕ) → HasFailed {T = T} (Err e) before now → HasFailed {T = U} (Err e) before now
failed_again {T = T} {U = U} e before now failed = failed_later {T = T} {U = U} e before before now (omega arith) failed

-- what was answered was no refusal
pub failed_unpruned : {T : Type 0} (e : Error) (floor before now : ℕ) → HasFailed {T = T} (Err e) before now → IsPruned {T = T} (Err e) floor → ⊥
failed_unpruned e floor before now failed pruned = elim failed [
  | inl none ↦ absurd (cc (none, pruned))
  | inr fault ↦ absurd (cc (fault.0, pruned))
]

-- what holds of the value that there is holds of this one, if it is that
pub held_has : {T : Type 0} (P : T → Type 0) (o : Option T) (v : T) → o ≡ Some v → IsSomeAnd o P → P v
held_has P None v is has = absurd has
held_has P (Some w) v is has = (let same : w ≡ v = cc is in subst P same has)

-- the same error, of an answer of another type
pub err_same : {T U : Type 0} {e x : Error} → IsErrOf {T = T} (Err e) x → IsErrOf {T = U} (Err e) x
err_same {e = e} {x = x} is = (let same : e ≡ x = cc is in cc same)

pub short_by : {T U : Type 0} (e : Error) (before now : ℕ) → IsErrOf {T = T} (Err e) Mem → HasFailed {T = U} (Err e) before now
short_by {T = T} {U = U} e before now none = inl (err_same {T = T} {U = U} none)

-- want of memory, as the error of another answer
pub mem_of : {T U : Type 0} (r : Result T Error) (e : Error) → r ≡ Err e → IsErrOf {T = U} (Err e) Mem → r ≡ Err Mem
mem_of {T = T} r e is none = (let same : e ≡ Mem = cc none in let refused : Error → Result T Error = λ y. Err y in is ∙ ap refused same)

-- such a failure names no blob
pub failed_unnamed : {T : Type 0} (e : Error) (n : List ℕ) (before now : ℕ) → HasFailed {T = T} (Err e) before now → e ≡ InvalidBlobName n → ⊥
failed_unnamed e n before now failed named = elim failed [
  | inl none ↦ (let same : e ≡ Mem = cc none in absurd (cc (same, named)))
  | inr fault ↦ (let same : e ≡ Runtime Fault = cc fault.0 in absurd (cc (same, named)))
]
