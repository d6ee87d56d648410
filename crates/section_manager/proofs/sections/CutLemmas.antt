-- An error of a buffer's cut, passed on as one of the manager, has the same cause.
use Rattle.std.specs.Prelude.{◌≡◌, ◌⊎◌, ℕ, ◌≤◌, Option, None, Some, IsSome, IsSomeAnd, Result, OnErr}
use Rattle.std.proofs.Common.{inl, inr, Err, sym, ◌∙◌, ap, subst, arith}
use Rattle.std.specs.Option.{unwrap_or, is_some}
use Rattle.std.proofs.lemmas.Bool.{false≢true}
use Rattle.blob_device.specs.declared.runtime.RError.{RError}
use Rattle.blob_device.specs.declared.runtime.RError.TheVariants.{Fault, InvalidChecksum, BlobInsufficientLength, OffsetOverflow, Mem as RMem}
use Rattle.blob_device.specs.Counts.{Rose}
use Rattle.section_manager.specs.declared.journal.Error.{Error}
use Rattle.section_manager.specs.declared.journal.Error.TheVariants.{Runtime, Mem}
use Rattle.section_manager.specs.Refusing.{HasDamage, HasFailed, IsPruned}
use Rattle.section_manager.specs.Raised.{raised}

-- a damaged page that a section's call answers is one that the buffer's call answered
pub raised_page : (e : RError) (page : ℕ) → raised e ≡ Runtime (InvalidChecksum page) → e ≡ InvalidChecksum page
raised_page Fault page is = cc is
raised_page (InvalidChecksum p) page is = cc is
raised_page BlobInsufficientLength page is = cc is
raised_page OffsetOverflow page is = cc is
raised_page RMem page is = absurd (cc is)

-- a buffer's refused cut has the same cause, as an error of the journal
pub raised_cause : {S T : Type 0} (x : Result S RError) (r : Result T Error) (e : RError) (before after : ℕ) → x ≡ Err e → r ≡ Err (raised e)
    → ((page : ℕ) × (x ≡ Err (InvalidChecksum page))) ⊎ ((x ≡ Err RMem) ⊎ ((x ≡ Err Fault) × Rose before after)) → OnErr r (HasDamage r ⊎ HasFailed r before after)
raised_cause {T = T} x r e before after was is cause = subst (λ (y : Result T Error). OnErr y (HasDamage y ⊎ HasFailed y before after)) (sym is) (again cause)
  where
    again : ((page : ℕ) × (x ≡ Err (InvalidChecksum page))) ⊎ ((x ≡ Err RMem) ⊎ ((x ≡ Err Fault) × Rose before after)) → HasDamage {T = T} (Err (raised e)) ⊎ HasFailed {T = T} (Err (raised e)) before after
    again (inl damage) = let same : e ≡ InvalidChecksum damage.0 = cc (was, damage.1) in inl (damage.0, ap Err (ap raised same))
    again (inr (inl memory)) = let same : e ≡ RMem = cc (was, memory) in inr (inl (ap Err (ap raised same)))
    again (inr (inr fault)) = let same : e ≡ Fault = cc (was, fault.0) in inr (inr (ap Err (ap raised same), fault.1))

pub some_none : {T : Type 0} (o : Option T) → IsSome o → o ≡ None → ⊥
some_none o some none = false≢true (sym (ap is_some none) ∙ some)

pub some_has : (o : Option ℕ) (P : ℕ → Type 0) → IsSome o → P (unwrap_or o 0) → IsSomeAnd o P
some_has None P is has = absurd (cc is)
some_has (Some n) P is has = has

-- an error that is answered again has the same cause, counted from an earlier moment
pub same_cause : {S T : Type 0} (r : Result T Error) (e : Error) (floor before mid after : ℕ) → r ≡ Err e → before ≤ mid
    → HasDamage {T = S} (Err e) ⊎ HasFailed {T = S} (Err e) mid after → OnErr r (IsPruned r floor ⊎ (HasDamage r ⊎ HasFailed r before after))
same_cause {S = S} {T = T} r e floor before mid after is le cause = subst (λ (x : Result T Error). OnErr x (IsPruned x floor ⊎ (HasDamage x ⊎ HasFailed x before after))) (sym is) (again cause)
  where
    again : HasDamage {T = S} (Err e) ⊎ HasFailed {T = S} (Err e) mid after → IsPruned {T = T} (Err e) floor ⊎ (HasDamage {T = T} (Err e) ⊎ HasFailed {T = T} (Err e) before after)
    again (inl damage) = let same : e ≡ Runtime (InvalidChecksum damage.0) = cc damage.1 in inr (inl (damage.0, cc same))
    again (inr (inl memory)) = let same : e ≡ Mem = cc memory in inr (inr (inl (cc same)))
    again (inr (inr fault)) = let same : e ≡ Runtime Fault = cc fault.0 in inr (inr (inr (cc same, omega (arith, fault.1, le))))
