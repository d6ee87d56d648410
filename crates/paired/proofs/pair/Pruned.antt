-- A refusal of a section, handed on by the calls above.
use Rattle.std.proofs.Common.{◌≡◌, ℕ, Result, Err, sym, ◌∙◌, ap}
use Rattle.std.specs.Prelude.{◌↔◌}
use Rattle.section_manager.specs.declared.journal.Error.{Error}
use Rattle.section_manager.specs.declared.journal.Error.TheVariants.{AlreadyPrunedToSection}
use Rattle.section_manager.specs.Refusing.{IsPruned}

abbrev refusal : (U : Type 0) → Error → Result U Error
refusal U e = Err e

refusal_of : {U : Type 0} (e x : Error) → refusal U e ≡ refusal U x → e ≡ x
refusal_of e x is = cc is

-- the error that is handed on says what it said below
pub pruned_as : {T U : Type 0} (r : Result T Error) (e : Error) (floor : ℕ) (W : Type 0) → r ≡ Err e → IsPruned {T = U} (Err e) floor ↔ W → IsPruned r floor ↔ W
pruned_as {T = T} {U = U} r e floor W is both =
    let mine : Error → Result T Error = λ x. Err x in
    let theirs : Error → Result U Error = λ x. Err x in (
      λ refused. both.0 (ap theirs (refusal_of {U = T} e (AlreadyPrunedToSection floor) (sym is ∙ refused))),
      λ w. is ∙ ap mine (refusal_of {U = U} e (AlreadyPrunedToSection floor) (both.1 w)),
    )
