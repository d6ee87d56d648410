-- What a call of a pair answers where its markers are full.
use Rattle.std.proofs.Common.{◌≡◌, Result, Err, refl, ◌∙◌, sym, ap}
use Rattle.std.specs.Result.{IsErrOf}
use Rattle.meta_store.specs.declared.error.Error as meta
use Rattle.meta_store.specs.declared.error.Error.TheVariants as metadata
use Rattle.section_manager.specs.declared.journal.Error.{Error}
use Rattle.section_manager.specs.declared.journal.Error.TheVariants.{Full}
use Rattle.section_manager.specs.Raised.{raised_metadata}

abbrev answer : (T : Type 0) → Error → Result T Error
answer T e = Err e

same_error : {T : Type 0} (e x : Error) → answer T e ≡ answer T x → e ≡ x
same_error e x is = cc is

-- only a full map is full
raised_full : (e : meta.Error) → raised_metadata e ≡ Full → e ≡ metadata.Full
raised_full (metadata.Runtime r) is = absurd (cc is)
raised_full (metadata.Corruption side) is = absurd (cc is)
raised_full metadata.Full is = refl
raised_full metadata.Mem is = absurd (cc is)

-- a call that is full, since its markers failed, has full markers
pub full_markers : {T U : Type 0} (r : Result T Error) (e : meta.Error) → r ≡ Err (raised_metadata e) → IsErrOf r Full → IsErrOf {T = U} (Err e) metadata.Full
full_markers {T = T} {U = U} r e is full =
    let refused : meta.Error → Result U meta.Error = λ x. Err x in
    ap refused (raised_full e (same_error {T = T} (raised_metadata e) Full (sym is ∙ full)))
