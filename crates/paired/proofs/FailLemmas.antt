-- What a call answers where a layer below it failed.
use Rattle.std.proofs.Common.{◌≡◌, ◌⊎◌, inl, inr, ℕ, Result, Ok, Err, OnErr, ap, ◌∙◌}
use Rattle.blob_device.specs.Counts.{Rose}
use Rattle.blob_device.specs.declared.runtime.RError.{RError}
use Rattle.blob_device.specs.declared.runtime.RError.TheVariants.{Mem, Fault}
use Rattle.value_codec.specs.declared.codec.Error as codec
use Rattle.value_codec.specs.declared.codec.Error.TheVariants as code
use Rattle.section_manager.specs.declared.journal.Error.{Error}
use Rattle.section_manager.specs.declared.journal.Error.TheVariants as journal
use Rattle.section_manager.specs.declared.journal.Error.TheVariants.{AlreadyPrunedToSection, ChecksumMismatch, Codec, Runtime}
use Rattle.section_manager.specs.Raised.{raised, raised_codec}
use Rattle.section_manager.specs.Refusing.{HasDamage, HasFailed, IsPruned}
use Rattle.blob_device.proofs.general.Results.{err_with}

-- there was no memory, or the device failed
pub raised_failed : {T : Type 0} (r : Result T Error) (e : RError) (a b : ℕ) → r ≡ Err (raised e) → (e ≡ Mem) ⊎ ((e ≡ Fault) × Rose a b) → HasFailed r a b
raised_failed {T = T} r e a b is why =
    let answer : RError → Result T Error = λ x. Err (raised x) in
    elim why [
      | inl none ↦ inl (is ∙ ap answer none)
      | inr fault ↦ inr (is ∙ ap answer fault.0, fault.1)
    ]

abbrev is_error : (U : Type 0) → Error → Result U Error
is_error U e = Err e

error_of : {U : Type 0} (e x : Error) → is_error U e ≡ is_error U x → e ≡ x
error_of e x is = cc is

-- a failure that is handed on
pub failed_as : {T U : Type 0} (r : Result T Error) (e : Error) (a b : ℕ) → r ≡ Err e → HasFailed {T = U} (Err e) a b → HasFailed r a b
failed_as {T = T} {U = U} r e a b is failed =
    let answer : Error → Result T Error = λ x. Err x in
    elim failed [
      | inl memory ↦ inl (is ∙ ap answer (error_of {U = U} e journal.Mem memory))
      | inr fault ↦ inr (is ∙ ap answer (error_of {U = U} e (Runtime Fault) fault.0), fault.1)
    ]

-- a codec's refusal that is handed on
pub codec_mismatch : (e : codec.Error) (a b : ℕ) → raised_codec e ≡ ChecksumMismatch a b → ⊥
codec_mismatch code.EndOfBuffer a b is = cc is
codec_mismatch code.ExtraBytes a b is = cc is
codec_mismatch code.TooLong a b is = cc is
codec_mismatch code.InvalidVarint a b is = cc is
codec_mismatch (code.InvalidEnum n) a b is = cc is
codec_mismatch code.Mem a b is = cc is

pub codec_refusal : (e x : codec.Error) → raised_codec e ≡ Codec x → (e ≡ x) × (e ≡ code.Mem → ⊥)
codec_refusal code.EndOfBuffer x is = (cc is, λ none. cc none)
codec_refusal code.ExtraBytes x is = (cc is, λ none. cc none)
codec_refusal code.TooLong x is = (cc is, λ none. cc none)
codec_refusal code.InvalidVarint x is = (cc is, λ none. cc none)
codec_refusal (code.InvalidEnum n) x is = (cc is, λ none. cc none)
codec_refusal code.Mem x is = absurd (cc is)

abbrev decode_error : (U : Type 0) → codec.Error → Result U codec.Error
decode_error U e = Err e

pub codec_memory : {T U : Type 0} (r : Result T Error) (e : codec.Error) → r ≡ Err (raised_codec e) → decode_error U e ≡ decode_error U code.Mem → r ≡ Err journal.Mem
codec_memory {T = T} {U = U} r e is none =
    let same : e ≡ code.Mem = cc none in
    let answer : codec.Error → Result T Error = λ x. Err (raised_codec x) in
    is ∙ ap answer same

abbrev decoded : (T : Type 0) → T → Result T codec.Error
decoded T v = Ok v

abbrev answered : (T : Type 0) → T → Result T Error
answered T v = Ok v

pub decoded_as : {T : Type 0} (v w : T) → decoded T v ≡ decoded T w → answered T v ≡ answered T w
decoded_as {T = T} v w is =
    let same : v ≡ w = cc is in
    let answer : T → Result T Error = λ x. Ok x in
    ap answer same

pub decoded_error : {T : Type 0} {v : T} {e : codec.Error} → decoded T v ≡ decode_error T e → ⊥
decoded_error is = cc is

-- a refusal that no damage caused
pub undamaged : {T U : Type 0} (r : Result T Error) (e : Error) (floor a b : ℕ) → r ≡ Err e → (HasDamage {T = U} (Err e) → ⊥)
    → IsPruned {T = U} (Err e) floor ⊎ (HasDamage {T = U} (Err e) ⊎ HasFailed {T = U} (Err e) a b) → OnErr r (IsPruned r floor ⊎ HasFailed r a b)
undamaged {T = T} {U = U} r e floor a b is none why =
    let answer : Error → Result T Error = λ x. Err x in
    err_with r (elim why [
      | inl pruned ↦ inl (is ∙ ap answer (error_of {U = U} e (AlreadyPrunedToSection floor) pruned))
      | inr more ↦ elim more [
        | inl damage ↦ absurd (none damage)
        | inr failed ↦ elim failed [
          | inl memory ↦ inr (inl (is ∙ ap answer (error_of {U = U} e journal.Mem memory)))
          | inr fault ↦ inr (inr (is ∙ ap answer (error_of {U = U} e (Runtime Fault) fault.0), fault.1))
        ]
      ]
    ])
