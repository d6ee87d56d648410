-- What an error of a fixed journal says of the error below it.
use Rattle.std.proofs.Common.{◌≡◌, ◌⊎◌, inl, inr, ℕ, ◌≤◌, Result, Ok, Err, IsErrAnd, OnErr, ◌∙◌, ap, arith}
use Rattle.std.specs.Result.{IsErrOf}
use Rattle.blob_device.specs.Counts.{Rose}
use Rattle.blob_device.specs.declared.runtime.RError.{RError}
use Rattle.blob_device.specs.declared.runtime.RError.TheVariants as runtime
use Rattle.value_codec.specs.declared.codec.Error as codec
use Rattle.value_codec.specs.declared.codec.Error.TheVariants as code
use Rattle.section_manager.specs.declared.journal.Error.{Error}
use Rattle.section_manager.specs.declared.journal.Error.TheVariants.{Runtime, Codec, Mem}
use Rattle.section_manager.specs.Raised.{raised, raised_codec}
use Rattle.section_manager.specs.Refusing.{HasFailed}
use Rattle.segments.specs.FixedReading.{HasNotRead}

-- an error of a buffer is that very one
pub runtime_of : (e x : RError) → raised e ≡ Runtime x → e ≡ x
runtime_of runtime.Mem x is = absurd (cc is)
runtime_of e x is = cc is

pub codec_of : (e x : codec.Error) → raised_codec e ≡ Codec x → e ≡ x
codec_of code.Mem x is = absurd (cc is)
codec_of e x is = cc is

module _ {T : Type 0} (r : Result T Error) where
  -- an answer that is an error of the journal
  pub of_error : (e x : Error) → IsErrAnd r (λ y. y ≡ e) → IsErrOf r x → e ≡ x
  of_error e x is of = go r is of
    where
      go : (s : Result T Error) → IsErrAnd s (λ y. y ≡ e) → IsErrOf s x → e ≡ x
      go (Ok v) is of = absurd is
      go (Err y) is of = cc (is, of)

  -- an answer that is the error of a buffer
  pub of_buffer : (e x : RError) → IsErrAnd r (λ y. y ≡ raised e) → IsErrOf r (Runtime x) → e ≡ x
  of_buffer e x is of = go r is of
    where
      go : (s : Result T Error) → IsErrAnd s (λ y. y ≡ raised e) → IsErrOf s (Runtime x) → e ≡ x
      go (Ok v) is of = absurd is
      go (Err y) is of = runtime_of e x (cc (is, of))

  pub of_codec : (e x : codec.Error) → IsErrAnd r (λ y. y ≡ raised_codec e) → IsErrOf r (Codec x) → e ≡ x
  of_codec e x is of = go r is of
    where
      go : (s : Result T Error) → IsErrAnd s (λ y. y ≡ raised_codec e) → IsErrOf s (Codec x) → e ≡ x
      go (Ok v) is of = absurd is
      go (Err y) is of = codec_of e x (cc (is, of))

  -- a read within the buffer fails by a damaged page, or as any call of the device
  pub read_fails : {U : Type 0} (e : RError) (W : ℕ → Type 0) (before now : ℕ) → IsErrAnd r (λ y. y ≡ raised e) → (IsErrOf {T = U} (Err e) runtime.OffsetOverflow → ⊥) → (IsErrOf {T = U} (Err e) runtime.BlobInsufficientLength → ⊥)
      → IsErrOf {T = U} (Err e) runtime.OffsetOverflow ⊎ (IsErrOf {T = U} (Err e) runtime.BlobInsufficientLength ⊎ (((p : ℕ) × IsErrOf {T = U} (Err e) (runtime.InvalidChecksum p) × W p) ⊎ (IsErrOf {T = U} (Err e) runtime.Mem ⊎ (IsErrOf {T = U} (Err e) runtime.Fault × Rose before now))))
      → OnErr r (((k : ℕ) × IsErrOf r (Runtime (runtime.InvalidChecksum k))) ⊎ HasFailed r before now)
  read_fails {U = U} e W before now is fits within cause = go r is cause
    where
      go : (s : Result T Error) → IsErrAnd s (λ y. y ≡ raised e)
          → IsErrOf {T = U} (Err e) runtime.OffsetOverflow ⊎ (IsErrOf {T = U} (Err e) runtime.BlobInsufficientLength ⊎ (((p : ℕ) × IsErrOf {T = U} (Err e) (runtime.InvalidChecksum p) × W p) ⊎ (IsErrOf {T = U} (Err e) runtime.Mem ⊎ (IsErrOf {T = U} (Err e) runtime.Fault × Rose before now))))
          → OnErr s (((k : ℕ) × IsErrOf s (Runtime (runtime.InvalidChecksum k))) ⊎ HasFailed s before now)
      go (Ok v) is cause = tt
      go (Err y) is (inl over) = absurd (fits over)
      go (Err y) is (inr (inl short)) = absurd (within short)
      go (Err y) is (inr (inr (inl page))) = (let same : e ≡ runtime.InvalidChecksum page.0 = cc page.1 in inl (page.0, ap Err (is ∙ ap raised same)))
      go (Err y) is (inr (inr (inr (inl mem)))) = (let same : e ≡ runtime.Mem = cc mem in inr (inl (ap Err (is ∙ ap raised same))))
      go (Err y) is (inr (inr (inr (inr fault)))) = (let same : e ≡ runtime.Fault = cc fault.0 in inr (inr (ap Err (is ∙ ap raised same), fault.1)))

  -- an error of a later call, from an earlier count of faults on
  pub read_failed : {U : Type 0} (e : Error) (first before now : ℕ) → IsErrAnd r (λ y. y ≡ e) → first ≤ before → HasNotRead {T = U} (Err e) before now → OnErr r (HasNotRead r first now)
  read_failed {U = U} e first before now is le cause = go r is cause
    where
      go : (s : Result T Error) → IsErrAnd s (λ y. y ≡ e) → HasNotRead {T = U} (Err e) before now → OnErr s (HasNotRead s first now)
      go (Ok v) is cause = tt
      go (Err y) is (inl page) = (let same : e ≡ Runtime (runtime.InvalidChecksum page.0) = cc page.1 in inl (page.0, ap Err (is ∙ same)))
      go (Err y) is (inr (inl code)) = (let same : e ≡ Codec code.0 = cc code.1 in inr (inl (code.0, ap Err (is ∙ same))))
      go (Err y) is (inr (inr (inl mem))) = (let same : e ≡ Mem = cc mem in inr (inr (inl (ap Err (is ∙ same)))))
      go (Err y) is (inr (inr (inr fault))) = (let same : e ≡ Runtime runtime.Fault = cc fault.0 in inr (inr (inr (ap Err (is ∙ same), omega (arith, le, fault.1)))))
