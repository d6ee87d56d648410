-- Errors that a step of a replay of a fixed journal passes on.
use Rattle.std.specs.Prelude.{◌≡◌, ◌⊎◌, ℕ, ◌≤◌, Result, Err}
use Rattle.std.specs.Result.{IsErrOf}
use Rattle.std.proofs.Common.{inl, inr, ◌∙◌, arith}
use Rattle.blob_device.specs.Counts.{Rose}
use Rattle.blob_device.specs.declared.runtime.RError.{RError}
use Rattle.blob_device.specs.declared.runtime.RError.TheVariants as runtime
use Rattle.sealed_pages.specs.lemmas.cutting.Truncating.{rose_since}
use Rattle.section_manager.specs.declared.journal.Error.{Error}
use Rattle.value_codec.specs.declared.codec.Error as codec
use Rattle.section_manager.specs.declared.journal.Error.TheVariants.{Runtime, Codec, Mem, ItemOutOfRange}
use Rattle.section_manager.specs.Raised.{raised}
use Rattle.section_manager.specs.Refusing.{HasFailed, HasDamage}
use Rattle.segments.specs.FixedReading.{HasNotRead}

-- want of memory, or a fault
pub failed_read : {T U : Type 0} (x y : Error) → y ≡ x → (few many : ℕ) → HasFailed {T = T} (Err x) few many → HasNotRead {T = U} (Err y) few many
failed_read x y same few many has = inr (inr (elim has [ inl mem ↦ inl (cc (mem, same)) | inr fault ↦ (let at = fault.0 in inr (cc (at, same), fault.1)) ]))

pub failed_other : {T : Type 0} (x y : Error) → y ≡ x → (few many : ℕ) → HasFailed {T = T} (Err x) few many → (k : ℕ) → y ≡ ItemOutOfRange k → ⊥
failed_other x y same few many has k is = elim has [ inl mem ↦ absurd (cc (mem, is, same)) | inr fault ↦ (let at = fault.0 in absurd (cc (at, is, same))) ]

-- the same, as the answer of another call
pub failed_as : {T U : Type 0} (x y : Error) → y ≡ x → (few many : ℕ) → HasFailed {T = T} (Err x) few many → HasFailed {T = U} (Err y) few many
failed_as x y same few many has = elim has [ inl mem ↦ inl (cc (mem, same)) | inr fault ↦ (let at = fault.0 in inr (cc (at, same), fault.1)) ]

pub failed_sound : {T : Type 0} (x : Error) (few many : ℕ) → HasFailed {T = T} (Err x) few many → (k : ℕ) → x ≡ Runtime (runtime.InvalidChecksum k) → ⊥
failed_sound x few many has k is = elim has [ inl mem ↦ absurd (cc (mem, is)) | inr fault ↦ (let at = fault.0 in absurd (cc (at, is))) ]

pub failed_not_codec : {T : Type 0} (x : Error) (few many : ℕ) → HasFailed {T = T} (Err x) few many → (e : codec.Error) → x ≡ Codec e → ⊥
failed_not_codec x few many has e is = elim has [ inl mem ↦ absurd (cc (mem, is)) | inr fault ↦ (let at = fault.0 in absurd (cc (at, is))) ]

pub cut_as : {T U : Type 0} (x y : Error) → y ≡ x → (few many : ℕ) → HasDamage {T = T} (Err x) ⊎ HasFailed {T = T} (Err x) few many → HasDamage {T = U} (Err y) ⊎ HasFailed {T = U} (Err y) few many
cut_as x y same few many (inl page) = (let at = page.1 in inl (page.0, cc (at, same)))
cut_as x y same few many (inr has) = inr (failed_as x y same few many has)

pub cut_not_codec : {T : Type 0} (x : Error) (few many : ℕ) → HasDamage {T = T} (Err x) ⊎ HasFailed {T = T} (Err x) few many → (e : codec.Error) → x ≡ Codec e → ⊥
cut_not_codec x few many (inl page) e is = (let at = page.1 in absurd (cc (at, is)))
cut_not_codec x few many (inr has) e is = failed_not_codec x few many has e is

-- or a damaged page
pub cut_read : {T U : Type 0} (x y : Error) → y ≡ x → (few many : ℕ) → ((k : ℕ) × IsErrOf {T = T} (Err x) (Runtime (runtime.InvalidChecksum k))) ⊎ HasFailed {T = T} (Err x) few many → HasNotRead {T = U} (Err y) few many
cut_read x y same few many (inl page) = (let at = page.1 in inl (page.0, cc (at, same)))
cut_read x y same few many (inr has) = failed_read x y same few many has

pub cut_other : {T : Type 0} (x y : Error) → y ≡ x → (few many : ℕ) → ((k : ℕ) × IsErrOf {T = T} (Err x) (Runtime (runtime.InvalidChecksum k))) ⊎ HasFailed {T = T} (Err x) few many → (k : ℕ) → y ≡ ItemOutOfRange k → ⊥
cut_other x y same few many (inl page) k is = (let at = page.1 in absurd (cc (at, is, same)))
cut_other x y same few many (inr has) k is = failed_other x y same few many has k is

-- an error of the buffer
pub raised_failed : {T U : Type 0} (e : RError) (y : Error) → y ≡ raised e → (few some many : ℕ) → few ≤ some
    → (◌≡◌ {A = Result T RError} (Err e) (Err runtime.Mem)) ⊎ ((◌≡◌ {A = Result T RError} (Err e) (Err runtime.Fault)) × Rose some many) → HasFailed {T = U} (Err y) few many
raised_failed e y is few some many le (inl mem) = (let at : e ≡ runtime.Mem = cc mem in let to : y ≡ Mem = is ∙ (λ i. raised (at i)) in inl (cc to))
raised_failed e y is few some many le (inr fault) = (let at : e ≡ runtime.Fault = cc (fault.0) in let to : y ≡ Runtime runtime.Fault = is ∙ (λ i. raised (at i)) in inr (cc to, rose_since few some many le fault.1))

pub raised_cut : {T U : Type 0} (e : RError) (y : Error) → y ≡ raised e → (few some many : ℕ) → few ≤ some
    → ((p : ℕ) × (◌≡◌ {A = Result T RError} (Err e) (Err (runtime.InvalidChecksum p)))) ⊎ ((◌≡◌ {A = Result T RError} (Err e) (Err runtime.Mem)) ⊎ ((◌≡◌ {A = Result T RError} (Err e) (Err runtime.Fault)) × Rose some many))
    → ((k : ℕ) × IsErrOf {T = U} (Err y) (Runtime (runtime.InvalidChecksum k))) ⊎ HasFailed {T = U} (Err y) few many
raised_cut e y is few some many le (inl page) = (let at : e ≡ runtime.InvalidChecksum page.0 = cc (page.1) in let to : y ≡ Runtime (runtime.InvalidChecksum page.0) = is ∙ (λ i. raised (at i)) in inl (page.0, cc to))
raised_cut e y is few some many le (inr has) = inr (raised_failed e y is few some many le has)

-- an error of the reader
pub reader_read : {T U : Type 0} (e : RError) (y : Error) (few many : ℕ) (P : ℕ → Type 0) → y ≡ raised e
    → ((p : ℕ) × (◌≡◌ {A = Result T RError} (Err e) (Err (runtime.InvalidChecksum p))) × P p) ⊎ ((◌≡◌ {A = Result T RError} (Err e) (Err runtime.Mem)) ⊎ ((◌≡◌ {A = Result T RError} (Err e) (Err runtime.Fault)) × Rose few many)) → HasNotRead {T = U} (Err y) few many
reader_read e y few many P is (inl page) = (let at : e ≡ runtime.InvalidChecksum page.0 = cc (page.1) in let to : y ≡ Runtime (runtime.InvalidChecksum page.0) = is ∙ (λ i. raised (at i)) in inl (page.0, cc to))
reader_read e y few many P is (inr has) = inr (inr (raised_failed e y is few few many (omega arith) has))

pub reader_not_codec : (e : RError) (y : Error) → y ≡ raised e → (x : codec.Error) → y ≡ Codec x → ⊥
reader_not_codec runtime.Mem y is x at = cc (is, at)
reader_not_codec e y is x at = cc (is, at)

pub reader_other : (e : RError) (y : Error) → y ≡ raised e → (k : ℕ) → y ≡ ItemOutOfRange k → ⊥
reader_other runtime.Mem y is k at = cc (is, at)
reader_other e y is k at = cc (is, at)
