-- An answer for want of memory or by the device names no damaged page.
use Rattle.std.proofs.Common.{◌≡◌, ◌≢◌, ◌⊎◌, inl, inr, ℕ, Result, Ok, Err}
use Rattle.std.specs.Prelude.{OnErr}
use Rattle.blob_device.specs.declared.runtime.RError.{RError}
use Rattle.blob_device.specs.declared.runtime.RError.TheVariants.{Fault, InvalidChecksum, Mem}

-- an answer that has another cause names no page
pub sound_page : {T : Type 0} (r : Result T RError) (page : ℕ) (A : Type 0) → OnErr r ((r ≡ Err Mem) ⊎ ((r ≡ Err Fault) × A)) → r ≢ Err (InvalidChecksum page)
sound_page (Ok v) page A cause is = absurd (cc is)
sound_page (Err e) page A cause is = elim cause [
  | inl mem ↦ absurd (cc (mem, is))
  | inr fault ↦ absurd (cc (fault.0, is))
]
