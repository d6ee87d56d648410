-- How an append of a frame ends, from what the append of its bytes did.
use Rattle.std.proofs.Common.{◌↔◌, inl, inr, ℕ, ◌^◌, ◌<◌, ◌≤◌, Ok}
use Rattle.std.specs.Result.{IsErrOf}
use Rattle.std.proofs.lemmas.Bool.{cases_lt}
use Rattle.section_manager.specs.declared.journal.Error.TheVariants.{ValueTooLarge}
use Rattle.segments.specs.lemmas.held.Passing.{no_error}

-- a length that was not refused fits
pub below_large : {T : Type 0} (v : T) (n : ℕ) → IsErrOf (Ok v) ValueTooLarge ↔ (2 ^ 32 ≤ n) → n < 2 ^ 32
below_large {T = T} v n large = elim (cases_lt n (2 ^ 32)) [
  | inl fits ↦ fits
  | inr big ↦ absurd (no_error v ValueTooLarge (large.1 big))
]
