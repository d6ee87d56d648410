-- An error of a replay is one since an earlier count of faults too.
use Rattle.std.specs.Prelude.{ℕ, ◌≤◌, Result}
use Rattle.std.proofs.Common.{inl, inr}
use Rattle.sealed_pages.specs.lemmas.cutting.Truncating.{rose_since}
use Rattle.section_manager.specs.declared.journal.Error.{Error}
use Rattle.section_manager.specs.Refusing.{HasFailed}
use Rattle.segments.specs.FixedReading.{HasNotRead}

pub not_read_since : {T : Type 0} (x : Result T Error) (few some many : ℕ) → few ≤ some → HasNotRead x some many → HasNotRead x few many
not_read_since x few some many le has = elim has [
  | inl damage ↦ inl damage
  | inr other ↦ inr (elim other [
    | inl code ↦ inl code
    | inr failed ↦ inr (elim failed [ inl mem ↦ inl mem | inr fault ↦ inr (fault.0, rose_since few some many le fault.1) ])
  ])
]

pub failed_since : {T : Type 0} (x : Result T Error) (few some many : ℕ) → few ≤ some → HasFailed x some many → HasFailed x few many
failed_since x few some many le has = elim has [ inl mem ↦ inl mem | inr fault ↦ inr (fault.0, rose_since few some many le fault.1) ]
