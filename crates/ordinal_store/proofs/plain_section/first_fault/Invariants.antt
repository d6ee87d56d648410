use Rattle.std.proofs.Common.{◌≡◌, ℕ, List, ◌<◌, Some, true}
use Rattle.ordinal_store.specs.Marking.{IsFaulty, is_wanted}
use Rattle.ordinal_store.specs.Slots.{stored_by}
use Rattle.ordinal_store.proofs.plain_section.first_fault.Given as goal

abbrev pub invariant-loop-position : goal.invariant-loop-position
invariant-loop-position g l = (partition : List ℕ) (q : ℕ) → q < l.position → is_wanted l.items (Some l.marks) q ≡ true
    → IsFaulty (stored_by partition l.items g.A.CodecFixed.SIZE g.S.Seal.seal_of g.A.Codec.refusal) (Some l.marks) l.blob q → ⊥
