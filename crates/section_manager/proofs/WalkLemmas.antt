-- Where no named section is below the floor, none is refused.
use Rattle.std.specs.Prelude.{◌↔◌, ℕ, ◌<◌, ◌≤◌}
use Rattle.std.proofs.Common.{Ok, arith}
use Rattle.section_manager.specs.Refusing.{IsPruned}

-- an answer that is no refusal, where no named section is below the floor
pub none_pruned : {T : Type 0} (v : T) (IsNamed : ℕ → Type 0) (floor : ℕ) → ((s : ℕ) → IsNamed s → floor ≤ s) → IsPruned {T = T} (Ok v) floor ↔ ((s : ℕ) × IsNamed s × (s < floor))
none_pruned v IsNamed floor all = (λ is. absurd (cc is), λ w. absurd (omega (arith, all w.0 w.1, w.2)))
