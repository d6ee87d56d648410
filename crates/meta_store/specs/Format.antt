-- What a map is stored by: how its keys are ordered and spelled, how its values are, and the seal.
use Rattle.std.specs.Prelude.{ℕ, List}
use Rattle.std.specs.declared.cmp.Ordering.{Ordering}
use Rattle.value_codec.specs.declared.codec.Codec as codec
use Rattle.value_codec.specs.declared.seal.Seal as seal

pub record Format (K V : Type 0) : Type 1 where
  pub compare : K → K → Ordering
  pub key_bytes : K → List ℕ
  pub spelling : V → List ℕ
  pub accepted : V → Type 0
  pub seal : List ℕ → ℕ

-- keys and values as their types spell them, values under this configuration
abbrev pub format_of : {K V C S : Type 0} → (K → K → Ordering) → (K → List ℕ) → codec.Ghosts V C → seal.Ghosts S → C → Format K V
format_of compare key_bytes value sealing config = record {
  compare = compare;
  key_bytes = key_bytes;
  spelling = value.spelling;
  accepted = λ v. value.accepted v config;
  seal = sealing.seal_of;
}
