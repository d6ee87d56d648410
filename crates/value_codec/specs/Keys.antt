-- The bytes of the two keys.
use Rattle.std.specs.Prelude.{◌≡◌, ℕ, List, length}
use mathlib.Core.HLevel.{is_prop→PathP}
use Rattle.std.proofs.Math.Nat.{ℕ_set}
use Rattle.value_codec.specs.declared.key.Key8.{Key8}
use Rattle.value_codec.specs.declared.key.Key32.{Key32}

-- a key of eight bytes is its bytes
abbrev pub key8_bytes : Key8 → List ℕ
key8_bytes key = key.bytes

-- and so is a key of 32
abbrev pub key32_bytes : Key32 → List ℕ
key32_bytes key = key.bytes

-- keys with equal bytes are equal, since their lengths can be proved in one way only
pub key8_one : (x y : Key8) → key8_bytes x ≡ key8_bytes y → x ≡ y
key8_one x y same = λ i. record {
  bytes = same i;
  whole = is_prop→PathP (λ j. length (same j) ≡ 8) (λ j p q. ℕ_set _ _ p q) x.whole y.whole i;
}

pub key32_one : (x y : Key32) → key32_bytes x ≡ key32_bytes y → x ≡ y
key32_one x y same = λ i. record {
  bytes = same i;
  whole = is_prop→PathP (λ j. length (same j) ≡ 32) (λ j p q. ℕ_set _ _ p q) x.whole y.whole i;
}
