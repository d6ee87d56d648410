-- The name of a section's blob has 8 bytes.
use Rattle.std.specs.Prelude.{◌≡◌, ℕ, length}
use Rattle.std.specs.Int.{w64, to_be_bytes}
use Rattle.std.proofs.Common.{refl}

pub length-number_name : (n : ℕ) → length (to_be_bytes w64 n) ≡ 8
length-number_name n = refl
