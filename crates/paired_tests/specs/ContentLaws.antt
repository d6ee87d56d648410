-- Values that are accepted are not refused, and want of memory refuses none.
use Rattle.std.specs.Prelude.{◌≡◌, ◌≢◌, ℕ, List, length, Some, None}
use Rattle.std.proofs.Common.{arith}
use Rattle.std.proofs.lemmas.Bool.Decides.{nat_tests}
use Rattle.value_codec.specs.declared.codec.Error.TheVariants.{Mem}
use Rattle.paired_tests.specs.Contents.{five_refusal}

pub five_kept : (bytes : List ℕ) → length bytes ≢ 5 → five_refusal bytes ≡ None
five_kept bytes other = grind (arith, nat_tests)

pub five_not_memory : (bytes : List ℕ) → five_refusal bytes ≡ Some Mem → ⊥
five_not_memory bytes is = grind (arith, nat_tests)
