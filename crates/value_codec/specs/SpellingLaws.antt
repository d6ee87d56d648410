-- Proofs of the laws of values: what is refused, and that a spelling has one value.
use Rattle.std.specs.Prelude.{◌≡◌, ℕ, ◌<◌, ◌≤◌, ◌^◌, ℤ, List, length, Some, None, FitsSigned}
use Rattle.std.specs.Int.{w32, w64, from_be_bytes, cast_unsigned}
use Rattle.std.proofs.Common.{arith, ap, sym, ◌∙◌, refl, to_z, to_z-of_z}
use Rattle.std.proofs.Math.Facts.{Fits-of_z}
use Rattle.std.proofs.lemmas.Bool.Decides.{nat_tests}
use Rattle.std.proofs.lemmas.Nat.{from_be_bytes-to_be_bytes_4, from_be_bytes-to_be_bytes_8}
use Rattle.value_codec.specs.declared.codec.Error.TheVariants.{EndOfBuffer, ExtraBytes, Mem}
use Rattle.value_codec.specs.Spelling.{u64_spelling, i32_spelling, size_refusal, length_refusal, IsFixed}

pub size_too_few : (size : ℕ) (bytes : List ℕ) → length bytes < size → size_refusal size bytes ≡ Some EndOfBuffer
size_too_few size bytes few = grind (arith, nat_tests)

pub size_too_many : (size : ℕ) (bytes : List ℕ) → size < length bytes → size_refusal size bytes ≡ Some ExtraBytes
size_too_many size bytes many = grind (arith, nat_tests)

pub size_few_only : (size : ℕ) (bytes : List ℕ) → size_refusal size bytes ≡ Some EndOfBuffer → length bytes < size
size_few_only size bytes is = grind (arith, nat_tests)

pub size_many_only : (size : ℕ) (bytes : List ℕ) → size_refusal size bytes ≡ Some ExtraBytes → size < length bytes
size_many_only size bytes is = grind (arith, nat_tests)

pub size_not_memory : (size : ℕ) (bytes : List ℕ) → size_refusal size bytes ≡ Some Mem → ⊥
size_not_memory size bytes is = grind (arith, nat_tests)

pub u64_kept : (n : ℕ) → size_refusal 8 (u64_spelling n) ≡ None
u64_kept n = refl

pub u64_one_value : (m n : ℕ) → m < 2 ^ 64 → n < 2 ^ 64 → u64_spelling m ≡ u64_spelling n → m ≡ n
u64_one_value m n below below' same =
    sym (from_be_bytes-to_be_bytes_8 m below) ∙ ap (from_be_bytes w64) same ∙ from_be_bytes-to_be_bytes_8 n below'

pub i32_kept : (z : ℤ) → size_refusal 4 (i32_spelling z) ≡ None
i32_kept z = refl

pub i32_one_value : (y z : ℤ) → FitsSigned w32 y → FitsSigned w32 z → i32_spelling y ≡ i32_spelling z → y ≡ z
i32_one_value y z fits fits' same =
    sym (to_z-of_z fits) ∙ ap (to_z w32) bits ∙ to_z-of_z fits'
  where
    bits : cast_unsigned w32 y ≡ cast_unsigned w32 z
    bits = sym (from_be_bytes-to_be_bytes_4 _ (omega (arith, Fits-of_z fits))) ∙ ap (from_be_bytes w32) same ∙ from_be_bytes-to_be_bytes_4 _ (omega (arith, Fits-of_z fits'))

pub length_kept : (most : ℕ) (bytes : List ℕ) → length bytes ≤ most → length_refusal most bytes ≡ None
length_kept most bytes fits = grind (arith, nat_tests)

pub length_not_memory : (most : ℕ) (bytes : List ℕ) → length_refusal most bytes ≡ Some Mem → ⊥
length_not_memory most bytes is = grind (arith, nat_tests)

pub u64_fixed : IsFixed 8 u64_spelling (λ n _. n < 2 ^ 64) (λ bytes _. size_refusal 8 bytes)
u64_fixed = record {
  at_least = omega arith;
  at_most = omega arith;
  sized = λ _ _. refl;
  too_few = size_too_few 8;
  too_many = size_too_many 8;
  few_only = size_few_only 8;
  many_only = size_many_only 8;
}

pub i32_fixed : IsFixed 4 i32_spelling (λ z _. FitsSigned w32 z) (λ bytes _. size_refusal 4 bytes)
i32_fixed = record {
  at_least = omega arith;
  at_most = omega arith;
  sized = λ _ _. refl;
  too_few = size_too_few 4;
  too_many = size_too_many 4;
  few_only = size_few_only 4;
  many_only = size_many_only 4;
}
