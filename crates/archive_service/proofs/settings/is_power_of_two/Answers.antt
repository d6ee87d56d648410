-- One digit of a number is set exactly where it is a power of two.
use Rattle.std.proofs.Common.{◌≡◌, ℕ, zero, suc, ◌*◌, ◌/◌, ◌%◌, ◌^◌, ◌≤◌, inl, inr, count_ones, nat_eq, eq-eqb, ap, ◌∙◌, arith}
use lib.Count.{ones_step}
use Rattle.std.proofs.Math.Nat.{pow-suc}
use Rattle.std.proofs.lemmas.Bool.{cases_Bool, eqb-false, eqb-true}
use Rattle.std.proofs.lemmas.Nat.{ones_le_self, zero_from_ones}
use Rattle.archive_service.specs.Settings.{IsPowerOfTwo}
use Rattle.archive_service.proofs.settings.is_power_of_two.Goals as goal

-- by halves: an odd number is 1, and an even one is the double of a power
power_below : (bound n : ℕ) → n ≤ bound → count_ones n ≡ 1 → IsPowerOfTwo n
power_below zero n h one = absurd (omega (arith, ones_le_self n))
power_below (suc bound) n h one =
    let step = ones_step n in
    elim (cases_Bool (nat_eq (n % 2) 0)) [
      | inl even ↦
          let none : n % 2 ≡ 0 = eqb-true (n % 2) 0 even in
          let half = power_below bound (n / 2) (omega arith) (omega (arith, step, none)) in
          (suc half.0, omega (arith, none, half.1, pow-suc 2 half.0))
      | inr odd ↦
          let rest = zero_from_ones (n / 2) (omega (arith, step, one, eqb-false (n % 2) 0 odd)) in
          (0, omega (arith, rest, eqb-false (n % 2) 0 odd))
    ]

ones_double : (n : ℕ) → count_ones (n * 2) ≡ count_ones n
ones_double n =
    let half : (n * 2) / 2 ≡ n = omega arith in
    omega (arith, ones_step (n * 2), ap count_ones half)

ones_of_power : (k : ℕ) → count_ones (2 ^ k) ≡ 1
ones_of_power zero =
    let one : 2 ^ 0 ≡ 1 = omega arith in
    ap count_ones one ∙ omega (arith, ones_step 1, ones_le_self 0)
ones_of_power (suc k) = ap count_ones (pow-suc 2 k) ∙ ones_double (2 ^ k) ∙ ones_of_power k

pub returns : goal.returns
returns c =
    let n = c.args.n in (
      λ yes. power_below n n (omega arith) (eqb-true (count_ones n) 1 yes),
      λ power. eq-eqb (count_ones n) 1 (ap count_ones power.1 ∙ ones_of_power power.0),
    )
