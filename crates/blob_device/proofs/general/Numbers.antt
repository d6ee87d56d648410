-- Multiples and quotients of numbers, and tests of them.
use Rattle.std.proofs.Common.{Bool, arith, false, refl, sym, true, ℕ, ⊎_elim, ◌%◌, ◌*◌, ◌+◌, ◌/◌, ◌<◌, ◌≡◌, ◌≢◌, ◌≤◌}
use Rattle.std.proofs.Math.Nat.{div-add-mod, div-lt_iff_lt-mul, div-mul-le_self, mul-le-mul_right}
use Rattle.std.proofs.lemmas.Bool.{cases_order}
use Rattle.std.proofs.lemmas.Bool.Decides.{nat_tests}
use Rattle.std.proofs.lemmas.Nat.{div_below, le-div, mul-le}
use Rattle.std.specs.BTreeMap.{is_at}
use Rattle.std.specs.Cmp.{nat_cmp_is}
use Rattle.std.specs.Ordering.{eq_by_cmp, nat_cmp}
use Rattle.std.specs.declared.cmp.Ordering.TheVariants.{Equal, Greater, Less}

pub times_next : (k n : ℕ) → (k + 1) * n ≡ k * n + n
times_next k n = omega arith

pub times_more : (j k n : ℕ) → j < k → j * n + n ≤ k * n
times_more j k n lt = let le : j + 1 ≤ k = omega (arith, lt) in omega (arith, mul-le-mul_right n le, times_next j n)

pub times_sum : (a b n : ℕ) → (a + b) * n ≡ a * n + b * n
times_sum a b n = omega arith

pub div_place : (P i : ℕ) → 0 < P → (i / P * P ≤ i) × (i < i / P * P + P)
div_place P i pos = (div-mul-le_self i P, let below : i < (i / P + 1) * P = (div-lt_iff_lt-mul {k = P} {x = i} {y = i / P + 1} pos).0 (omega arith) in omega (arith, below, times_next (i / P) P))

pub no_rest : (n : ℕ) → 0 % n ≡ 0
no_rest n = omega (arith, div-add-mod 0 n)

-- the place behind the last whole item
pub last_place : (size n p : ℕ) → 1 ≤ size → p * size ≤ n → n < p * size + size → n / size ≡ p
last_place size n p pos le lt =
    let low : p ≤ n / size = le-div p n size (omega (arith, pos)) le in
    let high : n / size < p + 1 = div_below n size (p + 1) (omega (arith, pos)) (omega (arith, lt, times_next p size)) in
    omega (arith, low, high)

-- the place behind an item among n whole ones
pub item_ends : (size n p : ℕ) → p < n / size → p * size + size ≤ n
item_ends size n p lt =
    let next : (p + 1) * size ≡ p * size + size = omega arith in
    omega (arith, next, mul-le (p + 1) size (n / size) size (omega (arith, lt)) (omega arith), div-mul-le_self n size)

pub lt_from_less : (a b : ℕ) → nat_cmp a b ≡ Less → a < b
lt_from_less a b h =
    ⊎_elim
    (λ (e : a ≡ b). absurd (let x = nat_cmp_is a b Equal e in cc))
    (⊎_elim
    (λ (l : a < b). l)
    (λ (g : b < a). absurd (let x = nat_cmp_is a b Greater g in cc)))
    (cases_order a b)

pub same_number : (x y : ℕ) → eq_by_cmp nat_cmp x y ≡ true → x ≡ y
same_number x y is = grind (arith, nat_tests)

-- another key of a map
pub other_at : (x s : ℕ) (b : Bool) → is_at (nat_cmp x) s ≡ b → s ≢ x → b ≡ false
other_at x s false is other = refl
other_at x s true is other = absurd (other (sym (same_number x s is)))

pub not_at : (x s : ℕ) → s ≢ x → is_at (nat_cmp x) s ≡ false
not_at x s other = other_at x s (is_at (nat_cmp x) s) refl other
