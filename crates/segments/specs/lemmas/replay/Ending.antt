-- What is ahead of a number is ahead of a greater one.
use Rattle.std.specs.Prelude.{ℕ, ◌≤◌, IsSomeAnd, Option, None, Some}
use Rattle.std.proofs.Common.{arith}

pub ahead_from : (o : Option ℕ) (s t : ℕ) → s ≤ t → IsSomeAnd o (λ n. n ≤ s) → IsSomeAnd o (λ n. n ≤ t)
ahead_from None s t le h = h
ahead_from (Some n) s t le h = omega (arith, le, h)
