-- A page begins no sooner than its number.
use Rattle.std.proofs.Common.{ℕ, ◌+◌, ◌<◌, ◌≤◌, arith}
use Rattle.std.proofs.Math.Nat.{le-mul_of_pos_right}
use Rattle.sealed_pages.specs.View.{page_at}

pub index_page : (P k : ℕ) → k ≤ page_at P k
unfolding page_at
index_page P k = let pos : 0 < P + 12 = omega arith in le-mul_of_pos_right k pos
