-- How much of an input was taken, as the program promises it.
use Rattle.std.specs.Prelude.{◌≡◌, ℕ, List, ◌++◌, length}

-- so many bytes of what was left were taken
pub record TakesPrefix (old new : List ℕ) (P : ℕ → Type 0) : Type 0 where
  -- these were taken
  pub taken : List ℕ
  -- in so great a number
  pub number : P (length taken)
  -- they stood in front of what is left
  pub rest : old ≡ taken ++ new
