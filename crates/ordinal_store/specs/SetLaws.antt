-- What a set is asked has one answer, which its members alone decide.
use Rattle.std.specs.Prelude.{◌≡◌, ℕ, List, Option}
use Rattle.ordinal_store.specs.Numbers.{Set, AreMissing, AreRuns, AreRunsFrom, IsGreatest, IsLeast, IsNextRun, IsRunEnd}

-- two answers, of one set and of another, are the same
pub record HaveOneAnswer (s t : Set) : Type 0 where
  -- all runs
  pub runs : (xs ys : List (ℕ × ℕ)) → AreRuns s xs → AreRuns t ys → xs ≡ ys
  -- those that end at a number or later
  pub runs_from : (v : ℕ) (xs ys : List (ℕ × ℕ)) → AreRunsFrom s v xs → AreRunsFrom t v ys → xs ≡ ys
  -- the end of the run around a number
  pub end : (v : ℕ) (x y : Option ℕ) → IsRunEnd s v x → IsRunEnd t v y → x ≡ y
  -- the start of the next run
  pub next : (v : ℕ) (x y : Option ℕ) → IsNextRun s v x → IsNextRun t v y → x ≡ y
  -- so many absent numbers from one on
  pub missing : (from most : ℕ) (xs ys : List ℕ) → AreMissing s from most xs
      → AreMissing t from most ys → xs ≡ ys
  -- the least member
  pub least : (x y : Option ℕ) → IsLeast s x → IsLeast t y → x ≡ y
  -- the greatest member
  pub greatest : (x y : Option ℕ) → IsGreatest s x → IsGreatest t y → x ≡ y
