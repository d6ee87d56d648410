-- What a set of indices answers: each answer is a fact of the set.
use Rattle.std.specs.Prelude.{◌≡◌, ℕ, List, Option, Result, Ok, Err}
use Rattle.ordinal_store.specs.Numbers.{Set, AreMissing, IsNextRun, IsRunEnd}

-- Where the run of indices ends, and where the next one begins.
pub record IsGap (set : Set) (index : ℕ) (gap : Option ℕ × Option ℕ) : Type 0 where
  -- the end of the run that holds the index, if it is in the set
  pub end : IsRunEnd set index gap.0
  -- the start of the first run that begins above it, if there is one
  pub next : IsNextRun set index gap.1

-- The first so many absent indices from one on, of which each has an index above it; or want of memory, which is this error.
abbrev pub GivesMissing : {E : Type 0} → E → Set → ℕ → ℕ → Result (List ℕ) E → Type 0
GivesMissing none set start most (Ok numbers) = AreMissing set start most numbers
GivesMissing none set start most (Err e) = e ≡ none
