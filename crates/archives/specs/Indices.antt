-- What an archive tells of its indices: each answer is a fact of the set that they are, as the store of values by index tells it.
use Rattle.std.specs.Prelude.{ℕ, List, Result}
use Rattle.ordinal_store.specs.Indices as indices
use Rattle.ordinal_store.specs.Numbers.{Set}
use Rattle.archives.specs.declared.error.Error.{Error}
use Rattle.archives.specs.declared.error.Error.TheVariants.{Mem}
pub use Rattle.ordinal_store.specs.Indices.{IsGap}

-- The first so many absent indices from one on, of which each has an index above it; or want of memory.
abbrev pub GivesMissing : Set → ℕ → ℕ → Result (List ℕ) Error → Type 0
GivesMissing set start most result = indices.GivesMissing Mem set start most result
