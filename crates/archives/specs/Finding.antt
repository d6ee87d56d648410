-- Which record a lookup finds.
use Rattle.std.specs.Prelude.{◌≡◌, ℕ, List, slice_get, IsSomeAnd}
use Rattle.archives.specs.Archives.{Archive}
use Rattle.archives.specs.Commands.{Command}
use Rattle.archives.specs.Commands as command
use Rattle.archives.specs.Machine.{section_of}
use Rattle.archives.specs.Rows.{Row}
use Rattle.archives.specs.declared.archive.Identifier.{Identifier}
use Rattle.archives.specs.declared.archive.Identifier.TheVariants as identifier

-- what a lookup goes by; a key is its bytes
pub data Wanted : Type 0 where
  Index : ℕ → Wanted
  Key : List ℕ → Wanted

abbrev pub wanted_of : {K : Type 0} → (K → List ℕ) → Identifier K → Wanted
wanted_of key_bytes (identifier.Index i) = Index i
wanted_of key_bytes (identifier.Key k) = Key (key_bytes k.now)

-- The row of a record of section s that a lookup has to look at: one that has the index, or a key that is alike the
-- wanted one. One by its index is looked for in the index's section alone.
abbrev pub IsCandidate : (List ℕ → List ℕ → Type 0) → ℕ → Wanted → ℕ → Row → Type 0
IsCandidate AreAlike items (Index i) s r = (s ≡ section_of items i) × (r.index ≡ i)
IsCandidate AreAlike items (Key k) s r = AreAlike k r.key

-- the row of one that is wanted: the same, by whole keys
abbrev pub IsWanted : ℕ → Wanted → ℕ → Row → Type 0
IsWanted = IsCandidate (λ k key. key ≡ k)

-- the commands that ask for its value, and whether it is there
abbrev pub get_command : Wanted → Command (List ℕ)
get_command (Index i) = command.Get i
get_command (Key k) = command.GetKey k

abbrev pub has_command : Wanted → Command (List ℕ)
has_command (Index i) = command.Has i
has_command (Key k) = command.HasKey k

module _ {F B : Type 0} (a : Archive F B) (wanted : Wanted) where
  -- record p of section s is wanted
  abbrev pub IsAt : ℕ → ℕ → Type 0
  IsAt s p = IsSomeAnd (slice_get (a.rows s) p) (IsWanted a.items wanted s)

  -- some record of the section is wanted
  abbrev pub IsIn : ℕ → Type 0
  IsIn s = (p : ℕ) × IsAt s p

-- record p of section s is one of these
abbrev pub IsNear : {F B : Type 0} → (List ℕ → List ℕ → Type 0) → Archive F B → Wanted → ℕ → ℕ → Type 0
IsNear AreAlike a wanted s p = IsSomeAnd (slice_get (a.rows s) p) (IsCandidate AreAlike a.items wanted s)
