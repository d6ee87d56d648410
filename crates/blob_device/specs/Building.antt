-- A table that is made of another, value by value, in the order of the keys, with a state that runs along.
use Rattle.std.specs.Prelude.{ℕ, cond, List, [], ◌∷◌, Option, Some, None, Vec}
use Rattle.std.specs.Str.{bytes_eq}
use Rattle.std.specs.BTreeMap.{BTreeMap}
use Rattle.std.specs.declared.alloc.Global.{Global}
use Rattle.std.specs.Map.{keys_of}
use Rattle.std.specs.List.{AllByRecursion}
use Rattle.std.specs.List.Sorted.{IsStrictlySortedBy}
use Rattle.blob_device.specs.Disk.{Key}
use Rattle.blob_device.specs.Tables.{by_bytes}

-- f with what was made for one name, if anything was
abbrev pub placed : {T : Type 0} → (List ℕ → Option T) → List ℕ → Option T → List ℕ → Option T
placed f name None q = f q
placed f name (Some x) q = cond (bytes_eq q name) (Some x) (f q)

-- a table whose partitions and names ascend
abbrev pub IsSortedTable : {V : Type 0} → List (Vec ℕ Global × BTreeMap (Vec ℕ Global) V) → Type 0
IsSortedTable ps = IsStrictlySortedBy by_bytes (keys_of ps) × AllByRecursion (λ p. IsStrictlySortedBy by_bytes (keys_of p.1.entries)) ps

-- the state after all values that come before a name, and before a key
module _ {V S : Type 0} (next : S → V → S) where
  abbrev pub state_in : S → List (Vec ℕ Global × V) → List ℕ → S
  state_in s [] q = s
  state_in s (e ∷ es) q = cond (bytes_eq q e.0.items) s (state_in (next s e.1) es q)

  abbrev pub after_all : S → List (Vec ℕ Global × V) → S
  after_all s [] = s
  after_all s (e ∷ es) = after_all (next s e.1) es

  abbrev pub state_at : S → List (Vec ℕ Global × BTreeMap (Vec ℕ Global) V) → Key → S
  state_at s [] k = s
  state_at s (p ∷ ps) k = cond (bytes_eq k.0 p.0.items) (state_in s p.1.entries k.1) (state_at (after_all s p.1.entries) ps k)

-- what is made of the values, placed one after another
module _ {V S T : Type 0} (makes : S → V → Option T) (next : S → V → S) where
  abbrev pub names_built : S → List (Vec ℕ Global × V) → (List ℕ → Option T) → List ℕ → Option T
  names_built s [] f = f
  names_built s (e ∷ es) f = names_built (next s e.1) es (placed f e.0.items (makes s e.1))

  abbrev pub table_built : S → List (Vec ℕ Global × BTreeMap (Vec ℕ Global) V) → (Key → Option T) → Key → Option T
  table_built s [] f = f
  table_built s (p ∷ ps) f = table_built (after_all {V = V} {S = S} next s p.1.entries) ps (λ k. cond (bytes_eq k.0 p.0.items) (names_built s p.1.entries (λ _. None) k.1) (f k))
