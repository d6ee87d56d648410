-- A list of names.
use Rattle.std.specs.Prelude.{ℕ, List, map, Vec}
use Rattle.std.specs.declared.alloc.Global.{Global}

-- the bytes of each name
abbrev pub names_of : List (Vec ℕ Global) → List (List ℕ)
names_of names = map (λ v. v.items) names
