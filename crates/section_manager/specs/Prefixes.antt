-- Bytes that others begin with.
use Rattle.std.specs.Prelude.{◌≡◌, ℕ, List, length, take}

-- c begins with these bytes
abbrev pub IsPrefixOf : List ℕ → List ℕ → Type 0
IsPrefixOf kept c = take (length kept) c ≡ kept
