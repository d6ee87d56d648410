-- The words of keys.
use Rattle.std.specs.Prelude.{ℕ, List, ◌++◌, take, replicate}

-- the first four bytes, with zeros behind a shorter key
abbrev pub four_bytes : List ℕ → List ℕ
four_bytes key = take 4 (key ++ replicate 4 0)
