-- A buffer that is filled with bytes from a place on.
use Rattle.std.specs.Prelude.{◌≡◌, ℕ, ◌+◌, ◌<◌, List, length, get_or}

-- it has the content's bytes from there on, with zeros past the end
abbrev pub HasBytes : List ℕ → ℕ → List ℕ → Type 0
HasBytes content offset buf = (i : ℕ) → i < length buf → get_or buf i 0 ≡ get_or content (offset + i) 0
