-- What appending a text comes to.
use Rattle.std.specs.Prelude.{◌≡◌, ℕ, List, ◌∷◌, ◌++◌, Result, Ok, Err}
use Rattle.archive_service.specs.declared.script.ScriptError.{ScriptError}
use Rattle.archive_service.specs.declared.script.ScriptError.TheVariants.{Mem}

-- the text begins with the line, and an LF behind it
abbrev pub BeginsWith : List ℕ → List ℕ → Type 0
BeginsWith text line = (rest : List ℕ) × (text ≡ line ++ 10 ∷ rest)

-- the text was appended; where memory was wanting, what stood there still stands in front
abbrev pub Appends : {E : Type 0} → Result Unit E → List ℕ → List ℕ → List ℕ → Type 0
Appends (Ok done) old text new = new ≡ old ++ text
Appends (Err e) old text new = (more : List ℕ) × (new ≡ old ++ more)

-- There was no memory for the text.
pub record IsUnwritten (e : ScriptError) (old new : List ℕ) : Type 0 where
  -- it says so
  pub cause : e ≡ Mem
  -- nothing was appended
  pub unchanged : new ≡ old

-- the text was appended whole, or nothing was
abbrev pub WritesText : Result Unit ScriptError → List ℕ → List ℕ → List ℕ → Type 0
WritesText (Ok done) old text new = new ≡ old ++ text
WritesText (Err e) old text new = IsUnwritten e old new
