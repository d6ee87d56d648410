-- The laws that make an answer of the reader exact.
use Rattle.std.specs.Prelude.{◌≡◌, ℕ, List}
use Rattle.archive_service.specs.Texts.{Spelled}
use Rattle.archive_service.specs.Script.{IsFirstBad, Spells}

-- a text spells at most one script
abbrev pub OneScript : Type 0
OneScript = (max : ℕ) (text : List ℕ) (a b : List Spelled) → Spells max text a → Spells max text b → a ≡ b

-- a text that spells a script has no bad line
abbrev pub GoodOrBad : Type 0
GoodOrBad = (max : ℕ) (text : List ℕ) (commands : List Spelled) (n : ℕ) → Spells max text commands
    → ¬ (IsFirstBad max text n)

-- one line is the first bad one
abbrev pub OneFirstBad : Type 0
OneFirstBad = (max : ℕ) (text : List ℕ) (m n : ℕ) → IsFirstBad max text m → IsFirstBad max text n → m ≡ n

-- all three
pub record IsExactReading : Type 0 where
  -- a text spells at most one script
  pub one_script : OneScript
  -- a text that spells a script has no bad line
  pub good_or_bad : GoodOrBad
  -- one line is the first bad one
  pub one_first : OneFirstBad
