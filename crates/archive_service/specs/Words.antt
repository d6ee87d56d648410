-- The words of a line, as they are cut and tested.
use Rattle.std.specs.Prelude.{◌≡◌, ◌≢◌, ℕ, ◌/◌, ◌%◌, ◌≤◌, ◌<◌, ◌⊎◌, List, length, slice_index, ◌∷◌, ◌++◌, Option, Some, None}
use Rattle.std.specs.Int.{IsInRange}
use Rattle.std.specs.List.{All, AllByRecursion}

-- what cutting a text at its first such byte finds: the text before the byte and the text behind it, or that it has
-- none
abbrev pub IsCut : ℕ → List ℕ → Option (List ℕ × List ℕ) → Type 0
IsCut byte text (Some parts) = (text ≡ parts.0 ++ byte ∷ parts.1) × AllByRecursion (λ b. b ≢ byte) parts.0
IsCut byte text None = AllByRecursion (λ b. b ≢ byte) text

-- something, with no needless zero in front
abbrev pub IsShortest : List ℕ → Type 0
IsShortest digits = (0 < length digits) × (slice_index digits 0 ≡ 48 → length digits ≡ 1)

-- decimal digits, as few as serve
abbrev pub IsDecimal : List ℕ → Type 0
IsDecimal digits = IsShortest digits × All (IsInRange 48 57) digits

-- 0 to 9, or a to f
abbrev pub IsLowerDigit : ℕ → Type 0
IsLowerDigit c = IsInRange 48 57 c ⊎ IsInRange 97 102 c

-- pairs of lower-case hexadecimal digits
abbrev pub IsHexText : List ℕ → Type 0
IsHexText digits = (length digits % 2 ≡ 0) × All IsLowerDigit digits

-- the digits of a value that is not empty and has at most max bytes
pub record IsValueText (max : ℕ) (digits : List ℕ) : Type 0 where
  -- there are some
  pub some : 0 < length digits
  -- they are digits of whole bytes
  pub hex : IsHexText digits
  -- of no more bytes than that
  pub short : length digits / 2 ≤ max
