-- A number in little-endian base 128 in its shortest spelling, and which number stands at the start of some bytes.
use Rattle.std.specs.Prelude.{◌≡◌, ℕ, zero, suc, ◌+◌, ◌*◌, ◌/◌, ◌%◌, ◌<◌, ◌≤◌, ◌⊎◌, List, [], ◌∷◌, ◌++◌, All, length, take, nat_lt, nat_le, bytes_eq, ◌&&◌, Bool, Result, Ok, Err, if◌then◌else◌}
use Rattle.std.specs.List.{list_all}
use Rattle.value_codec.specs.declared.codec.Error.{Error}
use Rattle.value_codec.specs.declared.codec.Error.TheVariants.{EndOfBuffer, InvalidVarint}

-- A byte below 128 is the last, and stands for itself. One from 128 on holds the low seven bits, and
-- the bytes behind it spell the rest.
abbrev pub IsBase128 : List ℕ → ℕ → Type 0
IsBase128 [] n = ⊥
IsBase128 (b ∷ []) n = (b < 128) × (n ≡ b)
IsBase128 (b ∷ c ∷ bs) n = (128 ≤ b) × (b < 256) × (high : ℕ) × (n + 128 ≡ b + 128 * high) × IsBase128 (c ∷ bs) high

-- The same, where the rest is never 0, so that no byte could be left out.
abbrev pub IsVarint : List ℕ → ℕ → Type 0
IsVarint [] n = ⊥
IsVarint (b ∷ []) n = (b < 128) × (n ≡ b)
IsVarint (b ∷ c ∷ bs) n = (128 ≤ b) × (b < 256) × (high : ℕ) × (0 < high) × (n + 128 ≡ b + 128 * high) × IsVarint (c ∷ bs) high

-- the low seven bits of a number, and behind them the rest where it isn't 0, for up to `more` times
unfoldable pub varint_within : ℕ → ℕ → List ℕ
varint_within zero n = n ∷ []
varint_within (suc more) n = if nat_lt n 128 then n ∷ [] else (128 + n % 128) ∷ varint_within more (n / 128)

-- the one list of bytes that is the number's varint
unfoldable pub varint : ℕ → List ℕ
varint n = varint_within n n

-- the bytes begin with the varint of this number below `limit`, which takes this many of them
pub record BeginsWithVarint (limit : ℕ) (bytes : List ℕ) (n len : ℕ) : Type 0 where
  pub within : len ≤ length bytes
  pub spelled : IsVarint (take len bytes) n
  pub in_range : n < limit

-- the bytes begin with no varint of a number below `limit`
abbrev pub BeginsWithNone : ℕ → List ℕ → Type 0
BeginsWithNone limit bytes = (n len : ℕ) → n < limit → IsVarint (take len bytes) n → ⊥

-- there are fewer bytes than the longest varint has, and each of them asks for one more
pub record IsCutShort (longest : ℕ) (bytes : List ℕ) : Type 0 where
  pub few : length bytes < longest
  pub goes_on : All (λ b. 128 ≤ b) bytes

-- why no number below `limit` is read: the bytes are cut short, or they begin with none
abbrev pub IsWhyNone : ℕ → ℕ → List ℕ → Error → Type 0
IsWhyNone limit longest bytes e =
    ((e ≡ EndOfBuffer) × IsCutShort longest bytes) ⊎ ((e ≡ InvalidVarint) × BeginsWithNone limit bytes)

-- bytes that begin with the varint of a number below `limit` are read as that number
abbrev pub ReadsBack : ℕ → List ℕ → Result (ℕ × ℕ) Error → Type 0
ReadsBack limit bytes outcome =
    (n : ℕ) (rest : List ℕ) → n < limit → bytes ≡ varint n ++ rest → outcome ≡ Ok (n, length (varint n))

-- ---- the same as a function, for the meaning of values whose spelling begins with a number

-- what the seven low bits of each byte are worth, those of the first byte the lowest
abbrev pub base128 : List ℕ → ℕ
base128 [] = 0
base128 (b ∷ bs) = b % 128 + 128 * base128 bs

-- the bytes up to the first that asks for no more
abbrev pub prefix_bytes : List ℕ → List ℕ
prefix_bytes [] = []
prefix_bytes (b ∷ bs) = b ∷ (if nat_lt b 128 then [] else prefix_bytes bs)

-- whether there are fewer bytes than the longest varint has, and each asks for one more
abbrev pub is_cut_short : ℕ → List ℕ → Bool
is_cut_short longest bytes = nat_lt (length bytes) longest && list_all (nat_le 128) bytes

-- whether the bytes are the varint of a number below `limit`
abbrev pub is_varint : ℕ → List ℕ → Bool
is_varint limit bytes = nat_lt (base128 bytes) limit && bytes_eq (varint (base128 bytes)) bytes

-- the number at the start and how many bytes it takes, or why there is none
unfoldable pub varint_prefix : ℕ → ℕ → List ℕ → Result (ℕ × ℕ) Error
varint_prefix limit longest bytes =
    if is_cut_short longest bytes then Err EndOfBuffer
    else if is_varint limit (prefix_bytes bytes) then Ok (base128 (prefix_bytes bytes), length (prefix_bytes bytes))
    else Err InvalidVarint
