-- Where pages and slots stand in a blob, and what stands at a place of its content.
use Rattle.std.specs.Prelude.{◌≡◌, ℕ, zero, suc, ◌+◌, ◌*◌, ◌<◌, ◌≤◌, Bool, cond, List, [], ◌∷◌, length, get_or}

-- the byte at each place
abbrev pub View : Type 0
View = ℕ → ℕ

-- past the end of a content the bytes are zeros
abbrev pub view : List ℕ → View
view c i = get_or c i 0

-- n bytes from a place on
unfoldable pub bytes_at : View → ℕ → ℕ → List ℕ
bytes_at v at zero = []
bytes_at v at (suc n) = v at ∷ bytes_at v (at + 1) n

-- where page k begins: P data bytes, then slot A and slot B of six bytes each
unfoldable pub page_at : ℕ → ℕ → ℕ
page_at P k = k * (P + 12)

-- slot A where `second` is false, else slot B
abbrev pub slot_at : ℕ → ℕ → Bool → ℕ
slot_at P k second = page_at P k + P + cond second 6 0

-- i is one of the n places from `at` on
pub record Within (at n i : ℕ) : Type 0 where
  pub low : at ≤ i
  pub high : i < at + n

-- these bytes stand in the list from a place on
pub record StandsAt (bytes : List ℕ) (at : ℕ) (part : List ℕ) : Type 0 where
  pub room : at + length part ≤ length bytes
  pub same : (i : ℕ) → i < length part → get_or part i 0 ≡ get_or bytes (at + i) 0
