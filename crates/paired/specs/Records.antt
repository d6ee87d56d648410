-- Records of one size, each of which names a frame: which of them are sound, and which are kept.
use Rattle.std.specs.Prelude.{ℕ, zero, suc, ◌+◌, ◌-◌, ◌||◌, ◌&&◌, ◌==◌, nat_le, nat_lt, if◌then◌else◌, Bool, List, [], ◌∷◌, length, map}
use Rattle.std.specs.Int.{w32, from_be_bytes}
use Rattle.segments.specs.FixedItems.{item_count, item_at}
use Rattle.paired.specs.Frames.{bytes_at}

-- f of each number below n, in order
abbrev pub each_below : {X : Type 0} → ℕ → (ℕ → X) → List X
each_below zero f = []
each_below (suc n) f = f 0 ∷ each_below n (λ i. f (i + 1))

-- the whole records in these bytes
abbrev pub records : ℕ → List ℕ → List (List ℕ)
records size bytes = each_below (item_count size bytes) (item_at size bytes)

-- The range at a place has at least four bytes, lies in these bytes, and its last four are the seal of the others.
abbrev pub is_sound : (List ℕ → ℕ) → List ℕ → ℕ × ℕ → Bool
is_sound seal values (at, n) =
    nat_le 4 n && nat_le (at + n) (length values)
    && (seal (bytes_at values at (n - 4)) == from_be_bytes w32 (bytes_at values (at + (n - 4)) 4))

-- of the records from this position on, the longest prefix in which each at or above the marker is sound
abbrev pub unbroken_prefix : (List ℕ → Bool) → ℕ → ℕ → List (List ℕ) → List (List ℕ)
unbroken_prefix sound marker position [] = []
unbroken_prefix sound marker position (r ∷ rs) =
    if nat_lt position marker || sound r then r ∷ unbroken_prefix sound marker (position + 1) rs else []

-- a record's bytes, and the spelling of its value
pub record Entry : Type 0 where
  pub stored : List ℕ
  pub value : List ℕ

-- the record with what its frame spells in these bytes
abbrev pub entry_of : (List ℕ → ℕ × ℕ) → List ℕ → List ℕ → Entry
entry_of place values r = record { stored = r; value = bytes_at values (place r).0 ((place r).1 - 4) }

-- the records of a section with their values
abbrev pub entries_of : (List ℕ → ℕ × ℕ) → ℕ → List ℕ → List ℕ → List Entry
entries_of place size index values = map (entry_of place values) (records size index)
