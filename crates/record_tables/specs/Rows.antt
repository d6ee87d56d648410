-- Records as they are seen by section and position, and how many of them there may be.
use Rattle.std.specs.Prelude.{◌≡◌, ◌≢◌, ◌⊎◌, ◌↔◌, ℕ, ◌<◌, List, [], length, slice_get, Contains, Option, None, Some, IsSomeAnd, IsTrue, Result, Ok, Err}
use Rattle.std.specs.Global.{Vec}
use Rattle.std.specs.List.{AllByRecursion}
use Rattle.std.specs.List.Sorted.{IsStrictlySortedBy}
use Rattle.std.specs.Ordering.{nat_cmp}
use Rattle.ordinal_store.specs.Numbers.{Set}

-- a record: its index and its key
pub record Row (K : Type 0) : Type 0 where
  pub index : ℕ
  pub key : K

-- ---- by index

-- Where the rows with an index stand.
pub record ArePositions {K : Type 0} (rows : List (Row K)) (index : ℕ) (positions : List ℕ) : Type 0 where
  -- in order, and each once
  pub ascending : IsStrictlySortedBy nat_cmp positions
  -- a row stands at each, with the index, and no other row has it
  pub exact : (p : ℕ) → Contains positions p ↔ IsSomeAnd (slice_get rows p) (λ r. r.index ≡ index)

-- the positions of the rows that have the index are found, or memory was short for that of one
abbrev pub FindsPositions : {K E : Type 0} → List (Row K) → ℕ → Result (Vec ℕ) E → Type 0
FindsPositions rows index (Ok positions) = ArePositions rows index positions.items
FindsPositions rows index (Err e) = (p : ℕ) × IsSomeAnd (slice_get rows p) (λ r. r.index ≡ index)

-- the first of them is found, if there is one
abbrev pub FindsFirst : {K : Type 0} → List (Row K) → ℕ → Option ℕ → Type 0
FindsFirst rows index (Some p) =
    IsSomeAnd (slice_get rows p) (λ r. r.index ≡ index)
    × ((q : ℕ) → q < p → IsSomeAnd (slice_get rows q) (λ r. r.index ≢ index))
FindsFirst rows index None = (q : ℕ) → IsSomeAnd (slice_get rows q) (λ r. r.index ≡ index) → ⊥

-- the numbers of the set are the indices of the rows, of whichever section
abbrev pub AreIndicesOf : {K : Type 0} → (ℕ → List (Row K)) → Set → Type 0
AreIndicesOf {K} rows set =
    (i : ℕ) → IsTrue (set i) ↔ ((s : ℕ) × (r : Row K) × Contains (rows s) r × (r.index ≡ i))

-- ---- room

-- of these lists, by section, fewer than n have elements
abbrev pub FewerThan : {X : Type 0} → ℕ → (ℕ → List X) → Type 0
FewerThan n lists =
    (ss : List ℕ) → IsStrictlySortedBy nat_cmp ss → AllByRecursion (λ s. lists s ≢ []) ss → length ss < n

-- At most so many lists with elements, and so many elements in each, may be had; one more element fits into the list
-- of the section.
abbrev pub HasRoom : {X : Type 0} → ℕ → ℕ → (ℕ → List X) → ℕ → Type 0
HasRoom sections per_section lists s =
    ((lists s ≢ []) × (length (lists s) < per_section)) ⊎ ((lists s ≡ []) × FewerThan sections lists)
