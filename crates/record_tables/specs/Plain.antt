-- What the plain lists show: of each section the rows, in the order in which they were added.
use Rattle.std.specs.Prelude.{◌≡◌, ◌≢◌, ◌↔◌, ℕ, ◌<◌, ◌≤◌, Bool, nat_eq, List, [], ◌∷◌, ◌++◌, map, slice_get, Contains, IsSomeAnd, IsTrue, Result, Ok, Err}
use Rattle.std.specs.List.{filter}
use Rattle.record_tables.specs.Rows.{Row}
use Rattle.record_tables.specs.declared.plain.Row.{Row as Listed}
use Rattle.record_tables.specs.declared.plain.Lists.{Lists}

module _ {W : Type 0} where
  -- the word stands for the key
  abbrev pub listed_row : Listed W → Row W
  listed_row r = record { index = r.index; key = r.word }

  -- those of a section
  abbrev pub rows_among : ℕ → List (Listed W) → List (Row W)
  rows_among s rs = map listed_row (filter (λ r. nat_eq r.section s) rs)

  abbrev pub listed_rows : Lists W → ℕ → List (Row W)
  listed_rows l s = rows_among s l.rows.items

  -- The record is the last of its section.
  pub record AddsListed (r : Listed W) (old new : Lists W) : Type 0 where
    -- behind those that there were
    pub here : listed_rows new r.section ≡ listed_rows old r.section ++ listed_row r ∷ []
    -- other sections have those that they had
    pub others : (s : ℕ) → s ≢ r.section → listed_rows new s ≡ listed_rows old s

  -- It was added, or memory was short and nothing has changed.
  abbrev pub ListsOneMore : {T E : Type 0} → Listed W → Lists W → Result T E → Lists W → Type 0
  ListsOneMore r old (Ok done) new = AddsListed r old new
  ListsOneMore r old (Err e) new = (s : ℕ) → listed_rows new s ≡ listed_rows old s

  -- The records of the sections below a bound are forgotten.
  pub record ForgetsBelow (bound : ℕ) (old new : Lists W) : Type 0 where
    -- they have none
    pub gone : (s : ℕ) → s < bound → listed_rows new s ≡ []
    -- other sections have those that they had
    pub others : (s : ℕ) → bound ≤ s → listed_rows new s ≡ listed_rows old s

  -- These are section and position of the records with the word.
  pub record ArePlaces (eq : W → W → Bool) (w : W) (rows : ℕ → List (Row W)) (places : List (ℕ × ℕ)) : Type 0 where
    -- of each of them, and of no other
    pub exact : (s p : ℕ) → Contains places (s, p) ↔ IsSomeAnd (slice_get (rows s) p) (λ r. IsTrue (eq r.key w))
