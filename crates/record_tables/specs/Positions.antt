-- Of each offset, which is an index less the first of its section, the positions of the records with that index.
pub use Rattle.record_tables.specs.Firsts.{first_in, first_of, further_of}
use Rattle.std.specs.Prelude.{◌≡◌, ◌≢◌, ℕ, ◌<◌, List, [], ◌∷◌, ◌++◌, length, slice_get, Option, None, Some, Result, Ok, Err}
use Rattle.std.specs.BTreeMap.{BTreeMap, get}
use Rattle.std.specs.Global.{Vec}
use Rattle.std.specs.Ordering.{nat_cmp}
use Rattle.record_tables.specs.Firsts.{HasSpareFurther}
use Rattle.record_tables.specs.declared.positions.First.{First}
use Rattle.record_tables.specs.declared.positions.Positions.{Positions}

-- with no first there are none; the others come behind it
abbrev pub all_of : Option ℕ → List ℕ → List ℕ
all_of None further = []
all_of (Some first) further = first ∷ further

abbrev pub positions_of : Positions → ℕ → List ℕ
positions_of t o = all_of (first_of (slice_get t.firsts.items o)) (further_of (get nat_cmp t.further o))

-- One position more fits without memory: a first one into the vector, and another into the list of the offset.
abbrev pub HasRoomBy : Option ℕ → List First → BTreeMap ℕ (Vec ℕ) → ℕ → Type 0
HasRoomBy None firsts further o = o < length firsts
HasRoomBy (Some first) firsts further o = HasSpareFurther (get nat_cmp further o)

abbrev pub HasPositionRoom : Positions → ℕ → Type 0
HasPositionRoom t o = HasRoomBy (first_of (slice_get t.firsts.items o)) t.firsts.items t.further o

-- The position goes last at the offset.
pub record AddsPosition (o p : ℕ) (old new : Positions) : Type 0 where
  -- behind those that there were
  pub here : positions_of new o ≡ positions_of old o ++ p ∷ []
  -- other offsets have those that they had
  pub others : (q : ℕ) → q ≢ o → positions_of new q ≡ positions_of old q

-- the positions are given, or memory was short, since there are some
abbrev pub GivesPositions : {E : Type 0} → List ℕ → Result (Vec ℕ) E → Type 0
GivesPositions positions (Ok given) = given.items ≡ positions
GivesPositions positions (Err e) = positions ≢ []
