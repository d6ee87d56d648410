-- What the tables show, and how what is held in memory is tied to it: words by position, positions by offset, slots and
-- handles.
use Rattle.std.specs.Prelude.{◌≡◌, ◌≢◌, ◌↔◌, ◌⊎◌, ℕ, ◌+◌, ◌-◌, ◌<◌, ◌≤◌, ◌^◌, Bool, List, [], ◌∷◌, ◌++◌, map, length, slice_get, Contains, Option, None, Some, IsSome, IsSomeAnd, IsTrue, Result, Ok, Err}
use Rattle.std.specs.BTreeMap.{btree_map_len, get}
use Rattle.std.specs.HashMap as hash
use Rattle.std.specs.List.{AllByRecursion, IsDistinct, list_any}
use Rattle.std.specs.Ordering.{nat_cmp}
use Rattle.std.specs.Vec.{vec_len, vec_capacity}
use Rattle.ordinal_store.specs.Numbers.{Set}
use Rattle.record_tables.specs.Handles.{position_of, same_handle, slot_of}
use Rattle.record_tables.specs.Positions.{AddsPosition, HasPositionRoom, positions_of}
use Rattle.record_tables.specs.Rows.{ArePositions, Row}
use Rattle.record_tables.specs.Slots.{AreSlots, AreUsed, HasSlot}
use Rattle.record_tables.specs.Words.{HasWordRoom, handles_of}
use Rattle.record_tables.specs.declared.handle.Handle.{Handle}
use Rattle.record_tables.specs.declared.tables.Entry.{Entry}
use Rattle.record_tables.specs.declared.tables.Table.{Table}
use Rattle.record_tables.specs.declared.tables.Tables.{Tables}

-- ---- what they show

module _ {W K : Type 0} where
  abbrev pub row_of : Entry W K → Row K
  row_of e = record { index = e.index.value; key = e.key.value }

  abbrev pub rows_in : Option (Table W K) → List (Row K)
  rows_in None = []
  rows_in (Some table) = map row_of table.entries.items

  -- the rows of a section, by position
  abbrev pub rows_of : Tables W K → ℕ → List (Row K)
  rows_of t s = rows_in (get nat_cmp t.tables s)

  abbrev pub positions_in : Option (Table W K) → ℕ → List ℕ
  positions_in None o = []
  positions_in (Some table) o = positions_of table.positions o

  -- ---- what is always so

  -- no table is empty, but perhaps that of a section that P names
  abbrev pub AreFilledBut : (ℕ → Type 0) → Tables W K → Type 0
  AreFilledBut P t = (s : ℕ) (table : Table W K)
      → get nat_cmp t.tables s ≡ Some table → (P s → ⊥) → table.entries.items ≢ []

  -- The tables are in order: lookups by index are answered by the vector and the ordered map, and each table has a
  -- slot of its own.
  pub record AreInOrder (P : ℕ → Type 0) (t : Tables W K) : Type 0 where
    -- no record lies before its section, and a u64 has its index
    pub low : (s : ℕ) → AllByRecursion (λ r. (s ≤ r.index) × (r.index < 2 ^ 64)) (rows_of t s)
    -- each offset of a section has the positions of the records with its index
    pub positions : (s o : ℕ)
        → ArePositions (rows_of t s) (s + o) (positions_in (get nat_cmp t.tables s) o)
    -- a position fits into a handle
    pub short : (s : ℕ) → length (rows_of t s) ≤ 2 ^ 40
    -- slots are as they have to be
    pub slots : AreSlots t.slots
    -- the slot of a table is that of its section
    pub own : (s : ℕ) (table : Table W K) → get nat_cmp t.tables s ≡ Some table
        → HasSlot t.slots table.slot s
    -- and no other slot is in use
    pub counted : AreUsed t.slots (btree_map_len t.tables)
    -- no table is empty, but perhaps that of a section that P names
    pub filled : AreFilledBut P t

  module _ (eq : W → W → Bool) (word_of : K → W) where
    -- the handle names a row of a section that has a slot, and the row's key has the word
    abbrev pub HasRowOf : Tables W K → W → Handle → Type 0
    HasRowOf t w h = (s : ℕ) × (table : Table W K) × (get nat_cmp t.tables s ≡ Some table)
        × (table.slot ≡ slot_of h)
        × IsSomeAnd (slice_get (rows_of t s) (position_of h)) (λ r. IsTrue (eq w (word_of r.key)))

    -- Lookups by key are answered by the handles, where keys have these words. Words that Q names may have a list for
    -- a handle that is still to come.
    pub record HaveWordsBut (Q : W → Type 0) (t : Tables W K) : Type 0 where
      -- the word at a position is that of the record's key
      pub words : (s : ℕ) (table : Table W K) → get nat_cmp t.tables s ≡ Some table
          → AllByRecursion (λ e. e.word ≡ word_of e.key.value) table.entries.items
      -- a word has just the handles of the records whose key has it
      pub handles : (w : W) (h : Handle) → Contains (handles_of eq t.words w) h ↔ HasRowOf t w h
      -- each once
      pub once : (w : W) → IsDistinct same_handle (handles_of eq t.words w)
      -- a word without a handle has no list
      pub listed : (w : W) → (Q w → ⊥) → IsSome (hash.get eq t.words.handles w) → handles_of eq t.words w ≢ []

    abbrev pub HaveWords : Tables W K → Type 0
    HaveWords = HaveWordsBut (λ _. ⊥)

  -- No section keeps a record.
  pub record AreEmpty (eq : W → W → Bool) (t : Tables W K) : Type 0 where
    -- no section has a row
    pub none : (s : ℕ) → rows_of t s ≡ []
    -- lookups by index find none
    pub order : AreInOrder (λ _. ⊥) t
    -- nor do those by key, whatever words keys have
    pub words : (word_of : K → W) → HaveWords eq word_of t

  -- ---- lookups by key

  -- some section has the slot of the handle
  abbrev pub HasPlace : Tables W K → Handle → Type 0
  HasPlace t h = (s : ℕ) × HasSlot t.slots (slot_of h) s

  -- The handle is that of the record at a position of section s.
  pub record IsPlace (t : Tables W K) (h : Handle) (s p : ℕ) : Type 0 where
    -- its slot is the section's
    pub section : slice_get t.slots.sections.items (slot_of h) ≡ Some s
    -- and its position is that one
    pub position : position_of h ≡ p

  -- These are the handles of the records whose key has the word.
  pub record AreCandidates (eq : W → W → Bool) (word_of : K → W) (w : W) (t : Tables W K)
      (handles : List Handle) : Type 0 where
    -- each stands there once
    pub once : IsDistinct same_handle handles
    -- each has a place
    pub placed : (h : Handle) → Contains handles h → HasPlace t h
    -- at it there is a record with the word
    pub found : (h : Handle) → Contains handles h → (s p : ℕ) → IsPlace t h s p
        → IsSomeAnd (slice_get (rows_of t s) p) (λ r. IsTrue (eq w (word_of r.key)))
    -- and each record with the word has one
    pub all : (s p : ℕ)
        → IsSomeAnd (slice_get (rows_of t s) p) (λ r. IsTrue (eq w (word_of r.key)))
        → (h : Handle) × Contains handles h × IsPlace t h s p

  -- ---- adding a record

  -- A table takes one record more at an offset without memory.
  pub record HasTableRoom (offset : ℕ) (table : Table W K) : Type 0 where
    -- its word
    pub entry : vec_len table.entries < vec_capacity table.entries
    -- its position
    pub position : HasPositionRoom table.positions offset

  -- The table shows what it did.
  pub record KeepsTable (old new : Table W K) : Type 0 where
    -- it has its slot
    pub slot : new.slot ≡ old.slot
    -- its entries
    pub entries : new.entries.items ≡ old.entries.items
    -- and its positions
    pub positions : (o : ℕ) → positions_of new.positions o ≡ positions_of old.positions o

  -- An entry goes last in the table, at this offset.
  pub record AddsEntry (offset : ℕ) (entry : Entry W K) (old new : Table W K) : Type 0 where
    -- the slot stays
    pub slot : new.slot ≡ old.slot
    -- the entry is the last one
    pub entries : new.entries.items ≡ old.entries.items ++ entry ∷ []
    -- and its position is the last one of the offset
    pub positions : AddsPosition offset (length old.entries.items) old.positions new.positions

  -- The table has no record, and room for one at an offset.
  pub record IsFresh (offset : ℕ) (table : Table W K) : Type 0 where
    -- it has no entry
    pub entries : table.entries.items ≡ []
    -- and no position
    pub positions : (o : ℕ) → positions_of table.positions o ≡ []
    -- growths were made
    pub room : HasTableRoom offset table

  -- the section has a table with room for a record at the offset, and a handle has the table's next position
  abbrev pub HasTableFor : ℕ → ℕ → Tables W K → Type 0
  HasTableFor section offset t = IsSomeAnd (get nat_cmp t.tables section)
      (λ table. HasTableRoom offset table × (length table.entries.items < 2 ^ 40))

  module _ (eq : W → W → Bool) (section : ℕ) (Q : W → Type 0) where
    -- Memory was short: what is held answers lookups as before.
    pub record StayInOrder (old new : Tables W K) : Type 0 where
      -- no table is empty, but perhaps that of the section
      pub order : AreInOrder (λ s. s ≡ section) new
      -- handles are those that they were
      pub words : (word_of : K → W) → HaveWords eq word_of old → HaveWordsBut eq word_of Q new

  module _ (eq : W → W → Bool) (section offset : ℕ) where
    -- The section has a table with room for a record at the offset.
    pub record HasTable (old new : Tables W K) : Type 0 where
      -- no table is empty, but perhaps that of the section
      pub order : AreInOrder (λ s. s ≡ section) new
      -- there is room
      pub table : HasTableFor section offset new
      -- handles are those that they were
      pub words : (word_of : K → W) → HaveWords eq word_of old → HaveWords eq word_of new

    abbrev pub TableEnds : {E : Type 0} → Tables W K → Result Unit E → Tables W K → Type 0
    TableEnds old (Ok done) new = HasTable old new
    TableEnds old (Err e) new = StayInOrder eq section (λ _. ⊥) old new

    -- Room is made in the section's table, which it is given where it has none, or memory was short.
    pub record ReservesTable {E : Type 0} (old : Tables W K) (result : Result Unit E) (new : Tables W K)
        : Type 0 where
      -- the rows are those that there were
      pub same : (s : ℕ) → rows_of new s ≡ rows_of old s
      -- how it ended
      pub ends : TableEnds old result new

  module _ (eq : W → W → Bool) (section index : ℕ) (word : W) where
    -- All growths for the record have been made.
    pub record HasSpare (t : Tables W K) : Type 0 where
      -- those of the section's table, which there is
      pub table : HasTableFor section (index - section) t
      -- and those of the handles
      pub handle : HasWordRoom eq t.words word

    -- Room was made.
    pub record HasReserved (old new : Tables W K) : Type 0 where
      -- no table is empty, but perhaps that of the section
      pub order : AreInOrder (λ s. s ≡ section) new
      -- for one record
      pub spare : HasSpare new
      -- handles are those that they were, and the word has a list
      pub words : (word_of : K → W) → HaveWords eq word_of old
          → HaveWordsBut eq word_of (λ w. IsTrue (eq word w)) new

    abbrev pub ReserveEnds : {E : Type 0} → Tables W K → Result Unit E → Tables W K → Type 0
    ReserveEnds old (Ok done) new = HasReserved old new
    ReserveEnds old (Err e) new = StayInOrder eq section (λ w. IsTrue (eq word w)) old new

    -- Room is made for a record, or memory was short.
    pub record Reserves {E : Type 0} (old : Tables W K) (result : Result Unit E) (new : Tables W K) : Type 0 where
      -- the rows are those that there were
      pub same : (s : ℕ) → rows_of new s ≡ rows_of old s
      -- how it ended
      pub ends : ReserveEnds old result new

    -- The record goes last in its section.
    pub record Pushes (key : K) (old new : Tables W K) : Type 0 where
      -- its row is the last one of the section
      pub added : rows_of new section ≡ rows_of old section ++ record { index = index; key = key } ∷ []
      -- other sections have the rows that they had
      pub others : (s : ℕ) → s ≢ section → rows_of new s ≡ rows_of old s
      -- lookups by index find it
      pub order : AreInOrder (λ _. ⊥) new
      -- and those by key, where the word is its key's
      pub words : (word_of : K → W) → word_of key ≡ word
          → HaveWordsBut eq word_of (λ w. IsTrue (eq word w)) old → HaveWords eq word_of new

  -- ---- forgetting records

  -- The records of the sections that P names are forgotten.
  pub record Drops (eq : W → W → Bool) (P : ℕ → Type 0) (old new : Tables W K) : Type 0 where
    -- they have no rows
    pub gone : (s : ℕ) → P s → rows_of new s ≡ []
    -- other sections have the rows that they had
    pub others : (s : ℕ) → (P s → ⊥) → rows_of new s ≡ rows_of old s
    -- lookups by index find what is left
    pub order : AreInOrder (λ _. ⊥) new
    -- and so do those by key
    pub words : (word_of : K → W) → HaveWords eq word_of old → HaveWords eq word_of new

-- whether an entry has the word
abbrev pub has_word : {W K : Type 0} → (W → W → Bool) → List (Entry W K) → W → Bool
has_word eq entries w = list_any (λ e. eq e.word w) entries

-- the new set has, beside the numbers of the old one, the indices at whose offsets there are positions
abbrev pub AddsIndices : ℕ → (ℕ → List ℕ) → Set → Set → Type 0
AddsIndices section positions old new = (i : ℕ)
    → IsTrue (new i) ↔ (((o : ℕ) × (i ≡ section + o) × (positions o ≢ [])) ⊎ IsTrue (old i))
