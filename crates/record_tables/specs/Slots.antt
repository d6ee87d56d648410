-- Which section has which slot.
use Rattle.std.specs.Prelude.{◌≡◌, ◌≢◌, ◌↔◌, ℕ, ◌+◌, ◌<◌, ◌≤◌, ◌^◌, nat_eq, [], length, slice_get, Contains, Some, Result, Ok, Err}
use Rattle.std.specs.List.{IsDistinct}
use Rattle.std.specs.Vec.{vec_capacity}
use Rattle.record_tables.specs.declared.slots.Slots.{Slots}

-- Slot x is that of section s.
pub record HasSlot (t : Slots) (x s : ℕ) : Type 0 where
  -- it was given to the section last
  pub named : slice_get t.sections.items x ≡ Some s
  -- and was not freed since
  pub kept : Contains t.free.items x → ⊥

-- so many slots have a section
abbrev pub AreUsed : Slots → ℕ → Type 0
AreUsed t n = n + length t.free.items ≡ length t.sections.items

-- What is always so.
pub record AreSlots (t : Slots) : Type 0 where
  -- free slots are among those that were made
  pub made : (x : ℕ) → Contains t.free.items x → x < length t.sections.items
  -- each of them is free once
  pub once : IsDistinct nat_eq t.free.items
  -- freeing one takes no memory
  pub room : length t.sections.items ≤ vec_capacity t.free
  -- each fits into a handle
  pub few : length t.sections.items ≤ 2 ^ 24

-- No section has a slot.
pub record AreBare (t : Slots) : Type 0 where
  -- what is always so
  pub slots : AreSlots t
  -- none is in use
  pub used : AreUsed t 0

-- The section has been given slot x.
pub record HasTaken (section x : ℕ) (old new : Slots) : Type 0 where
  -- what is always so
  pub slots : AreSlots new
  -- no section had it
  pub unused : (s : ℕ) → HasSlot old x s → ⊥
  -- it was freed before, where there is such a one
  pub again : old.free.items ≢ [] → Contains old.free.items x
  -- and then no new one was made
  pub no_new : old.free.items ≢ [] → length new.sections.items ≡ length old.sections.items
  -- the section has it now
  pub taken : HasSlot new x section
  -- each other slot is whose it was
  pub others : (y s : ℕ) → y ≢ x → HasSlot new y s ↔ HasSlot old y s
  -- one more has a section
  pub counted : (n : ℕ) → AreUsed old n → AreUsed new (n + 1)

-- It has been given a slot, or memory was short, and nothing has changed.
abbrev pub Takes : {E : Type 0} → ℕ → Slots → Result ℕ E → Slots → Type 0
Takes section old (Ok x) new = HasTaken section x old new
Takes section old (Err e) new = AreSlots new × ((y s : ℕ) → HasSlot new y s ↔ HasSlot old y s)
    × ((n : ℕ) → AreUsed old n → AreUsed new n)

-- Slot x is free.
pub record Frees (x : ℕ) (old new : Slots) : Type 0 where
  -- what is always so
  pub slots : AreSlots new
  -- no section has it
  pub unused : (s : ℕ) → HasSlot new x s → ⊥
  -- no new one was made
  pub no_new : length new.sections.items ≡ length old.sections.items
  -- each other slot is whose it was
  pub others : (y s : ℕ) → y ≢ x → HasSlot new y s ↔ HasSlot old y s
  -- one fewer has a section
  pub counted : (n : ℕ) → AreUsed old (n + 1) → AreUsed new n
