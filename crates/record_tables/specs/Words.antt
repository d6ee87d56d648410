-- Of each word the handles of the records whose key has it. Words are told apart by their test of equality.
use Rattle.std.specs.Prelude.{◌≡◌, ◌≢◌, ℕ, Bool, false, not, nat_eq, List, [], ◌∷◌, ◌++◌, Option, None, Some, IsSome, IsSomeAnd, IsTrue}
use Rattle.std.specs.HashMap.{get}
use Rattle.std.specs.List.{filter}
use Rattle.smallvec.specs.SmallVec.{HasRoomFor, SmallVec}
use Rattle.record_tables.specs.Handles.{slot_of}
use Rattle.record_tables.specs.declared.handle.Handle.{Handle}
use Rattle.record_tables.specs.declared.words.Words.{Words}

abbrev pub handles_in : Option (SmallVec Handle) → List Handle
handles_in None = []
handles_in (Some handles) = handles.items

-- those of another slot than x
abbrev pub beside_slot : ℕ → List Handle → List Handle
beside_slot x = filter (λ h. not (nat_eq (slot_of h) x))

module _ {W : Type 0} (eq : W → W → Bool) where
  -- the handles of a word
  abbrev pub handles_of : Words W → W → List Handle
  handles_of t w = handles_in (get eq t.handles w)

  -- one more fits without memory
  abbrev pub HasWordRoom : Words W → W → Type 0
  HasWordRoom t w = IsSomeAnd (get eq t.handles w) (λ handles. HasRoomFor handles 1)

  -- The word has one handle more.
  pub record AddsHandle (w : W) (h : Handle) (old new : Words W) : Type 0 where
    -- behind those that it had
    pub here : (v : W) → IsTrue (eq w v) → handles_of new v ≡ handles_of old v ++ h ∷ []
    -- other words have the lists that they had
    pub others : (v : W) → eq w v ≡ false → get eq new.handles v ≡ get eq old.handles v

  -- Words that pass the test have no handle of slot x.
  pub record RemovesSlot (has : W → Bool) (x : ℕ) (old new : Words W) : Type 0 where
    -- they have the others that they had, in order
    pub here : (v : W) → IsTrue (has v) → handles_of new v ≡ beside_slot x (handles_of old v)
    -- and a list only where one is left
    pub listed : (v : W) → IsTrue (has v) → IsSome (get eq new.handles v) → handles_of new v ≢ []
    -- other words have the lists that they had
    pub others : (v : W) → has v ≡ false → get eq new.handles v ≡ get eq old.handles v
