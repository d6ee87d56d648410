-- The machine of a cache: its states and its steps. It says which answers are right, and keeps
-- nothing but lists.
use Rattle.std.specs.Prelude.{◌≡◌, ℕ, ◌*◌, ◌/◌, ◌<◌, ◌≤◌, Bool, ◌||◌, ◌==◌, nat_lt, nat_le, if◌then◌else◌, List, [], ◌∷◌, ◌++◌, filter, length, take, Option, Some, None}
use Rattle.std.specs.List.{list_any}
use Rattle.ordinal_store.specs.Numbers.{Set, AreMissing, IsRunEnd, IsNextRun, IsLeast}

-- a value under an index
pub record Entry (V : Type 0) : Type 0 where
  pub index : ℕ
  pub value : V

-- For each section, named by its first index, a list of the entries whose index lies in it, and a
-- synced length; a floor, below which nothing is stored. No step files an entry in another section.
pub record State (V : Type 0) : Type 0 where
  pub lists : ℕ → List (Entry V)
  pub synced : ℕ → ℕ
  pub floor : ℕ

-- what a cache is asked
pub data Call (V : Type 0) : Type 0 where
  Put : ℕ → V → Call V
  PutSync : ℕ → V → Call V
  Sync : Call V
  Prune : ℕ → Call V
  Reopen : Call V
  Get : ℕ → Call V
  Has : ℕ → Call V
  Gap : ℕ → Call V
  Missing : ℕ → ℕ → Call V
  First : Call V

-- and what it answers
pub data Answer (V : Type 0) : Type 0 where
  Done : Answer V
  Value : Option V → Answer V
  Flag : Bool → Answer V
  Ends : Option ℕ → Option ℕ → Answer V
  Items : List ℕ → Answer V
  Index : Option ℕ → Answer V

-- ---- what a state says

-- the section of an index, where each section has room for so many indices
abbrev pub section_of : ℕ → ℕ → ℕ
section_of items index = index / items * items

-- an entry of the list has the index
abbrev pub has_entry : {V : Type 0} → ℕ → List (Entry V) → Bool
has_entry index list = list_any (λ e. e.index == index) list

-- the indices of the lists, as a set
abbrev pub has_index : {V : Type 0} → ℕ → State V → Set
has_index items st index = has_entry index (st.lists (section_of items index))

-- the value of the first entry, if any
abbrev pub first_value : {V : Type 0} → List (Entry V) → Option V
first_value [] = None
first_value (e ∷ es) = Some e.value

-- the value at an index, if any
abbrev pub value_at : {V : Type 0} → ℕ → State V → ℕ → Option V
value_at items st index =
    first_value (filter (λ e. e.index == index) (st.lists (section_of items index)))

-- ---- what a call makes of a state

-- nothing was put
abbrev pub nothing_put : {V : Type 0} → State V
nothing_put = record { lists = λ s. []; synced = λ s. 0; floor = 0 }

-- the entry goes last in its section
abbrev pub appended : {V : Type 0} → ℕ → ℕ → V → State V → State V
appended items index value st = record st {
  lists = λ s. if s == section_of items index
      then st.lists s ++ record { index = index; value = value } ∷ []
      else st.lists s;
}

-- unchanged where the index is below the floor or is taken; else the entry goes last in its section
abbrev pub after_put : {V : Type 0} → ℕ → ℕ → V → State V → State V
after_put items index value st =
    if nat_lt index st.floor || has_index items st index then st else appended items index value st

-- each synced length is the whole length
abbrev pub after_sync : {V : Type 0} → State V → State V
after_sync st = record st { synced = λ s. length (st.lists s) }

-- below the floor nothing is synced
abbrev pub after_put_sync : {V : Type 0} → ℕ → ℕ → V → State V → State V
after_put_sync items index value st =
    if nat_lt index st.floor then st else after_sync (after_put items index value st)

-- the sections below b are empty, with synced length 0, and the floor is b
abbrev pub emptied_below : {V : Type 0} → ℕ → State V → State V
emptied_below b st = record {
  lists = λ s. if nat_lt s b then [] else st.lists s;
  synced = λ s. if nat_lt s b then 0 else st.synced s;
  floor = b;
}

-- the bound is rounded down to the start of a section; unchanged where that is at or below the
-- floor
abbrev pub after_prune : {V : Type 0} → ℕ → ℕ → State V → State V
after_prune items bound st = if nat_le (section_of items bound) st.floor
    then st
    else emptied_below (section_of items bound) st

-- each section is cut to some length from its synced to its whole length, and is synced whole; the
-- floor is 0
pub record IsReopened {V : Type 0} (old new : State V) : Type 0 where
  pub cut : (s : ℕ) → new.lists s ≡ take (length (new.lists s)) (old.lists s)
  pub at_least : (s : ℕ) → old.synced s ≤ length (new.lists s)
  pub synced : (s : ℕ) → new.synced s ≡ length (new.lists s)
  pub floor : new.floor ≡ 0

-- ---- steps

-- from old, the machine may give this answer to the call and go on to new
abbrev pub Step : {V : Type 0} → ℕ → State V → Call V → Answer V → State V → Type 0
Step items old (Put i v) Done new = new ≡ after_put items i v old
Step items old (PutSync i v) Done new = new ≡ after_put_sync items i v old
Step items old Sync Done new = new ≡ after_sync old
Step items old (Prune bound) Done new = new ≡ after_prune items bound old
Step items old Reopen Done new = IsReopened old new
Step items old (Get i) (Value v) new = (v ≡ value_at items old i) × (new ≡ old)
Step items old (Has i) (Flag b) new = (b ≡ has_index items old i) × (new ≡ old)
Step items old (Gap i) (Ends end next) new =
    IsRunEnd (has_index items old) i end × IsNextRun (has_index items old) i next × (new ≡ old)
Step items old (Missing s n) (Items xs) new = AreMissing (has_index items old) s n xs × (new ≡ old)
Step items old First (Index i) new = IsLeast (has_index items old) i × (new ≡ old)
-- no other answer is given
Step items old call answer new = ⊥

-- ---- what a crash may leave while a call is under way

-- the section's list, with the entry of the put under way where its step appends it
abbrev pub submitted : {V : Type 0} → ℕ → State V → Option (Call V) → ℕ → List (Entry V)
submitted items st (Some (Put i v)) s = (after_put items i v st).lists s
submitted items st (Some (PutSync i v)) s = (after_put items i v st).lists s
submitted items st under_way s = st.lists s

-- a prune is under way whose rounded bound is above the section and above the floor
abbrev pub IsGoing : {V : Type 0} → ℕ → State V → Option (Call V) → ℕ → Type 0
IsGoing items st (Some (Prune bound)) s =
    (s < section_of items bound) × (st.floor < section_of items bound)
IsGoing items st under_way s = ⊥
