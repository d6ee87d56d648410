-- The machine of records: its states, its steps and its runs. It says which replies are right, and keeps nothing but
-- lists.
use Rattle.std.specs.Prelude.{◌≡◌, ◌↔◌, ℕ, ◌*◌, ◌/◌, ◌≤◌, Bool, true, false, ◌||◌, ◌==◌, nat_lt, nat_le, if◌then◌else◌, List, [], ◌∷◌, ◌++◌, map, filter, length, take, Contains, Option, Some, None, option_map, IsTrue, MatchBool}
use Rattle.std.specs.List.{list_any}
use Rattle.archives.specs.Commands.{Command, Put, PutSync, PutStart, Multi, MultiSync, MultiStart, Get, GetKey, All, Has, HasKey, HasAt, Gap, Missing, Ranges, RangesFrom, First, Last, Sync, Start, Prune, Reopen, Destroy}
use Rattle.archives.specs.Replies as reply
use Rattle.archives.specs.Replies.{Reply}
use Rattle.ordinal_store.specs.Numbers.{Set, AreRuns, AreRunsFrom, IsRunEnd, IsNextRun, AreMissing, IsLeast, IsGreatest}
use Rattle.archives.specs.declared.commands.Command as asking
use Rattle.archives.specs.declared.commands.Command.TheVariants as ask
use Rattle.archives.specs.declared.commands.Reply as answering
use Rattle.archives.specs.declared.commands.Reply.TheVariants as answer

-- a record of an archive: a value under an index and a key
pub record Entry (V : Type 0) : Type 0 where
  pub index : ℕ
  pub key : List ℕ
  pub value : V

-- Whether the archive is open; for each section, named by its first index, a list of the records whose index lies in
-- it, and a synced length; a floor, below which nothing is kept. No step files a record in another section.
pub record State (V : Type 0) : Type 0 where
  pub is_open : Bool
  pub lists : ℕ → List (Entry V)
  pub synced : ℕ → ℕ
  pub floor : ℕ

-- open; nothing is kept, and nothing was pruned
abbrev pub empty_state : {V : Type 0} → State V
empty_state = record { is_open = true; lists = λ s. []; synced = λ s. 0; floor = 0 }

-- ---- what a state says

-- the section of an index, where each section has room for so many indices
abbrev pub section_of : ℕ → ℕ → ℕ
section_of items index = index / items * items

-- the records at an index, in list order
abbrev pub entries_at : {V : Type 0} → ℕ → State V → ℕ → List (Entry V)
entries_at items st index = filter (λ r. r.index == index) (st.lists (section_of items index))

-- whether a record has this index: the set of the indices in the lists
abbrev pub has_index : {V : Type 0} → ℕ → State V → Set
has_index items st index = list_any (λ r. r.index == index) (st.lists (section_of items index))

-- the value of the first record, if any
abbrev pub first_value : {V : Type 0} → List (Entry V) → Option V
first_value [] = None
first_value (r ∷ rs) = Some r.value

-- the values of all records in list order, if there are any
abbrev pub all_values : {V : Type 0} → List (Entry V) → Option (List V)
all_values [] = None
all_values (r ∷ rs) = Some (map (λ q. q.value) (r ∷ rs))

-- keys and values of all records in list order, if there are any
abbrev pub all_entries : {V : Type 0} → List (Entry V) → Option (List (List ℕ × V))
all_entries [] = None
all_entries (r ∷ rs) = Some (map (λ q. (q.key, q.value)) (r ∷ rs))

-- some record has this whole key, and this value
abbrev pub HasEntry : {V : Type 0} → State V → List ℕ → V → Type 0
HasEntry {V} st key value = (s : ℕ) × (r : Entry V) × Contains (st.lists s) r × (r.key ≡ key) × (r.value ≡ value)

-- some record has this whole key
abbrev pub ContainsKey : {V : Type 0} → State V → List ℕ → Type 0
ContainsKey {V} st key = (value : V) × HasEntry st key value

-- one record has this index and this whole key
abbrev pub ContainsAt : {V : Type 0} → ℕ → State V → ℕ → List ℕ → Type 0
ContainsAt {V} items st index key = (r : Entry V) × Contains (entries_at items st index) r × (r.key ≡ key)

-- ---- what a command makes of a state

-- the record goes last in its section
abbrev pub appended : {V : Type 0} → ℕ → ℕ → List ℕ → V → State V → State V
appended items index key value st = record st {
  lists = λ s. if s == section_of items index
      then st.lists s ++ record { index = index; key = key; value = value } ∷ []
      else st.lists s;
}

-- unchanged where the index is below the floor or is taken; else the record goes last in its section
abbrev pub after_put : {V : Type 0} → ℕ → ℕ → List ℕ → V → State V → State V
after_put items index key value st =
    if nat_lt index st.floor || has_index items st index then st else appended items index key value st

-- unchanged where the index is below the floor; else the record goes last in its section
abbrev pub after_multi : {V : Type 0} → ℕ → ℕ → List ℕ → V → State V → State V
after_multi items index key value st = if nat_lt index st.floor then st else appended items index key value st

-- each synced length is the whole length
abbrev pub after_sync : {V : Type 0} → State V → State V
after_sync st = record st { synced = λ s. length (st.lists s) }

-- the sections below b are empty, with synced length 0, and the floor is b
abbrev pub emptied_below : {V : Type 0} → ℕ → State V → State V
emptied_below b st = record st {
  lists = λ s. if nat_lt s b then [] else st.lists s;
  synced = λ s. if nat_lt s b then 0 else st.synced s;
  floor = b;
}

-- the bound is rounded down to the start of a section; unchanged where that is at or below the floor
abbrev pub after_prune : {V : Type 0} → ℕ → ℕ → State V → State V
after_prune items bound st =
    if nat_le (section_of items bound) st.floor then st else emptied_below (section_of items bound) st

-- all sections are empty, with synced length 0; closed
abbrev pub after_destroy : {V : Type 0} → State V → State V
after_destroy st = record { is_open = false; lists = λ s. []; synced = λ s. 0; floor = st.floor }

-- what is left of a floor once the archive is opened again: none, since it is not stored
abbrev pub stored_floor : ℕ → ℕ
stored_floor floor = 0

-- each section is cut to some length from its synced to its whole length, and is synced whole; of the floor
-- is left what is stored; open
pub record IsReopened {V : Type 0} (old new : State V) : Type 0 where
  pub opened : new.is_open ≡ true
  pub cut : (s : ℕ) → new.lists s ≡ take (length (new.lists s)) (old.lists s)
  pub at_least : (s : ℕ) → old.synced s ≤ length (new.lists s)
  pub synced : (s : ℕ) → new.synced s ≡ length (new.lists s)
  pub floor : new.floor ≡ stored_floor old.floor

-- ---- steps and runs

-- in an open archive, case by case
abbrev pub OpenStep : {V : Type 0} → ℕ → State V → Command V → Reply V → State V → Type 0
OpenStep items old (Put i k v) reply.Done new = new ≡ after_put items i k v old
OpenStep items old (PutSync i k v) reply.Done new = new ≡ after_sync (after_put items i k v old)
OpenStep items old (PutStart i k v) reply.Done new = new ≡ after_sync (after_put items i k v old)
OpenStep items old (Multi i k v) reply.Done new = new ≡ after_multi items i k v old
OpenStep items old (MultiSync i k v) reply.Done new = new ≡ after_sync (after_multi items i k v old)
OpenStep items old (MultiStart i k v) reply.Done new = new ≡ after_sync (after_multi items i k v old)
OpenStep items old (Get i) (reply.Value v) new = (v ≡ first_value (entries_at items old i)) × (new ≡ old)
OpenStep items old (GetKey k) (reply.Value (Some v)) new = HasEntry old k v × (new ≡ old)
OpenStep items old (GetKey k) (reply.Value None) new = ¬ ContainsKey old k × (new ≡ old)
OpenStep items old (All i) (reply.Values vs) new = (vs ≡ all_values (entries_at items old i)) × (new ≡ old)
OpenStep items old (Has i) (reply.Flag b) new = (b ≡ has_index items old i) × (new ≡ old)
OpenStep items old (HasKey k) (reply.Flag b) new = (IsTrue b ↔ ContainsKey old k) × (new ≡ old)
OpenStep items old (HasAt i k) (reply.Flag b) new = (IsTrue b ↔ ContainsAt items old i k) × (new ≡ old)
OpenStep items old (Gap i) (reply.Gap end next) new =
    IsRunEnd (has_index items old) i end × IsNextRun (has_index items old) i next × (new ≡ old)
OpenStep items old (Missing i n) (reply.Items xs) new = AreMissing (has_index items old) i n xs × (new ≡ old)
OpenStep items old Ranges (reply.Ranges runs) new = AreRuns (has_index items old) runs × (new ≡ old)
OpenStep items old (RangesFrom i) (reply.Ranges runs) new = AreRunsFrom (has_index items old) i runs × (new ≡ old)
OpenStep items old First (reply.Index i) new = IsLeast (has_index items old) i × (new ≡ old)
OpenStep items old Last (reply.Index i) new = IsGreatest (has_index items old) i × (new ≡ old)
OpenStep items old Sync reply.Done new = new ≡ after_sync old
OpenStep items old Start reply.Done new = new ≡ after_sync old
OpenStep items old (Prune bound) reply.Done new = new ≡ after_prune items bound old
OpenStep items old Reopen reply.Done new = IsReopened old new
OpenStep items old Destroy reply.Done new = new ≡ after_destroy old
-- no other reply is given
OpenStep items old command reply new = ⊥

-- a closed archive is opened, and does nothing else
abbrev pub ClosedStep : {V : Type 0} → State V → Command V → Reply V → State V → Type 0
ClosedStep old Reopen reply.Done new = IsReopened old new
ClosedStep old Reopen reply new = ⊥
ClosedStep old command reply.Closed new = new ≡ old
ClosedStep old command reply new = ⊥

-- from old, the machine may give this reply to the command and go on to new
abbrev pub Step : {V : Type 0} → ℕ → State V → Command V → Reply V → State V → Type 0
Step items old command reply new =
    MatchBool old.is_open (OpenStep items old command reply new) (ClosedStep old command reply new)

-- the machine may give these replies to these commands, one step after another, and go on from old to new
abbrev pub Run : {V : Type 0} → ℕ → State V → List (Command V) → List (Reply V) → State V → Type 0
Run items old [] [] new = new ≡ old
Run {V} items old (command ∷ commands) (reply ∷ replies) new =
    (mid : State V) × Step items old command reply mid × Run items mid commands replies new
Run items old [] (reply ∷ replies) new = ⊥
Run items old (command ∷ commands) [] new = ⊥

-- ---- the commands and replies of the code

-- a command whose key is seen as its bytes, and its value as spelled
abbrev pub asked : {K V W : Type 0} → (K → List ℕ) → (V → W) → asking.Command K V → Command W
asked key_bytes spelled (ask.Put index key value) = Put index (key_bytes key) (spelled value)
asked key_bytes spelled (ask.PutSync index key value) = PutSync index (key_bytes key) (spelled value)
asked key_bytes spelled (ask.PutStart index key value) = PutStart index (key_bytes key) (spelled value)
asked key_bytes spelled (ask.Multi index key value) = Multi index (key_bytes key) (spelled value)
asked key_bytes spelled (ask.MultiSync index key value) =
    MultiSync index (key_bytes key) (spelled value)
asked key_bytes spelled (ask.MultiStart index key value) =
    MultiStart index (key_bytes key) (spelled value)
asked key_bytes spelled (ask.Get index) = Get index
asked key_bytes spelled (ask.GetKey key) = GetKey (key_bytes key)
asked key_bytes spelled (ask.Has index) = Has index
asked key_bytes spelled (ask.HasKey key) = HasKey (key_bytes key)
asked key_bytes spelled (ask.HasAt index key) = HasAt index (key_bytes key)
asked key_bytes spelled (ask.All index) = All index
asked key_bytes spelled (ask.Gap index) = Gap index
asked key_bytes spelled (ask.Missing index count) = Missing index count
asked key_bytes spelled ask.Ranges = Ranges
asked key_bytes spelled (ask.RangesFrom index) = RangesFrom index
asked key_bytes spelled ask.First = First
asked key_bytes spelled ask.Last = Last
asked key_bytes spelled ask.Sync = Sync
asked key_bytes spelled ask.Start = Start
asked key_bytes spelled (ask.Prune bound) = Prune bound
asked key_bytes spelled ask.Reopen = Reopen
asked key_bytes spelled ask.Destroy = Destroy

-- a reply whose value is seen as spelled
abbrev pub replied : {V W : Type 0} → (V → W) → answering.Reply V → Reply W
replied spelled answer.Done = reply.Done
replied spelled (answer.Value value) = reply.Value (option_map spelled value)
replied spelled (answer.Values values) = reply.Values (option_map (map spelled) values)
replied spelled (answer.Flag holds) = reply.Flag holds
replied spelled (answer.Gap end next) = reply.Gap end next
replied spelled (answer.Items numbers) = reply.Items numbers
replied spelled (answer.Ranges runs) = reply.Ranges runs
replied spelled (answer.Index index) = reply.Index index
replied spelled answer.Closed = reply.Closed
