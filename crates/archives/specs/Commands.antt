-- What an archive may be asked. A key is its bytes, and a value is what V is.
use Rattle.std.specs.Prelude.{⊤, ℕ, List}

-- An index, a key and a value stand in the order in which a line of a script has them.
pub data Command (V : Type 0) : Type 0 where
  -- keep a value, unless its index is taken; then sync, or start a sync
  Put : ℕ → List ℕ → V → Command V
  PutSync : ℕ → List ℕ → V → Command V
  PutStart : ℕ → List ℕ → V → Command V
  -- keep a value, also where its index is taken; then sync, or start a sync
  Multi : ℕ → List ℕ → V → Command V
  MultiSync : ℕ → List ℕ → V → Command V
  MultiStart : ℕ → List ℕ → V → Command V
  -- the first value at an index, a value under a key, all values at an index
  Get : ℕ → Command V
  GetKey : List ℕ → Command V
  All : ℕ → Command V
  -- whether a record has this index, this key, or both
  Has : ℕ → Command V
  HasKey : List ℕ → Command V
  HasAt : ℕ → List ℕ → Command V
  -- of the indices: the end of the run here and the start of the next; so many absent ones from here on; the runs,
  -- all or from here on; the least and the greatest
  Gap : ℕ → Command V
  Missing : ℕ → ℕ → Command V
  Ranges : Command V
  RangesFrom : ℕ → Command V
  First : Command V
  Last : Command V
  -- make what was put outlast a crash, now or by a sync that is started
  Sync : Command V
  Start : Command V
  -- drop the sections below an index, open anew, drop all
  Prune : ℕ → Command V
  Reopen : Command V
  Destroy : Command V

-- a command that every archive has, of whatever kind
abbrev pub IsOfEvery : {V : Type 0} → Command V → Type 0
IsOfEvery (Put index key value) = ⊤
IsOfEvery (PutSync index key value) = ⊤
IsOfEvery (PutStart index key value) = ⊤
IsOfEvery (Get index) = ⊤
IsOfEvery (GetKey key) = ⊤
IsOfEvery (Has index) = ⊤
IsOfEvery (HasKey key) = ⊤
IsOfEvery (Gap index) = ⊤
IsOfEvery (Missing index count) = ⊤
IsOfEvery Ranges = ⊤
IsOfEvery (RangesFrom index) = ⊤
IsOfEvery First = ⊤
IsOfEvery Last = ⊤
IsOfEvery Sync = ⊤
IsOfEvery Start = ⊤
IsOfEvery (Multi index key value) = ⊥
IsOfEvery (MultiSync index key value) = ⊥
IsOfEvery (MultiStart index key value) = ⊥
IsOfEvery (All index) = ⊥
IsOfEvery (HasAt index key) = ⊥
IsOfEvery (Prune bound) = ⊥
IsOfEvery Reopen = ⊥
IsOfEvery Destroy = ⊤

-- a command that an archive has which may keep several records at an index
abbrev pub IsOfSeveral : {V : Type 0} → Command V → Type 0
IsOfSeveral (Multi index key value) = ⊤
IsOfSeveral (MultiSync index key value) = ⊤
IsOfSeveral (MultiStart index key value) = ⊤
IsOfSeveral (All index) = ⊤
IsOfSeveral (HasAt index key) = ⊤
IsOfSeveral (Put index key value) = ⊥
IsOfSeveral (PutSync index key value) = ⊥
IsOfSeveral (PutStart index key value) = ⊥
IsOfSeveral (Get index) = ⊥
IsOfSeveral (GetKey key) = ⊥
IsOfSeveral (Has index) = ⊥
IsOfSeveral (HasKey key) = ⊥
IsOfSeveral (Gap index) = ⊥
IsOfSeveral (Missing index count) = ⊥
IsOfSeveral Ranges = ⊥
IsOfSeveral (RangesFrom index) = ⊥
IsOfSeveral First = ⊥
IsOfSeveral Last = ⊥
IsOfSeveral Sync = ⊥
IsOfSeveral Start = ⊥
IsOfSeveral (Prune bound) = ⊥
IsOfSeveral Reopen = ⊥
IsOfSeveral Destroy = ⊥
