-- What becomes of a map of which a value was lent.
use Rattle.std.specs.Prelude.{◌≡◌, ℕ, Bool, List, Option, OnSome, IfNone}
use Rattle.std.specs.declared.cmp.Ordering.{Ordering}
use Rattle.std.specs.Borrow.{LendsSo, Fml, RattleType, MutBor}
use Rattle.std.specs.BTreeMap.{is_at}
use Rattle.std.specs.Map.{set_value}
use Rattle.meta_store.specs.contracts.metadata.Metadata.{the_row}
use Rattle.meta_store.specs.declared.metadata.Metadata.{Metadata}
use Rattle.meta_store.specs.Entries.{PutsValue}
use Rattle.meta_store.specs.Store.{shown, staging}

-- what a clause has as K.Key
abbrev pub KeyMembers : Type 0 → Type 0
KeyMembers K = record { partial_cmp : K → K → Option Ordering; cmp : K → K → Ordering; eq : K → K → Bool; SIZE : ℕ; key_bytes : K → List ℕ }

-- the new map has this value at the key, which is a change, and is else the old one
pub record WroteValue {K V S C : Type 0} (compare : K → K → Ordering) (key : K) (value : V) (old new : Metadata K V S C) : Type 0 where
  pub same : shown new ≡ staging (shown old) (set_value (is_at (compare key)) (shown old).entries value)
  pub value_put : PutsValue compare (shown old).entries (shown new).entries key value
  pub config : new.codec_config ≡ old.codec_config

-- the new map is the old one
pub record SameMap {K V S C : Type 0} (old new : Metadata K V S C) : Type 0 where
  pub same : shown new ≡ shown old
  pub config : new.codec_config ≡ old.codec_config

-- how the checker holds a map
abbrev pub map_row : (K V S C : RattleType) → KeyMembers K.Denot → RattleType
map_row K V S C key = the_row K V S C (record { eq = key.eq }) (record { cmp = key.cmp }) (record { partial_cmp = key.partial_cmp })

-- Once the loan is over the map has the value that was last written through it at the key; where the key was not there, it is as before.
abbrev pub lends_value : (K V S C : RattleType) (key : KeyMembers K.Denot) → MutBor (Metadata K.Denot V.Denot S.Denot C.Denot) → K.Denot → Option (MutBor V.Denot) → Fml
lends_value K V S C key s k r = LendsSo (map_row K V S C key) V s r (λ n w. OnSome r (WroteValue key.cmp k w s.now n)) (λ n. IfNone r (SameMap s.now n))
