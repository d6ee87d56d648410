-- What the calls that stage a change promise.
use Rattle.std.specs.Prelude.{◌≡◌, ℕ, ◌||◌, true, nat_lt, Bool, length, Result, Ok, Err}
use Rattle.std.specs.BTreeMap.{insert_entry}
use Rattle.blob_device.specs.Disk.{Disk}
use Rattle.meta_store.specs.declared.copy.Contents.{Contents}
use Rattle.meta_store.specs.declared.error.Error.{Error}
use Rattle.meta_store.specs.declared.error.Error.TheVariants.{Mem}
use Rattle.meta_store.specs.Copies.{IsStorable}
use Rattle.meta_store.specs.Entries.{PutsValue, Retained}
use Rattle.meta_store.specs.Format.{Format}
use Rattle.meta_store.specs.Store.{Seen, Stands, MayBeSynced, staging}

module _ {K V C : Type 0} (f : C → Format K V) (m n : Seen K V C) where
  -- the new map stands on a device where the old one did
  abbrev pub StandsAsBefore : Type 0
  StandsAsBefore = (synced : Contents K V) (d : Disk) → Stands (f m.config) m.store synced d → Stands (f m.config) n.store synced d

  -- A value was put at a key.
  pub record HasPut (key : K) (value : V) : Type 0 where
    -- that is a change, also where the key had it, and all else is the same
    pub same : n.store ≡ staging m.store (insert_entry (f m.config).compare m.store.entries key value)
    pub setting : n.config ≡ m.config
    -- the key has the value, and each other key what it had
    pub puts : PutsValue (f m.config).compare m.store.entries n.store.entries key value
    -- the map may be synced where it might before and the value may be stored
    pub storable : MayBeSynced (f m.config) m.store.entries → IsStorable (f m.config) value
        → MayBeSynced (f m.config) n.store.entries
    -- it stands as before
    pub stands : StandsAsBefore

  -- a value was put, or memory was short, and the map is as before
  abbrev pub Puts : K → V → Result (Unit {0}) Error → Type 0
  Puts key value (Ok x) = HasPut key value
  Puts key value (Err e) = (e ≡ Mem) × (n ≡ m)

  -- The entries for which a test answered true are kept, and no others.
  pub record Retains (Answers : K → V → Bool → Type 0) : Type 0 where
    -- it was asked at each
    pub kept : Retained Answers m.store.entries n.store.entries
    -- all else is the same
    pub same : n.store ≡ record m.store { entries = n.store.entries; staged = n.store.staged }
    pub setting : n.config ≡ m.config
    -- where it drops one that is a change
    pub staged : n.store.staged ≡ (m.store.staged || nat_lt (length n.store.entries) (length m.store.entries))
    -- where it drops none the entries are the same
    pub unchanged : length n.store.entries ≡ length m.store.entries → n.store.entries ≡ m.store.entries
    -- the map may be synced where it might before
    pub storable : MayBeSynced (f m.config) m.store.entries → MayBeSynced (f m.config) n.store.entries
    -- it stands as before
    pub stands : StandsAsBefore

  -- The floor is this.
  pub record SetsFloor (floor : ℕ) : Type 0 where
    -- that is a change, also where it stays the same, and all else is the same
    pub same : n.store ≡ record m.store { floor = floor; staged = true }
    pub setting : n.config ≡ m.config
    -- it stands as before
    pub stands : StandsAsBefore
