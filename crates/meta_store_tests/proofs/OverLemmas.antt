-- What a map that was synced is over.
use Rattle.std.proofs.Common.{◌≡◌, ◌+◌, ℕ, Bool, true, false, cond, Result, Ok, Err, refl, sym, ap, subst}
use Rattle.meta_store.specs.Blobs.{other_side}
use Rattle.meta_store.specs.declared.error.Error.{Error}
use Rattle.meta_store.specs.Copies.{IsStorable}
use Rattle.meta_store.specs.Format.{Format}
use Rattle.meta_store.specs.Staging.{Puts}
use Rattle.meta_store.specs.Store.{MayBeSynced, Seen, Store, synced_store}

-- a sync leaves entries and partition
pub entries_stay : {K V : Type 0} (u : Store K V) → (synced_store u).entries ≡ u.entries
entries_stay {K = K} {V = V} u = by u.staged
  where
    by : (b : Bool) → (cond b (record u { version = u.version + 1; older = other_side u.older; staged = false }) u).entries ≡ u.entries
    by true = refl
    by false = refl

pub partition_stays : {K V : Type 0} (u : Store K V) → (synced_store u).partition ≡ u.partition
partition_stays {K = K} {V = V} u = by u.staged
  where
    by : (b : Bool) → (cond b (record u { version = u.version + 1; older = other_side u.older; staged = false }) u).partition ≡ u.partition
    by true = refl
    by false = refl

-- ---- what changes of a map leave

module _ {K V C : Type 0} (f : C → Format K V) (m n : Seen K V C) where
  pub put_storable : (key : K) (value : V) (r : Result (Unit {0}) Error) → Puts f m n key value r → IsStorable (f m.config) value → MayBeSynced (f m.config) m.store.entries → MayBeSynced (f m.config) n.store.entries
  put_storable key value (Ok x) puts new all = puts.storable all new
  put_storable key value (Err e) puts new all = subst (λ (u : Seen K V C). MayBeSynced (f m.config) u.store.entries) (sym puts.1) all

  pub put_partition : (key : K) (value : V) (r : Result (Unit {0}) Error) → Puts f m n key value r → n.store.partition ≡ m.store.partition
  put_partition key value (Ok x) puts = ap (λ (u : Store K V). u.partition) puts.same
  put_partition key value (Err e) puts = ap (λ (u : Seen K V C). u.store.partition) puts.1
