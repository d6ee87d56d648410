-- What the calls that stage a change make of a map.
use Rattle.std.proofs.Common.{◌≡◌, ◌<◌, ◌≤◌, ◌||◌, ℕ, true, false, Bool, List, length, Result, Err, arith, refl, sym, ◌∙◌, ap, subst}
use Rattle.std.proofs.lemmas.Bool.Decides.{nat_tests}
use Rattle.std.specs.Prelude.{nat_lt}
use Rattle.std.specs.BTreeMap.{insert_entry}
use Rattle.meta_store.specs.declared.error.Error.{Error}
use Rattle.meta_store.specs.declared.error.Error.TheVariants.{Mem}
use Rattle.meta_store.specs.Copies.{IsStorable}
use Rattle.meta_store.specs.Entries.{PutsValue, Retained}
use Rattle.meta_store.specs.Format.{Format}
use Rattle.meta_store.specs.Staging.{HasPut, Puts, Retains, SetsFloor, StandsAsBefore}
use Rattle.meta_store.specs.Store.{MayBeSynced, Seen, Store, staging}
use Rattle.meta_store.proofs.Inserting.{retained_all, retained_has}
use Rattle.meta_store.proofs.StandingLemmas.{stands_changed}
use Rattle.blob_device.proofs.general.Maps.{all_inserted}
use Rattle.meta_store.specs.lemmas.Inserting.{retained_fewer}

or_true : (b : Bool) → true ≡ (b || true)
or_true true = refl
or_true false = refl

or_false : (b : Bool) → b ≡ (b || false)
or_false true = refl
or_false false = refl

module _ {K V C : Type 0} (f : C → Format K V) (m : Seen K V C) where
  -- a change leaves what the two blobs hold
  stands_staged : (n : Seen K V C) → n.store ≡ record m.store { entries = n.store.entries; floor = n.store.floor; staged = true } → StandsAsBefore f m n
  stands_staged n same synced d stands =
      let staged : n.store.staged ≡ true = ap (λ (u : Store K V). u.staged) same in
      stands_changed (f m.config) m.store n.store synced d (same ∙ ap (λ (b : Bool). record m.store { entries = n.store.entries; floor = n.store.floor; staged = b }) (sym staged))
      (λ fresh. absurd (cc (staged, fresh))) stands

  -- a value was put
  pub has_put : (key : K) (value : V) (es : List (K × V)) → es ≡ insert_entry (f m.config).compare m.store.entries key value → PutsValue (f m.config).compare m.store.entries es key value
      → HasPut f m (record m { store = record m.store { entries = es; staged = true } }) key value
  has_put key value es is puts = record {
    same = ap (staging m.store) is;
    setting = refl;
    puts = puts;
    storable = λ all new. subst (MayBeSynced (f m.config)) (sym is) (all_inserted (f m.config).compare (IsStorable (f m.config)) m.store.entries key value all new);
    stands = stands_staged (record m { store = record m.store { entries = es; staged = true } }) refl;
  }

  -- a floor was set
  pub sets_floor : (floor : ℕ) → SetsFloor f m (record m { store = record m.store { floor = floor; staged = true } }) floor
  sets_floor floor = record { same = refl; setting = refl; stands = stands_staged (record m { store = record m.store { floor = floor; staged = true } }) refl }

  -- entries were kept
  module _ (Answers : K → V → Bool → Type 0) (kept : List (K × V)) (ran : Retained Answers m.store.entries kept) where
    storable : MayBeSynced (f m.config) m.store.entries → MayBeSynced (f m.config) kept
    storable all = retained_has Answers (IsStorable (f m.config)) m.store.entries kept ran all

    -- fewer than there were
    pub retains_fewer : length kept < length m.store.entries → Retains f m (record m { store = record m.store { entries = kept; staged = true } }) Answers
    retains_fewer fewer = let less : nat_lt (length kept) (length m.store.entries) ≡ true = grind (arith, nat_tests) in record {
      kept = ran;
      same = refl;
      setting = refl;
      staged = or_true m.store.staged ∙ ap (λ (b : Bool). m.store.staged || b) (sym less);
      unchanged = λ same. absurd (omega (arith, same, fewer));
      storable = storable;
      stands = stands_staged (record m { store = record m.store { entries = kept; staged = true } }) refl;
    }

    -- all that there were
    pub retains_all : length m.store.entries ≤ length kept → Retains f m (record m { store = record m.store { entries = kept } }) Answers
    retains_all none =
        let same : length kept ≡ length m.store.entries = omega (arith, none, retained_fewer Answers m.store.entries kept ran) in
        let not : nat_lt (length kept) (length m.store.entries) ≡ false = grind (arith, nat_tests) in
        let all : kept ≡ m.store.entries = retained_all Answers m.store.entries kept ran same in
        record {
          kept = ran;
          same = refl;
          setting = refl;
          staged = or_false m.store.staged ∙ ap (λ (b : Bool). m.store.staged || b) (sym not);
          unchanged = λ e. all;
          storable = storable;
          stands = λ synced d stands. stands_changed (f m.config) m.store (record m.store { entries = kept }) synced d refl
              (λ fresh. (fresh, (λ i. record { floor = m.store.floor; entries = all i }))) stands;
        }

-- memory was short for a put
pub put_failed : {K V C : Type 0} (f : C → Format K V) (m n : Seen K V C) (key : K) (value : V) (r : Result (Unit {0}) Error) → r ≡ Err Mem → n ≡ m → Puts f m n key value r
put_failed f m n key value r is same = subst (Puts f m n key value) (sym is) (refl, same)
