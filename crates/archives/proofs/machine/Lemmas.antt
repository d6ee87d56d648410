-- A plain list of records, and the state that it stands for.
use Rattle.std.proofs.Common.{◌≡◌, refl, sym, ◌∙◌, ap, subst, ℕ, suc, Bool, true, false, not, ◌||◌, ◌==◌, if◌then◌else◌, cond, List, [], ◌∷◌, ◌++◌, length, map, filter, find, take, drop, nat_lt, ◌≤◌, Some, arith}
use Rattle.std.specs.List.{list_any}
use Rattle.std.specs.Option.{option_map}
use Rattle.std.proofs.lemmas.List.{append-nil, drop_all, length-map, take_all}
use Rattle.std.proofs.lemmas.List.Filters.{length-filter_both}
use Rattle.std.proofs.lemmas.Bool.{eqb-true, eq-eqb, false≢true}
use Rattle.archives.specs.Machine.{IsReopened, State, appended, after_multi, after_put, after_sync, entries_at, first_value, has_index, section_of}
use Rattle.archives.specs.declared.plain.Item.{Item}
use Rattle.archives.specs.plain.Machine.{entry_of, first_at, state_with}

-- a record of another section has another index
pub apart : (n index other : ℕ) → (section_of n index == section_of n other) ≡ false → (other == index) ≡ false
apart n index other e = elim (other == index) as (λ t. (other == index) ≡ t → t ≡ false) [
  | true ↦ λ q. absurd (false≢true (sym e ∙ eq-eqb (section_of n index) (section_of n other) (ap (section_of n) (sym (eqb-true other index q)))))
  | false ↦ λ q. refl
] refl

-- a record with the index stands in the index's section
pub any_here : {K X : Type 0} (key_bytes : K → List ℕ) (n floor : ℕ) (is_open : Bool) (index : ℕ) (all : List (Item K X))
    → list_any (λ r. r.index == index) all ≡ has_index n (state_with key_bytes n floor is_open all) index
any_here key_bytes n floor is_open index [] = refl
any_here {K} {X} key_bytes n floor is_open index (r ∷ all) =
    elim (section_of n index == section_of n r.index) as (λ t. (section_of n index == section_of n r.index) ≡ t →
    ((r.index == index) || list_any (λ q. q.index == index) all)
    ≡ list_any (λ q. q.index == index) (map (entry_of key_bytes) (cond t (r ∷ filter (λ q. section_of n index == section_of n q.index) all) (filter (λ q. section_of n index == section_of n q.index) all)))) [
      | true ↦ λ e. ap (λ b. (r.index == index) || b) (any_here key_bytes n floor is_open index all)
      | false ↦ λ e. ap (λ b. b || list_any (λ q. q.index == index) all) (apart n index r.index e) ∙ any_here key_bytes n floor is_open index all
    ] refl

-- the first record with the index is the first of those in the index's section
pub first_here : {K X : Type 0} (key_bytes : K → List ℕ) (n floor : ℕ) (is_open : Bool) (index : ℕ) (all : List (Item K X))
    → first_at index all ≡ first_value (entries_at n (state_with key_bytes n floor is_open all) index)
first_here key_bytes n floor is_open index [] = refl
first_here {K} {X} key_bytes n floor is_open index (r ∷ all) =
    elim (section_of n index == section_of n r.index) as (λ t. (section_of n index == section_of n r.index) ≡ t →
    option_map (λ q. q.value) (cond (r.index == index) (Some r) (find (λ q. q.index == index) all))
    ≡ first_value (filter (λ q. q.index == index) (map (entry_of key_bytes) (cond t (r ∷ filter (λ q. section_of n index == section_of n q.index) all) (filter (λ q. section_of n index == section_of n q.index) all))))) [
      | true ↦ λ e. here (r.index == index) (first_here key_bytes n floor is_open index all)
      | false ↦ λ e. ap (λ b. option_map (λ (q : Item K X). q.value) (cond b (Some r) (find (λ q. q.index == index) all))) (apart n index r.index e) ∙ first_here key_bytes n floor is_open index all
    ] refl
  where
    here : (b : Bool) → first_at index all ≡ first_value (entries_at n (state_with key_bytes n floor is_open all) index)
        → option_map (λ (q : Item K X). q.value) (cond b (Some r) (find (λ q. q.index == index) all))
        ≡ first_value (cond b (entry_of key_bytes r ∷ entries_at n (state_with key_bytes n floor is_open all) index) (entries_at n (state_with key_bytes n floor is_open all) index))
    here true behind = refl
    here false behind = behind

-- ---- a sync

-- the record, counted as synced
abbrev pub as_synced : {K V : Type 0} → Item K V → Item K V
as_synced r = record r { is_synced = true }

-- behind a pass over all records, each is synced
pub all_passed : {K V : Type 0} (first items : List (Item K V)) (at : ℕ) → length first ≤ at → items ≡ map as_synced (take at first) ++ drop at first → items ≡ map as_synced first
all_passed first items at passed so_far = so_far ∙ (λ i. map as_synced (take_all at first passed i) ++ drop_all at first passed i) ∙ append-nil (map as_synced first)

lists_synced : {K X : Type 0} (key_bytes : K → List ℕ) (n : ℕ) (all : List (Item K X)) (s : ℕ)
    → map (entry_of key_bytes) (filter (λ q. s == section_of n q.index) (map as_synced all))
    ≡ map (entry_of key_bytes) (filter (λ q. s == section_of n q.index) all)
lists_synced key_bytes n [] s = refl
lists_synced {K} {X} key_bytes n (r ∷ all) s =
    let here : List (Item K X) → List (Item K X) = filter (λ q. s == section_of n q.index) in
    elim (s == section_of n r.index) as (λ t. map (entry_of key_bytes) (cond t (as_synced r ∷ here (map as_synced all)) (here (map as_synced all))) ≡ map (entry_of key_bytes) (cond t (r ∷ here all) (here all))) [
      | true ↦ ap (λ xs. entry_of key_bytes r ∷ xs) (lists_synced key_bytes n all s)
      | false ↦ lists_synced key_bytes n all s
    ]

all_synced : {K X : Type 0} (key_bytes : K → List ℕ) (n : ℕ) (all : List (Item K X)) (s : ℕ)
    → length (filter (λ q. q.is_synced) (filter (λ q. s == section_of n q.index) (map as_synced all)))
    ≡ length (map (entry_of key_bytes) (filter (λ q. s == section_of n q.index) all))
all_synced key_bytes n [] s = refl
all_synced {K} {X} key_bytes n (r ∷ all) s =
    let here : List (Item K X) → List (Item K X) = filter (λ q. s == section_of n q.index) in
    elim (s == section_of n r.index) as (λ t. length (filter (λ q. q.is_synced) (cond t (as_synced r ∷ here (map as_synced all)) (here (map as_synced all)))) ≡ length (map (entry_of key_bytes) (cond t (r ∷ here all) (here all)))) [
      | true ↦ ap (λ (k : ℕ). suc k) (all_synced key_bytes n all s)
      | false ↦ all_synced key_bytes n all s
    ]

pub state_synced : {K X : Type 0} (key_bytes : K → List ℕ) (n floor : ℕ) (is_open : Bool) (all : List (Item K X))
    → state_with key_bytes n floor is_open (map as_synced all) ≡ after_sync (state_with key_bytes n floor is_open all)
state_synced key_bytes n floor is_open all = λ i. record {
  is_open = is_open;
  lists = λ s. lists_synced key_bytes n all s i;
  synced = λ s. all_synced key_bytes n all s i;
  floor = floor;
}

-- A reopening may cut nothing: what is synced of a section is no more than is there. `mid` is the state as a sync leaves it.
pub reopened_whole : {K X : Type 0} (key_bytes : K → List ℕ) (n floor : ℕ) (is_open : Bool) (all : List (Item K X)) (mid : State X)
    → mid ≡ after_sync (state_with key_bytes n floor is_open all)
    → IsReopened (state_with key_bytes n floor is_open all) (record { is_open = true; lists = mid.lists; synced = mid.synced; floor = 0 })
reopened_whole {K} {X} key_bytes n floor is_open all mid is =
    subst (λ (m : State X). IsReopened (state_with key_bytes n floor is_open all) (record { is_open = true; lists = m.lists; synced = m.synced; floor = 0 })) (sym is) (record {
      opened = refl;
      cut = λ s. sym (take_all _ (map (entry_of key_bytes) (here s)) (omega arith));
      at_least = λ s. omega (
        arith,
        length-map (here s) (entry_of key_bytes),
        length-filter_both (λ q. q.is_synced) (λ q. not q.is_synced) (λ q. refl) (here s),
      );
      synced = λ s. refl;
      floor = refl;
    })
  where
    here : ℕ → List (Item K X)
    here s = filter (λ q. s == section_of n q.index) all

-- ---- a put

-- a put of an index that is taken changes nothing
pub put_taken : {X : Type 0} (n index : ℕ) (key : List ℕ) (value : X) (st : State X) → has_index n st index ≡ true
    → st ≡ after_put n index key value st
put_taken {X} n index key value st taken =
    sym (ap (λ b. if nat_lt index st.floor || b then st else appended n index key value st) taken ∙ both (nat_lt index st.floor))
  where
    both : (b : Bool) → (if b || true then st else appended n index key value st) ≡ st
    both true = refl
    both false = refl

-- and where it is free it is one of several records
pub put_free : {X : Type 0} (n index : ℕ) (key : List ℕ) (value : X) (st : State X) → has_index n st index ≡ false
    → after_multi n index key value st ≡ after_put n index key value st
put_free {X} n index key value st free =
    both (nat_lt index st.floor) ∙ sym (ap (λ b. if nat_lt index st.floor || b then st else appended n index key value st) free)
  where
    both : (b : Bool) → (if b then st else appended n index key value st) ≡ (if b || false then st else appended n index key value st)
    both true = refl
    both false = refl
