-- What the plain machine's changes make of the state that its list stands for: a record more, the sections below a bound taken away, and one change after another.
use Rattle.std.proofs.Common.{◌≡◌, refl, sym, ◌∙◌, ap, subst, ℕ, suc, ◌≤◌, Bool, true, false, ◌==◌, if◌then◌else◌, cond, List, [], ◌∷◌, ◌++◌, length, map, filter, nat_lt, nat_le, Result, Ok, Err, arith}
use Rattle.std.proofs.lemmas.Bool.{eqb-true}
use Rattle.std.proofs.lemmas.Bool.Decides.{nat_tests}
use Rattle.std.proofs.lemmas.Nat.{div-add-mod'}
use Rattle.archives.specs.Machine.{State, after_multi, after_prune, appended, emptied_below, section_of}
use Rattle.archives.specs.plain.Machine.{IsStopped, Turned, Turns, entry_of, state_of, state_with}
use Rattle.archives.specs.declared.commands.Reply.{Reply}
use Rattle.archives.specs.declared.error.Error.{Error}
use Rattle.archives.specs.declared.plain.Item.{Item}
use Rattle.archives.specs.declared.plain.Machine.{Machine}
use Rattle.archives.proofs.MachineLaws.{section_once, start_below}

-- ---- one change after another

module _ {K V : Type 0} (kb : K → List ℕ) where
  -- a change that makes the same of the state
  pub turned_as : (old new : Machine K V) (f g : State V → State V) → f (state_of kb old) ≡ g (state_of kb old) → (r : Result (Reply V) Error)
      → Turns kb old new f r → Turns kb old new g r
  turned_as old new f g same (Ok reply) turned = record { done = turned.done; state = turned.state ∙ same; same = turned.same }
  turned_as old new f g same (Err e) stopped = stopped

  -- one that was stopped
  pub turned_not : (old new : Machine K V) (f : State V → State V) (r : Result (Reply V) Error) (e : Error) → r ≡ Err e → IsStopped kb e old new → Turns kb old new f r
  turned_not old new f r e is stopped = subst (Turns kb old new f) (sym is) stopped

  -- two changes are one
  pub turned_twice : (old mid new : Machine K V) (f g : State V → State V) (first second : Reply V)
      → Turned kb old mid f first → Turned kb mid new g second → Turned kb old new (λ st. g (f st)) second
  turned_twice old mid new f g first second one two = record { done = two.done; state = two.state ∙ ap g one.state; same = two.same ∙ one.same }

-- ---- a record more

-- where the index is below the floor nothing is put
pub multi_low : {X : Type 0} (n index : ℕ) (key : List ℕ) (value : X) (st : State X) → nat_lt index st.floor ≡ true → st ≡ after_multi n index key value st
multi_low n index key value st low = sym (ap (λ b. if b then st else appended n index key value st) low)

module _ {K X : Type 0} (key_bytes : K → List ℕ) (n : ℕ) (r : Item K X) where
  abbrev here : ℕ → List (Item K X) → List (Item K X)
  here s all = filter (λ q. s == section_of n q.index) all

  lists_more : (all : List (Item K X)) (s : ℕ)
      → map (entry_of key_bytes) (here s (all ++ r ∷ [])) ≡ (if s == section_of n r.index then map (entry_of key_bytes) (here s all) ++ entry_of key_bytes r ∷ [] else map (entry_of key_bytes) (here s all))
  lists_more [] s = elim (s == section_of n r.index) as (λ t. map (entry_of key_bytes) (cond t (r ∷ []) []) ≡ (if t then [] ++ entry_of key_bytes r ∷ [] else [])) [ true ↦ refl | false ↦ refl ]
  lists_more (q ∷ all) s = elim (s == section_of n q.index) as (λ t. map (entry_of key_bytes) (cond t (q ∷ here s (all ++ r ∷ [])) (here s (all ++ r ∷ [])))
      ≡ (if s == section_of n r.index then map (entry_of key_bytes) (cond t (q ∷ here s all) (here s all)) ++ entry_of key_bytes r ∷ [] else map (entry_of key_bytes) (cond t (q ∷ here s all) (here s all)))) [
        | true ↦ ap (λ xs. entry_of key_bytes q ∷ xs) (lists_more all s) ∙ inside (s == section_of n r.index)
        | false ↦ lists_more all s
      ]
    where
      inside : (b : Bool) → entry_of key_bytes q ∷ (if b then map (entry_of key_bytes) (here s all) ++ entry_of key_bytes r ∷ [] else map (entry_of key_bytes) (here s all))
          ≡ (if b then (entry_of key_bytes q ∷ map (entry_of key_bytes) (here s all)) ++ entry_of key_bytes r ∷ [] else (entry_of key_bytes q ∷ map (entry_of key_bytes) (here s all)))
      inside true = refl
      inside false = refl

  -- it does not count as synced
  synced_more : r.is_synced ≡ false → (all : List (Item K X)) (s : ℕ) → length (filter (λ q. q.is_synced) (here s (all ++ r ∷ []))) ≡ length (filter (λ q. q.is_synced) (here s all))
  synced_more new [] s = elim (s == section_of n r.index) as (λ t. length (filter (λ q. q.is_synced) (cond t (r ∷ []) [])) ≡ 0) [ true ↦ ap (λ b. length (cond b (r ∷ []) [])) new | false ↦ refl ]
  synced_more new (q ∷ all) s = elim (s == section_of n q.index) as (λ t. length (filter (λ x. x.is_synced) (cond t (q ∷ here s (all ++ r ∷ [])) (here s (all ++ r ∷ []))))
      ≡ length (filter (λ x. x.is_synced) (cond t (q ∷ here s all) (here s all)))) [
        | true ↦ elim q.is_synced as (λ b. length (cond b (q ∷ filter (λ x. x.is_synced) (here s (all ++ r ∷ []))) (filter (λ x. x.is_synced) (here s (all ++ r ∷ []))))
            ≡ length (cond b (q ∷ filter (λ x. x.is_synced) (here s all)) (filter (λ x. x.is_synced) (here s all)))) [ true ↦ ap (λ (k : ℕ). suc k) (synced_more new all s) | false ↦ synced_more new all s ]
        | false ↦ synced_more new all s
      ]

  -- where the index is not below the floor the record goes last in its section
  pub multi_more : (floor : ℕ) (is_open : Bool) (all : List (Item K X)) → r.is_synced ≡ false → nat_lt r.index floor ≡ false
      → state_with key_bytes n floor is_open (all ++ r ∷ []) ≡ after_multi n r.index (key_bytes r.key) r.value (state_with key_bytes n floor is_open all)
  multi_more floor is_open all new high =
      let st : State X = state_with key_bytes n floor is_open all in
      let more : state_with key_bytes n floor is_open (all ++ r ∷ []) ≡ appended n r.index (key_bytes r.key) r.value st
      = λ i. record { is_open = is_open; lists = λ s. lists_more all s i; synced = λ s. synced_more new all s i; floor = floor } in
      more ∙ sym (ap (λ b. if b then st else appended n r.index (key_bytes r.key) r.value st) high)

-- ---- the sections below a bound taken away

-- nothing is taken where the bound is at or below the floor
pub prune_idle : {X : Type 0} (n bound : ℕ) (st : State X) → nat_le (section_of n bound) st.floor ≡ true → st ≡ after_prune n bound st
prune_idle n bound st low = sym (ap (λ b. if b then st else emptied_below (section_of n bound) st) low)

module _ {K X : Type 0} (key_bytes : K → List ℕ) (n start : ℕ) (once : section_of n start ≡ start) where
  abbrev kept : List (Item K X) → List (Item K X)
  kept all = filter (λ q. nat_le start q.index) all

  abbrev of : ℕ → List (Item K X) → List (Item K X)
  of s all = filter (λ q. s == section_of n q.index) all

  -- a record stays where its section is not below the start
  stays : (s : ℕ) (q : Item K X) → (s == section_of n q.index) ≡ true → nat_lt s start ≡ false → nat_le start q.index ≡ true
  stays s q is high = grind (arith, nat_tests, eqb-true s (section_of n q.index) is, div-add-mod' q.index n)

  -- and goes where it is
  goes : (s : ℕ) (q : Item K X) → (s == section_of n q.index) ≡ true → nat_lt s start ≡ true → nat_le start q.index ≡ false
  goes s q is low = elim (nat_le start q.index) as (λ t. nat_le start q.index ≡ t → t ≡ false) [
    | true ↦ λ e. absurd (beyond (start_below n start q.index once (grind (arith, nat_tests, e))))
    | false ↦ λ e. refl
  ] refl
    where
      beyond : start ≤ section_of n q.index → ⊥
      beyond le = grind (arith, nat_tests, eqb-true s (section_of n q.index) is, low, le)

  same : (b : Bool) (xs : List (Item K X)) → xs ≡ (if b then xs else xs)
  same true xs = refl
  same false xs = refl

  -- a section below has nothing left, and another all
  of_kept : (all : List (Item K X)) (s : ℕ) → of s (kept all) ≡ (if nat_lt s start then [] else of s all)
  of_kept [] s = same (nat_lt s start) []
  of_kept (q ∷ all) s =
      elim (s == section_of n q.index) as (λ t. (s == section_of n q.index) ≡ t → of s (cond (nat_le start q.index) (q ∷ kept all) (kept all)) ≡ (if nat_lt s start then [] else cond t (q ∷ of s all) (of s all))) [
        | true ↦ λ here. elim (nat_lt s start) as (λ b. nat_lt s start ≡ b → of s (kept all) ≡ (if b then [] else of s all) → of s (cond (nat_le start q.index) (q ∷ kept all) (kept all)) ≡ (if b then [] else q ∷ of s all)) [
          | true ↦ λ low rest. ap (λ c. of s (cond c (q ∷ kept all) (kept all))) (goes s q here low) ∙ rest
          | false ↦ λ high rest. ap (λ c. of s (cond c (q ∷ kept all) (kept all))) (stays s q here high) ∙ ap (λ c. cond c (q ∷ of s (kept all)) (of s (kept all))) here ∙ ap (λ xs. q ∷ xs) rest
        ] refl (of_kept all s)
        | false ↦ λ other. passed other (nat_le start q.index) ∙ of_kept all s
      ] refl
    where
      passed : (s == section_of n q.index) ≡ false → (c : Bool) → of s (cond c (q ∷ kept all) (kept all)) ≡ of s (kept all)
      passed other true = ap (λ c. cond c (q ∷ of s (kept all)) (of s (kept all))) other
      passed other false = refl

  -- what is kept stands for the state with the sections below the start emptied
  pub pruned : (floor : ℕ) (is_open : Bool) (all : List (Item K X)) → state_with key_bytes n start is_open (filter (λ q. nat_le start q.index) all) ≡ emptied_below start (state_with key_bytes n floor is_open all)
  pruned floor is_open all = λ i. record {
    is_open = is_open;
    lists = λ s. (ap (map (entry_of key_bytes)) (of_kept all s) ∙ inside (nat_lt s start) (of s all)) i;
    synced = λ s. (ap (λ xs. length (filter (λ q. q.is_synced) xs)) (of_kept all s) ∙ counted (nat_lt s start) (of s all)) i;
    floor = start;
  }
    where
      inside : (b : Bool) (xs : List (Item K X)) → map (entry_of key_bytes) (if b then [] else xs) ≡ (if b then [] else map (entry_of key_bytes) xs)
      inside true xs = refl
      inside false xs = refl

      counted : (b : Bool) (xs : List (Item K X)) → length (filter (λ q. q.is_synced) (if b then [] else xs)) ≡ (if b then 0 else length (filter (λ q. q.is_synced) xs))
      counted true xs = refl
      counted false xs = refl

-- where the bound's section start is above the floor
pub prune_more : {K X : Type 0} (key_bytes : K → List ℕ) (n bound floor : ℕ) (is_open : Bool) (all : List (Item K X)) → nat_le (section_of n bound) floor ≡ false
    → state_with key_bytes n (section_of n bound) is_open (filter (λ q. nat_le (section_of n bound) q.index) all) ≡ after_prune n bound (state_with key_bytes n floor is_open all)
prune_more {K} {X} key_bytes n bound floor is_open all high =
    let st : State X = state_with key_bytes n floor is_open all in
    pruned key_bytes n (section_of n bound) (section_once n bound) floor is_open all ∙ sym (ap (λ b. if b then st else emptied_below (section_of n bound) st) high)
