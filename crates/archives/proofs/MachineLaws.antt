-- What each step of the machine makes of a section's list: each record lies in the section of its index, and nothing lies
-- below the floor. So it is after a run.
use Rattle.std.proofs.Common.{◌≡◌, inl, inr, refl, sym, ◌∙◌, ap, subst, ℕ, zero, suc, ◌+◌, ◌*◌, ◌/◌, ◌<◌, ◌≤◌, true, false, ◌==◌, nat_lt, if◌then◌else◌, List, [], ◌∷◌, ◌++◌, length, take, Some, Contains, IsTrue, ◌↔◌, drop, arith, take-append-drop}
use Rattle.std.proofs.lemmas.Nat.{div-add-mod', div-mul-add, le-div}
use Rattle.std.proofs.lemmas.Bool.{eqb-true, eq-eqb}
use Rattle.std.proofs.lemmas.List.Elements.{Contains-append_left, Contains-push_cases}
use Rattle.std.proofs.lemmas.List.Folds.{Any-from_list_any, list_any_at}
use Rattle.std.proofs.lemmas.Bool.Decides.{nat_tests}
use Rattle.archives.specs.Commands.{Command, Reopen}
use Rattle.archives.specs.Replies.{Reply}
use Rattle.archives.specs.Machine.{Entry, State, Step, Run, empty_state, section_of, has_index, emptied_below}
use Rattle.archives.specs.lemmas.MachineLaws.{IsEmptying, IsInOrder, Made, unchanged, one_more, all_synced, one_more_synced, opened_anew, emptied, gone, made, put_by, put_last, step_keeps_order}

-- ---- the words of the laws

-- What a step makes of a section's list. It stays; or the record of a put goes last, in the section of its index, which is
-- not below the floor; or a reopening cuts it, but nothing that was synced; or a prune or a destroy empties it.
pub data Becomes {V : Type 0} (items : ℕ) (old : State V) (command : Command V) (new : State V) (s : ℕ) : Type 0 where
  stays : new.lists s ≡ old.lists s → Becomes items old command new s
  grows : (r : Entry V) → put_by command ≡ Some r → old.floor ≤ r.index → s ≡ section_of items r.index → new.lists s ≡ old.lists s ++ r ∷ [] → Becomes items old command new s
  is_cut : command ≡ Reopen → new.lists s ≡ take (length (new.lists s)) (old.lists s) → old.synced s ≤ length (new.lists s) → Becomes items old command new s
  is_emptied : IsEmptying items old command s → new.lists s ≡ [] → Becomes items old command new s

-- each record lies in the section of its index
abbrev pub IsFiled : {V : Type 0} → ℕ → State V → Type 0
IsFiled {V} items st = (s : ℕ) (r : Entry V) → Contains (st.lists s) r → s ≡ section_of items r.index

-- the floor is the start of a section, and the sections below it are empty
pub record IsCleared {V : Type 0} (items : ℕ) (st : State V) : Type 0 where
  pub start : section_of items st.floor ≡ st.floor
  pub below : (s : ℕ) → s < st.floor → st.lists s ≡ []

-- ---- a section's list

put_becomes : {X : Type 0} (items : ℕ) (old : State X) (command : Command X) (r : Entry X) (new : State X) (s : ℕ) → put_by command ≡ Some r → old.floor ≤ r.index
    → new.lists s ≡ (put_last items r old).lists s → Becomes items old command new s
put_becomes items old command r new s by above e =
    elim (s == section_of items r.index) as (λ b. (s == section_of items r.index) ≡ b → new.lists s ≡ (if b then old.lists s ++ r ∷ [] else old.lists s) → Becomes items old command new s) [
      | true ↦ λ here g. grows r by above (eqb-true s (section_of items r.index) here) g
      | false ↦ λ there g. stays g
    ] refl e

prune_becomes : {X : Type 0} (items bound : ℕ) (old : State X) (command : Command X) (new : State X) (s : ℕ) → (s < section_of items bound → IsEmptying items old command s)
    → new.lists s ≡ (emptied_below (section_of items bound) old).lists s → Becomes items old command new s
prune_becomes {X} items bound old command new s emptying e =
    elim (nat_lt s (section_of items bound)) as (λ b. nat_lt s (section_of items bound) ≡ b → new.lists s ≡ (if b then (let none : List (Entry X) = [] in none) else old.lists s) → Becomes items old command new s) [
      | true ↦ λ low g. is_emptied (emptying (grind (arith, nat_tests))) g
      | false ↦ λ high g. stays g
    ] refl e

becomes : {X : Type 0} (items : ℕ) (command : Command X) (old new : State X) → Made items command old new → (s : ℕ) → Becomes items old command new s
becomes items command old new (unchanged e) s = stays (ap (λ st. st.lists s) e)
becomes items command old new (one_more r by above e) s = put_becomes items old command r new s by above (ap (λ st. st.lists s) e)
becomes items command old new (all_synced e) s = stays (ap (λ st. st.lists s) e)
becomes items command old new (one_more_synced r by above e) s = put_becomes items old command r new s by above (ap (λ st. st.lists s) e)
becomes items command old new (opened_anew is o) s = is_cut is (o.cut s) (o.at_least s)
becomes items command old new (emptied bound is opened above e) s =
    prune_becomes items bound old command new s (λ low. subst (λ c. IsEmptying items old c s) (sym is) (opened, low, above)) (ap (λ st. st.lists s) e)
becomes items command old new (gone is opened e) s = is_emptied (subst (λ c. IsEmptying items old c s) (sym is) opened) (ap (λ st. st.lists s) e)

pub step_changes : {X : Type 0} (items : ℕ) (old : State X) (command : Command X) (reply : Reply X) (new : State X) → Step items old command reply new
    → (s : ℕ) → Becomes items old command new s
step_changes items old command reply new step = becomes items command old new (made items old command reply new step)

-- ---- the order of synced and whole lengths

in_none : {X : Type 0} (x : X) → ¬ Contains [] x
in_none x is = absurd (omega (arith, is.1))

still_filed : {X : Type 0} (items : ℕ) (old : State X) (command : Command X) (new : State X) (s : ℕ) → Becomes items old command new s
    → ((r : Entry X) → Contains (old.lists s) r → s ≡ section_of items r.index) → (r : Entry X) → Contains (new.lists s) r → s ≡ section_of items r.index
still_filed items old command new s (stays e) filed r is = filed r (subst (λ xs. Contains xs r) e is)
still_filed items old command new s (grows q by above at e) filed r is =
    elim (Contains-push_cases (old.lists s) q r (subst (λ xs. Contains xs r) e is)) as (λ _. s ≡ section_of items r.index) [
      | inl before ↦ filed r before
      | inr last ↦ at ∙ ap (λ t. section_of items t.index) last
    ]
still_filed items old command new s (is_cut by e at) filed r is =
    let n = length (new.lists s) in
    filed r (subst (λ xs. Contains xs r) (take-append-drop n (old.lists s)) (Contains-append_left (take n (old.lists s)) (drop n (old.lists s)) r (subst (λ xs. Contains xs r) e is)))
still_filed items old command new s (is_emptied by e) filed r is = absurd (in_none r (subst (λ xs. Contains xs r) e is))

-- ---- the section of a record

pub step_keeps_filed : {X : Type 0} (items : ℕ) (old : State X) (command : Command X) (reply : Reply X) (new : State X) → Step items old command reply new
    → IsFiled items old → IsFiled items new
step_keeps_filed items old command reply new step filed s r is =
    still_filed items old command new s (step_changes items old command reply new step s) (filed s) r is

-- where each record is filed, a test of one section's list tells of all lists whether they have an index
pub has_index_is : {X : Type 0} (items : ℕ) (st : State X) → IsFiled items st
    → (index : ℕ) → IsTrue (has_index items st index) ↔ ((s : ℕ) × (r : Entry X) × Contains (st.lists s) r × (r.index ≡ index))
has_index_is {X} items st filed index = (there, back)
  where
    here : List (Entry X)
    here = st.lists (section_of items index)

    there : IsTrue (has_index items st index) → (s : ℕ) × (r : Entry X) × Contains (st.lists s) r × (r.index ≡ index)
    there h =
        let found = Any-from_list_any (λ q. q.index == index) here h in
        (section_of items index, found.1, (found.0, found.2, found.3), eqb-true found.1.index index found.4)

    back : ((s : ℕ) × (r : Entry X) × Contains (st.lists s) r × (r.index ≡ index)) → IsTrue (has_index items st index)
    back (s, r, is, e) =
        let at : s ≡ section_of items index = filed s r is ∙ ap (section_of items) e in
        let found : Contains here r = subst (λ t. Contains (st.lists t) r) at is in
        list_any_at (λ q. q.index == index) here found.0 r found.1 (ap (λ (q : Entry X). q.index == index) found.2 ∙ eq-eqb r.index index e)

-- ---- the floor

-- a section start at or below an index is at or below the start of the index's section
pub start_below : (items floor index : ℕ) → section_of items floor ≡ floor → floor ≤ index → floor ≤ section_of items index
start_below zero floor index start le = omega (arith, start)
start_below (suc n) floor index start le =
    let q : floor / suc n ≤ index / suc n = le-div (floor / suc n) index (suc n) (omega arith) (omega (arith, start)) in
    omega (arith, start, more (floor / suc n) (index / suc n) (suc n) q)
  where
    more : (a b m : ℕ) → a ≤ b → a * m ≤ b * m
    more a b m h = grind arith

pub section_once : (items index : ℕ) → section_of items (section_of items index) ≡ section_of items index
section_once zero index = omega arith
section_once (suc n) index =
    let q : (index / suc n * suc n + 0) / suc n ≡ index / suc n = div-mul-add (index / suc n) (suc n) 0 (omega arith) in
    let plain : index / suc n * suc n + 0 ≡ index / suc n * suc n = omega arith in
    ap (λ (k : ℕ). k * suc n) (ap (λ (k : ℕ). k / suc n) (sym plain) ∙ q)

zero_start : (items : ℕ) → section_of items 0 ≡ 0
zero_start items = omega (arith, div-add-mod' 0 items)

put_cleared : {X : Type 0} (items : ℕ) (r : Entry X) (st : State X) → st.floor ≤ r.index → IsCleared items st → (s : ℕ) → s < st.floor → (put_last items r st).lists s ≡ []
put_cleared items r st above cleared s low =
    let e : (s == section_of items r.index) ≡ false = grind (arith, nat_tests, low, start_below items st.floor r.index cleared.start above) in
    ap (λ b. if b then st.lists s ++ r ∷ [] else st.lists s) e ∙ cleared.below s low

none_below : {X : Type 0} (b : ℕ) (st : State X) (s : ℕ) → s < b → (emptied_below b st).lists s ≡ []
none_below {X} b st s low =
    let e : nat_lt s b ≡ true = grind (arith, nat_tests) in
    ap (λ t. if t then (let none : List (Entry X) = [] in none) else st.lists s) e

keeps_floor : {X : Type 0} (items : ℕ) (command : Command X) (old new : State X) → Made items command old new → IsCleared items old → IsCleared items new
keeps_floor items command old new (unchanged e) cleared = subst (IsCleared items) (sym e) cleared
keeps_floor items command old new (one_more r by above e) cleared = subst (IsCleared items) (sym e) (record { start = cleared.start; below = put_cleared items r old above cleared })
keeps_floor items command old new (all_synced e) cleared = subst (IsCleared items) (sym e) (record { start = cleared.start; below = cleared.below })
keeps_floor items command old new (one_more_synced r by above e) cleared = subst (IsCleared items) (sym e) (record { start = cleared.start; below = put_cleared items r old above cleared })
keeps_floor items command old new (opened_anew is o) cleared = record {
  start = ap (section_of items) o.floor ∙ zero_start items ∙ sym o.floor;
  below = λ s low. absurd (omega (arith, low, o.floor));
}
keeps_floor items command old new (emptied bound is opened above e) cleared = subst (IsCleared items) (sym e) (record { start = section_once items bound; below = none_below (section_of items bound) old })
keeps_floor items command old new (gone is opened e) cleared = subst (IsCleared items) (sym e) (record { start = cleared.start; below = λ s low. refl })

pub step_keeps_floor : {X : Type 0} (items : ℕ) (old : State X) (command : Command X) (reply : Reply X) (new : State X) → Step items old command reply new
    → IsCleared items old → IsCleared items new
step_keeps_floor items old command reply new step = keeps_floor items command old new (made items old command reply new step)

-- ---- runs

-- what each step keeps, a run keeps
pub run_keeps : {X : Type 0} (items : ℕ) (P : State X → Type 0) → ((old : State X) (command : Command X) (reply : Reply X) (new : State X) → Step items old command reply new → P old → P new)
    → (old : State X) (commands : List (Command X)) (replies : List (Reply X)) (new : State X) → Run items old commands replies new → P old → P new
run_keeps items P keeps old [] [] new run p = subst P (sym run) p
run_keeps items P keeps old [] (r ∷ rs) new run p = absurd run
run_keeps items P keeps old (c ∷ cs) [] new run p = absurd run
run_keeps items P keeps old (c ∷ cs) (r ∷ rs) new run p = run_keeps items P keeps run.0 cs rs new run.2 (keeps old c r run.0 run.1 p)

-- what holds of each state that a run from the empty one leads to
pub record IsSound {V : Type 0} (items : ℕ) (st : State V) : Type 0 where
  pub in_order : IsInOrder st
  pub filed : IsFiled items st
  pub cleared : IsCleared items st

pub run_is_sound : {X : Type 0} (items : ℕ) (commands : List (Command X)) (replies : List (Reply X)) (new : State X) → Run items empty_state commands replies new → IsSound items new
run_is_sound {X} items commands replies new run = record {
  in_order = run_keeps items IsInOrder (step_keeps_order items) empty_state commands replies new run (λ s. omega arith);
  filed = run_keeps items (IsFiled items) (step_keeps_filed items) empty_state commands replies new run (λ s r is. absurd (in_none r is));
  cleared = run_keeps items (IsCleared items) (step_keeps_floor items) empty_state commands replies new run (record { start = zero_start items; below = λ s low. refl });
}

-- one run behind another
pub run_append : {X : Type 0} (items : ℕ) (old mid new : State X) (first more : List (Command X)) (replies others : List (Reply X))
    → Run items old first replies mid → Run items mid more others new → Run items old (first ++ more) (replies ++ others) new
run_append items old mid new [] more [] others run next = subst (λ st. Run items st more others new) run next
run_append items old mid new [] more (r ∷ rs) others run next = absurd run
run_append items old mid new (c ∷ cs) more [] others run next = absurd run
run_append items old mid new (c ∷ cs) more (r ∷ rs) others run next = (run.0, run.1, run_append items run.0 mid new cs more rs others run.2 next)
