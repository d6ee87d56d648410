-- Each step of the machine keeps the records of a section in order: no more are synced than there are, and what is synced
-- outlasts all but a prune and a destroy.
use Rattle.std.proofs.Common.{◌≡◌, ◌⊎◌, inl, inr, refl, sym, ◌∙◌, ap, subst, ℕ, ◌<◌, ◌≤◌, Bool, true, false, ◌||◌, ◌==◌, nat_lt, nat_le, if◌then◌else◌, List, [], ◌∷◌, ◌++◌, length, take, Option, Some, None, IsTrue, arith, length-append}
use Rattle.std.proofs.lemmas.List.{take-append-le, take-take}
use Rattle.std.proofs.lemmas.Bool.{cases_lt, false≢true}
use Rattle.std.proofs.lemmas.Bool.Decides.{nat_tests}
use Rattle.std.specs.Prelude.{MatchBool}
use Rattle.archives.specs.Commands.{Command, Put, PutSync, PutStart, Multi, MultiSync, MultiStart, Get, GetKey, All, Has, HasKey, HasAt, Gap, Missing, Ranges, RangesFrom, First, Last, Sync, Start, Prune, Reopen, Destroy}
use Rattle.archives.specs.Replies as reply
use Rattle.archives.specs.Replies.{Reply}
use Rattle.archives.specs.Machine.{Entry, State, Step, OpenStep, ClosedStep, IsReopened, section_of, has_index, appended, after_sync, after_destroy, emptied_below}

-- the record that a command hands in, if it is a put
abbrev pub put_by : {V : Type 0} → Command V → Option (Entry V)
put_by (Put i k v) = Some (record { index = i; key = k; value = v })
put_by (PutSync i k v) = Some (record { index = i; key = k; value = v })
put_by (PutStart i k v) = Some (record { index = i; key = k; value = v })
put_by (Multi i k v) = Some (record { index = i; key = k; value = v })
put_by (MultiSync i k v) = Some (record { index = i; key = k; value = v })
put_by (MultiStart i k v) = Some (record { index = i; key = k; value = v })
put_by command = None

-- In an open archive a destroy empties all sections, and a prune those below its bound, where the bound, rounded down to the
-- start of a section, is above the floor.
abbrev pub IsEmptying : {V : Type 0} → ℕ → State V → Command V → ℕ → Type 0
IsEmptying items st (Prune bound) s = IsTrue st.is_open × (s < section_of items bound) × (st.floor < section_of items bound)
IsEmptying items st Destroy s = IsTrue st.is_open
IsEmptying items st command s = ⊥

-- no section has more records synced than it has
abbrev pub IsInOrder : {V : Type 0} → State V → Type 0
IsInOrder st = (s : ℕ) → st.synced s ≤ length (st.lists s)

-- what was synced of a section is still there, and still synced
pub record KeepsSynced {V : Type 0} (s : ℕ) (old new : State V) : Type 0 where
  pub still : take (old.synced s) (new.lists s) ≡ take (old.synced s) (old.lists s)
  pub synced : old.synced s ≤ new.synced s

abbrev pub put_last : {V : Type 0} → ℕ → Entry V → State V → State V
put_last items r st = appended items r.index r.key r.value st

pub data Made {V : Type 0} (items : ℕ) (command : Command V) (old new : State V) : Type 0 where
  unchanged : new ≡ old → Made items command old new
  one_more : (r : Entry V) → put_by command ≡ Some r → old.floor ≤ r.index → new ≡ put_last items r old → Made items command old new
  all_synced : new ≡ after_sync old → Made items command old new
  one_more_synced : (r : Entry V) → put_by command ≡ Some r → old.floor ≤ r.index → new ≡ after_sync (put_last items r old) → Made items command old new
  opened_anew : command ≡ Reopen → IsReopened old new → Made items command old new
  emptied : (bound : ℕ) → command ≡ Prune bound → IsTrue old.is_open → old.floor < section_of items bound → new ≡ emptied_below (section_of items bound) old → Made items command old new
  gone : command ≡ Destroy → IsTrue old.is_open → new ≡ after_destroy old → Made items command old new

-- a put goes past the tests at or above the floor
not_low : (i floor : ℕ) → nat_lt i floor ≡ false → floor ≤ i
not_low i floor e = grind (arith, nat_tests)

not_skipped : (i floor : ℕ) (taken : Bool) → (nat_lt i floor || taken) ≡ false → floor ≤ i
not_skipped i floor taken e = not_low i floor (first (nat_lt i floor) e)
  where
    first : (low : Bool) → (low || taken) ≡ false → low ≡ false
    first true h = absurd (false≢true (sym h))
    first false h = refl

made_put : {X : Type 0} (items : ℕ) (command : Command X) (r : Entry X) (old new : State X) (skip : Bool)
    → put_by command ≡ Some r → (skip ≡ false → old.floor ≤ r.index) → new ≡ (if skip then old else put_last items r old) → Made items command old new
made_put items command r old new true by above e = unchanged e
made_put items command r old new false by above e = one_more r by (above refl) e

made_put_synced : {X : Type 0} (items : ℕ) (command : Command X) (r : Entry X) (old new : State X) (skip : Bool)
    → put_by command ≡ Some r → (skip ≡ false → old.floor ≤ r.index) → new ≡ after_sync (if skip then old else put_last items r old) → Made items command old new
made_put_synced items command r old new true by above e = all_synced e
made_put_synced items command r old new false by above e = one_more_synced r by (above refl) e

-- a prune goes past its test above the floor
not_reached : (b floor : ℕ) → nat_le b floor ≡ false → floor < b
not_reached b floor e = grind (arith, nat_tests)

made_prune : {X : Type 0} (items bound : ℕ) (old new : State X) (skip : Bool)
    → IsTrue old.is_open → (skip ≡ false → old.floor < section_of items bound) → new ≡ (if skip then old else emptied_below (section_of items bound) old) → Made items (Prune bound) old new
made_prune items bound old new true opened above e = unchanged e
made_prune items bound old new false opened above e = emptied bound refl opened (above refl) e

made_open : {X : Type 0} (items : ℕ) (old : State X) (command : Command X) (reply : Reply X) (new : State X) → IsTrue old.is_open → OpenStep items old command reply new → Made items command old new
made_open items old (Put i k v) reply.Done new opened e = made_put items _ _ old new (nat_lt i old.floor || has_index items old i) refl (not_skipped i old.floor (has_index items old i)) e
made_open items old (Multi i k v) reply.Done new opened e = made_put items _ _ old new (nat_lt i old.floor) refl (not_low i old.floor) e
made_open items old (PutSync i k v) reply.Done new opened e = made_put_synced items _ _ old new (nat_lt i old.floor || has_index items old i) refl (not_skipped i old.floor (has_index items old i)) e
made_open items old (PutStart i k v) reply.Done new opened e = made_put_synced items _ _ old new (nat_lt i old.floor || has_index items old i) refl (not_skipped i old.floor (has_index items old i)) e
made_open items old (MultiSync i k v) reply.Done new opened e = made_put_synced items _ _ old new (nat_lt i old.floor) refl (not_low i old.floor) e
made_open items old (MultiStart i k v) reply.Done new opened e = made_put_synced items _ _ old new (nat_lt i old.floor) refl (not_low i old.floor) e
made_open items old (Get i) (reply.Value v) new opened e = unchanged e.1
made_open items old (GetKey k) (reply.Value (Some v)) new opened e = unchanged e.1
made_open items old (GetKey k) (reply.Value None) new opened e = unchanged e.1
made_open items old (All i) (reply.Values vs) new opened e = unchanged e.1
made_open items old (Has i) (reply.Flag b) new opened e = unchanged e.1
made_open items old (HasKey k) (reply.Flag b) new opened e = unchanged e.1
made_open items old (HasAt i k) (reply.Flag b) new opened e = unchanged e.1
made_open items old (Gap i) (reply.Gap end next) new opened e = unchanged e.2
made_open items old (Missing i n) (reply.Items xs) new opened e = unchanged e.1
made_open items old Ranges (reply.Ranges runs) new opened e = unchanged e.1
made_open items old (RangesFrom i) (reply.Ranges runs) new opened e = unchanged e.1
made_open items old First (reply.Index i) new opened e = unchanged e.1
made_open items old Last (reply.Index i) new opened e = unchanged e.1
made_open items old Sync reply.Done new opened e = all_synced e
made_open items old Start reply.Done new opened e = all_synced e
made_open items old (Prune bound) reply.Done new opened e = made_prune items bound old new (nat_le (section_of items bound) old.floor) opened (not_reached (section_of items bound) old.floor) e
made_open items old Reopen reply.Done new opened e = opened_anew refl e
made_open items old Destroy reply.Done new opened e = gone refl opened e
made_open items old command reply new opened e = absurd e

made_closed : {X : Type 0} (items : ℕ) (old : State X) (command : Command X) (reply : Reply X) (new : State X) → ClosedStep old command reply new → Made items command old new
made_closed items old Reopen reply.Done new e = opened_anew refl e
made_closed items old Reopen reply new e = absurd e
made_closed items old command reply.Closed new e = unchanged e
made_closed items old command reply new e = absurd e

pub made : {X : Type 0} (items : ℕ) (old : State X) (command : Command X) (reply : Reply X) (new : State X) → Step items old command reply new → Made items command old new
made items old command reply new step = by_open old.is_open refl step
  where
    by_open : (b : Bool) → old.is_open ≡ b → MatchBool b (OpenStep items old command reply new) (ClosedStep old command reply new) → Made items command old new
    by_open true opened h = made_open items old command reply new opened h
    by_open false closed h = made_closed items old command reply new h

longer : {X : Type 0} (items : ℕ) (r : Entry X) (st : State X) (s : ℕ) → length (st.lists s) ≤ length ((put_last items r st).lists s)
longer items r st s = elim (s == section_of items r.index) as (λ b. length (st.lists s) ≤ length (if b then st.lists s ++ r ∷ [] else st.lists s)) [
  | true ↦ omega (arith, length-append (st.lists s) (r ∷ []))
  | false ↦ omega arith
]

put_still : {X : Type 0} (items : ℕ) (r : Entry X) (st : State X) (s : ℕ) → st.synced s ≤ length (st.lists s) → take (st.synced s) ((put_last items r st).lists s) ≡ take (st.synced s) (st.lists s)
put_still items r st s order = elim (s == section_of items r.index) as (λ b. take (st.synced s) (if b then st.lists s ++ r ∷ [] else st.lists s) ≡ take (st.synced s) (st.lists s)) [
  | true ↦ take-append-le (st.synced s) (st.lists s) (r ∷ []) order
  | false ↦ refl
]

emptied_still : {X : Type 0} (b : ℕ) (st : State X) (s : ℕ) → KeepsSynced s st (emptied_below b st) ⊎ (s < b)
emptied_still {X} b st s = elim (cases_lt s b) as (λ _. KeepsSynced s st (emptied_below b st) ⊎ (s < b)) [
  | inl below ↦ inr below
  | inr above ↦
      let e : nat_lt s b ≡ false = grind (arith, nat_tests) in
      inl (record {
        still = ap (λ t. take (st.synced s) (if t then (let none : List (Entry X) = [] in none) else st.lists s)) e;
        synced = let same : (if nat_lt s b then 0 else st.synced s) ≡ st.synced s = ap (λ t. if t then 0 else st.synced s) e in omega (arith, same);
      })
]

keeps_order : {X : Type 0} (items : ℕ) (command : Command X) (old new : State X) → Made items command old new → IsInOrder old → IsInOrder new
keeps_order items command old new (unchanged e) order = subst IsInOrder (sym e) order
keeps_order items command old new (one_more r by above e) order = subst IsInOrder (sym e) (λ s. omega (arith, order s, longer items r old s))
keeps_order items command old new (all_synced e) order = subst IsInOrder (sym e) (λ s. omega arith)
keeps_order items command old new (one_more_synced r by above e) order = subst IsInOrder (sym e) (λ s. omega arith)
keeps_order items command old new (opened_anew is o) order = λ s. omega (arith, o.synced s)
keeps_order {X} items command old new (emptied bound is opened above e) order = subst IsInOrder (sym e) below
  where
    below : IsInOrder (emptied_below (section_of items bound) old)
    below s = elim (nat_lt s (section_of items bound)) as (λ b. (if b then 0 else old.synced s) ≤ length (if b then (let none : List (Entry X) = [] in none) else old.lists s)) [ true ↦ omega arith | false ↦ order s ]
keeps_order items command old new (gone is opened e) order = subst IsInOrder (sym e) (λ s. omega arith)

pub step_keeps_order : {X : Type 0} (items : ℕ) (old : State X) (command : Command X) (reply : Reply X) (new : State X) → Step items old command reply new
    → IsInOrder old → IsInOrder new
step_keeps_order items old command reply new step = keeps_order items command old new (made items old command reply new step)

keeps_synced : {X : Type 0} (items : ℕ) (command : Command X) (old new : State X) → Made items command old new → IsInOrder old
    → (s : ℕ) → KeepsSynced s old new ⊎ IsEmptying items old command s
keeps_synced items command old new (unchanged e) order s = inl (subst (KeepsSynced s old) (sym e) (record { still = refl; synced = omega arith }))
keeps_synced items command old new (one_more r by above e) order s = inl (subst (KeepsSynced s old) (sym e) (record { still = put_still items r old s (order s); synced = omega arith }))
keeps_synced items command old new (all_synced e) order s = inl (subst (KeepsSynced s old) (sym e) (record { still = refl; synced = order s }))
keeps_synced items command old new (one_more_synced r by above e) order s = inl (subst (KeepsSynced s old) (sym e) (record {
  still = put_still items r old s (order s);
  synced = omega (arith, order s, longer items r old s);
}))
keeps_synced items command old new (opened_anew is o) order s = inl (record {
  still = ap (take (old.synced s)) (o.cut s) ∙ take-take (old.synced s) (length (new.lists s)) (old.lists s) (o.at_least s);
  synced = omega (arith, o.synced s, o.at_least s);
})
keeps_synced items command old new (emptied bound is opened above e) order s =
    elim (emptied_still (section_of items bound) old s) as (λ _. KeepsSynced s old new ⊎ IsEmptying items old command s) [
      | inl kept ↦ inl (subst (KeepsSynced s old) (sym e) kept)
      | inr low ↦ inr (subst (λ c. IsEmptying items old c s) (sym is) (opened, low, above))
    ]
keeps_synced items command old new (gone is opened e) order s = inr (subst (λ c. IsEmptying items old c s) (sym is) opened)

-- no step but a prune or a destroy takes a synced record away, or the sync of one
pub step_keeps_synced : {X : Type 0} (items : ℕ) (old : State X) (command : Command X) (reply : Reply X) (new : State X) → Step items old command reply new
    → IsInOrder old → (s : ℕ) → KeepsSynced s old new ⊎ IsEmptying items old command s
step_keeps_synced items old command reply new step = keeps_synced items command old new (made items old command reply new step)
