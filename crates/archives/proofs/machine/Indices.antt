-- What the plain machine tells of its indices: what is true of the set of all of them is true of the state's.
use Rattle.std.proofs.Common.{◌≡◌, ◌⊎◌, ◌↔◌, inl, inr, refl, sym, ◌∙◌, subst, ℕ, ◌==◌, ◌||◌, Bool, true, false, IsTrue, List, [], ◌∷◌, ◌++◌, Option, None, Some, Result, Ok, Err, arith}
use Rattle.std.specs.List.{list_any}
use Rattle.std.specs.Prelude.{MatchBool}
use Rattle.std.proofs.lemmas.Bool.{eq-eqb, eqb-true}
use Rattle.std.proofs.lemmas.List.Folds.{list_any-append}
use Rattle.ordinal_store.specs.Numbers.{Set, AddsNumber, AreRuns, AreRunsFrom, IsSameSet}
use Rattle.ordinal_store.specs.Plain.{listed}
use Rattle.ordinal_store.specs.declared.plain.PlainSet.{PlainSet}
use Rattle.archives.specs.Commands.{Command, Get, Ranges, RangesFrom, Reopen}
use Rattle.archives.specs.Machine.{ClosedStep, IsReopened, OpenStep, State, Step, asked, first_value, has_index, replied}
use Rattle.archives.specs.plain.Machine.{CarriesOut, HasCarriedOut, HasIndices, HasReopened, Tells, Turns, items_at, state_of}
use Rattle.archives.specs.Replies as reply
use Rattle.archives.specs.declared.commands.Command as asking
use Rattle.archives.specs.declared.commands.Command.TheVariants as ask
use Rattle.archives.specs.declared.commands.Reply.{Reply}
use Rattle.archives.specs.declared.commands.Reply.TheVariants as answer
use Rattle.archives.specs.declared.error.Error.{Error}
use Rattle.archives.specs.declared.error.Error.TheVariants.{Mem}
use Rattle.archives.specs.declared.plain.Item.{Item}
use Rattle.archives.specs.declared.plain.Machine.{Machine}
use Rattle.archives.proofs.IndexSets.{one_set, or_either, or_left, or_right}
use Rattle.archives.proofs.machine.Lemmas.{any_here}

-- the numbers of the set are the indices of these records
abbrev pub AreOf : {K V : Type 0} → Set → List (Item K V) → Type 0
AreOf set items = (i : ℕ) → IsTrue (set i) ↔ IsTrue (list_any (λ r. r.index == i) items)

-- no number is in the set of none
pub of_none : (K V : Type 0) (numbers : List ℕ) → numbers ≡ [] → AreOf {K = K} {V = V} (listed numbers) []
of_none K V numbers none = subst (λ (xs : List ℕ). AreOf {K = K} {V = V} (listed xs) []) (sym none) (λ i. (λ is. is, λ is. is))

-- that of one record more
pub of_more : {K V : Type 0} (old new : Set) (xs : List (Item K V)) (x : Item K V) → AreOf old xs → AddsNumber old new x.index → AreOf new (xs ++ x ∷ [])
of_more {K} {V} old new xs x are adds i = (there, back)
  where
    test : Item K V → Bool
    test r = r.index == i

    both : list_any test (xs ++ x ∷ []) ≡ (list_any test xs || (test x || false))
    both = list_any-append test xs (x ∷ [])

    there : IsTrue (new i) → IsTrue (list_any test (xs ++ x ∷ []))
    there is = elim ((adds i).0 is) as (λ _. IsTrue (list_any test (xs ++ x ∷ []))) [
      | inl same ↦ both ∙ or_right (list_any test xs) (test x || false) (or_left (test x) false (eq-eqb x.index i (sym same)))
      | inr was ↦ both ∙ or_left (list_any test xs) (test x || false) ((are i).0 was)
    ]

    back : IsTrue (list_any test (xs ++ x ∷ [])) → IsTrue (new i)
    back is = elim (or_either (list_any test xs) (test x || false) (sym both ∙ is)) as (λ _. IsTrue (new i)) [
      | inl before ↦ (adds i).1 (inr ((are i).1 before))
      | inr now ↦ elim (or_either (test x) false now) as (λ _. IsTrue (new i)) [ inl same ↦ (adds i).1 (inl (sym (eqb-true x.index i same))) | inr never ↦ absurd (cc never) ]
    ]

-- all runs end at 0 or later
runs_all : (set : Set) (runs : List (ℕ × ℕ)) → AreRunsFrom set 0 runs → AreRuns set runs
runs_all set runs from = record {
  ascending = from.ascending;
  each = λ a b. ((λ has. ((from.each a b).0 has).0), (λ run. (from.each a b).1 (run, omega arith)));
}

module _ {K V : Type 0} (kb : K → List ℕ) (m : Machine K V) where
  -- the set of the state
  abbrev taken : Set
  taken = has_index m.items_per_section (state_of kb m)

  -- the indices of all records are those of the state
  pub of_state : (set : Set) → AreOf set m.items.items → IsSameSet set taken
  of_state set are i = subst (λ (b : Bool). IsTrue (set i) ↔ IsTrue b) (any_here kb m.items_per_section m.floor m.is_open i m.items.items) (are i)

  pub has_none : (r : Result PlainSet Error) → r ≡ Err Mem → HasIndices kb m r
  has_none r is = subst (HasIndices kb m) (sym is) refl

  -- what is true of the set is true of the state's
  pub told_of : (set : Set) → IsSameSet set taken → (P : Set → Type 0) → P set → P taken
  told_of set are P holds = subst P (one_set set taken are) holds

  pub told_none : (command : Command V) (r : Result (Reply V) Error) → r ≡ Err Mem → Tells kb m command r
  told_none command r is = subst (Tells kb m command) (sym is) refl

  -- a value of a record
  pub told_value : (index : ℕ) (value : Option V) → value ≡ first_value (items_at kb m index) → Tells kb m (Get index) (Ok (answer.Value value))
  told_value index None is = (is, refl)
  told_value index (Some value) is = (is, refl)

  -- the runs that end at 0 or later are all
  pub told_all : (r : Result (Reply V) Error) → Tells kb m (RangesFrom 0) r → Tells kb m Ranges r
  told_all (Ok (answer.Ranges runs)) told = (runs_all taken runs told.0, refl)
  told_all (Ok answer.Done) told = absurd told
  told_all (Ok (answer.Value value)) told = absurd told
  told_all (Ok (answer.Values values)) told = absurd told
  told_all (Ok (answer.Flag holds)) told = absurd told
  told_all (Ok (answer.Gap end next)) told = absurd told
  told_all (Ok (answer.Items numbers)) told = absurd told
  told_all (Ok (answer.Index index)) told = absurd told
  told_all (Ok answer.Closed) told = absurd told
  told_all (Err e) none = none

  -- of an open machine each step of an open one is a step
  pub opened : m.is_open ≡ true → (command : Command V) (r : Reply V) (new : State V) → OpenStep m.items_per_section (state_of kb m) command (replied (λ v. v) r) new
      → Step m.items_per_section (state_of kb m) command (replied (λ v. v) r) new
  opened is command r new step =
      subst (λ (b : Bool). MatchBool b (OpenStep m.items_per_section (state_of kb m) command (replied (λ v. v) r) new) (ClosedStep (state_of kb m) command (replied (λ v. v) r) new)) (sym is) step

  -- a command that only asks changes nothing
  pub told_carries : m.is_open ≡ true → (command this : asking.Command K V) → command ≡ this → (r : Result (Reply V) Error) → Tells kb m (asked kb (λ v. v) this) r → CarriesOut kb command r m m
  told_carries is_open command this is (Ok r) told = record {
    step = subst (λ (c : asking.Command K V). Step m.items_per_section (state_of kb m) (asked kb (λ v. v) c) (replied (λ v. v) r) (state_of kb m)) (sym is) (opened is_open (asked kb (λ v. v) this) r (state_of kb m) told);
    same = refl;
  }
  told_carries is_open command this is (Err e) none = record { cause = none; unchanged = refl; same = refl }

  -- one that changes the machine
  pub turned_carries : m.is_open ≡ true → (new : Machine K V) (command this : asking.Command K V) (after : State V → State V) → command ≡ this
      → ((st : State V) → OpenStep m.items_per_section st (asked kb (λ v. v) this) reply.Done (after st)) → (r : Result (Reply V) Error) → Turns kb m new after r → CarriesOut kb command r m new
  turned_carries is_open new command this after is does (Ok r) turned =
      let there : OpenStep m.items_per_section (state_of kb m) (asked kb (λ v. v) this) reply.Done (state_of kb new)
      = subst (λ (st : State V). OpenStep m.items_per_section (state_of kb m) (asked kb (λ v. v) this) reply.Done st) (sym turned.state) (does (state_of kb m)) in
      let answered : OpenStep m.items_per_section (state_of kb m) (asked kb (λ v. v) this) (replied (λ v. v) r) (state_of kb new)
      = subst (λ (x : Reply V). OpenStep m.items_per_section (state_of kb m) (asked kb (λ v. v) this) (replied (λ v. v) x) (state_of kb new)) (sym turned.done) there in
      record {
        step = subst (λ (c : asking.Command K V). Step m.items_per_section (state_of kb m) (asked kb (λ v. v) c) (replied (λ v. v) r) (state_of kb new)) (sym is) (opened is_open (asked kb (λ v. v) this) r (state_of kb new) answered);
        same = turned.same;
      }
  turned_carries is_open new command this after is does (Err e) none = none

  -- by one of two commands
  pub turned_either : m.is_open ≡ true → (new : Machine K V) (command one other : asking.Command K V) (after : State V → State V) → (command ≡ one) ⊎ (command ≡ other)
      → ((st : State V) → OpenStep m.items_per_section st (asked kb (λ v. v) one) reply.Done (after st) × OpenStep m.items_per_section st (asked kb (λ v. v) other) reply.Done (after st))
      → (r : Result (Reply V) Error) → Turns kb m new after r → CarriesOut kb command r m new
  turned_either is_open new command one other after (inl is) does r turned = turned_carries is_open new command one after is (λ st. (does st).0) r turned
  turned_either is_open new command one other after (inr is) does r turned = turned_carries is_open new command other after is (λ st. (does st).1) r turned

  -- ---- a closed machine

  -- it is told so, whatever is asked but a reopening
  closed_step : (command : asking.Command K V) → (command ≡ ask.Reopen → ⊥) → ClosedStep (state_of kb m) (asked kb (λ v. v) command) reply.Closed (state_of kb m)
  closed_step (ask.Put index key value) other = refl
  closed_step (ask.PutSync index key value) other = refl
  closed_step (ask.PutStart index key value) other = refl
  closed_step (ask.Multi index key value) other = refl
  closed_step (ask.MultiSync index key value) other = refl
  closed_step (ask.MultiStart index key value) other = refl
  closed_step (ask.Get index) other = refl
  closed_step (ask.GetKey key) other = refl
  closed_step (ask.Has index) other = refl
  closed_step (ask.HasKey key) other = refl
  closed_step (ask.HasAt index key) other = refl
  closed_step (ask.All index) other = refl
  closed_step (ask.Gap index) other = refl
  closed_step (ask.Missing index count) other = refl
  closed_step ask.Ranges other = refl
  closed_step (ask.RangesFrom index) other = refl
  closed_step ask.First other = refl
  closed_step ask.Last other = refl
  closed_step ask.Sync other = refl
  closed_step ask.Start other = refl
  closed_step (ask.Prune bound) other = refl
  closed_step ask.Reopen other = absurd (other refl)
  closed_step ask.Destroy other = refl

  pub closed_carries : m.is_open ≡ false → (command : asking.Command K V) → (command ≡ ask.Reopen → ⊥) → HasCarriedOut kb command answer.Closed m m
  closed_carries is command other = record {
    step = subst (λ (b : Bool). MatchBool b (OpenStep m.items_per_section (state_of kb m) (asked kb (λ v. v) command) reply.Closed (state_of kb m)) (ClosedStep (state_of kb m) (asked kb (λ v. v) command) reply.Closed (state_of kb m))) (sym is) (closed_step command other);
    same = refl;
  }

  -- a reopening is one step of an open machine and of a closed one
  pub reopened_carries : (new : Machine K V) (command : asking.Command K V) → command ≡ ask.Reopen → (r : Reply V) → HasReopened kb m new r → HasCarriedOut kb command r m new
  reopened_carries new command is r reopened = record {
    step = subst (λ (c : asking.Command K V). Step m.items_per_section (state_of kb m) (asked kb (λ v. v) c) (replied (λ v. v) r) (state_of kb new)) (sym is)
        (subst (λ (x : Reply V). Step m.items_per_section (state_of kb m) Reopen (replied (λ v. v) x) (state_of kb new)) (sym reopened.done) (either m.is_open reopened.state));
    same = reopened.same;
  }
    where
      either : (b : Bool) → IsReopened (state_of kb m) (state_of kb new) → MatchBool b (OpenStep m.items_per_section (state_of kb m) Reopen reply.Done (state_of kb new)) (ClosedStep (state_of kb m) Reopen reply.Done (state_of kb new))
      either true reopens = reopens
      either false reopens = reopens
