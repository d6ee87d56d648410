-- Sets whose numbers are those of a list: which set a step of the machine leaves, and what its runs and absent numbers are.
use Rattle.std.proofs.Common.{◌≡◌, ◌⊎◌, inl, inr, refl, sym, ◌∙◌, ap, subst, ℕ, zero, suc, ◌+◌, ◌<◌, ◌≤◌, Bool, true, false, ◌||◌, ◌==◌, nat_lt, nat_le, if◌then◌else◌, List, [], ◌∷◌, ◌++◌, slice_index, map, filter, cond, arith, Contains, IsTrue}
use Rattle.std.specs.List.{AllByRecursion, list_any}
use Rattle.std.specs.List.Sorted.{IsStrictlyIncreasing}
use Rattle.std.proofs.lemmas.List.Elements.{Contains-append_left, Contains-push, Contains-push_cases}
use Rattle.std.proofs.lemmas.List.Folds.{list_any-append}
use Rattle.std.proofs.lemmas.Bool.{cases_lt, eqb-true, false≢true}
use Rattle.std.proofs.lemmas.Bool.Decides.{nat_tests}
use Rattle.ordinal_store.specs.Numbers.{Set, IsRun, AreRuns, AreRunsFrom, AreMissing}
use Rattle.archives.specs.Machine.{Entry, State, section_of, has_index, appended, emptied_below}

-- ---- one element after another

pub first_or_rest : {X : Type 0} (x : X) (xs : List X) (y : X) → Contains (x ∷ xs) y → (y ≡ x) ⊎ Contains xs y
first_or_rest x xs y (zero, within, e) = inl (sym e)
first_or_rest x xs y (suc k, within, e) = inr (k, omega arith, e)

pub each_of : {X : Type 0} (P : X → Type 0) (xs : List X) → AllByRecursion P xs → (y : X) → Contains xs y → P y
each_of P [] all y is = absurd (omega (arith, is.1))
each_of P (x ∷ xs) all y is = elim (first_or_rest x xs y is) as (λ _. P y) [
  | inl e ↦ subst P (sym e) all.0
  | inr rest ↦ each_of P xs all.1 y rest
]

or_cases : (a b : Bool) → (a || (b || false)) ≡ true → (a ≡ true) ⊎ (b ≡ true)
or_cases true b h = inl refl
or_cases false true h = inr refl
or_cases false false h = absurd (false≢true h)

any_push : {X : Type 0} (p : X → Bool) (xs : List X) (x : X) → list_any p (xs ++ x ∷ []) ≡ true → (list_any p xs ≡ true) ⊎ (p x ≡ true)
any_push p xs x h = or_cases (list_any p xs) (p x) (sym (list_any-append p xs (x ∷ [])) ∙ h)

-- ---- the indices of a state

-- a set has no other numbers than those of the list
abbrev pub HasOnly : Set → List ℕ → Type 0
HasOnly set ns = (i : ℕ) → IsTrue (set i) → Contains ns i

-- no index but the new one joins
appended_only : {V : Type 0} (items k : ℕ) (key : List ℕ) (v : V) (st : State V) (i : ℕ)
    → IsTrue (has_index items (appended items k key v st) i) → IsTrue (has_index items st i) ⊎ (i ≡ k)
appended_only items k key v st i h =
    elim (section_of items i == section_of items k) as (λ b. IsTrue (list_any (λ r. r.index == i) (if b then st.lists (section_of items i) ++ record { index = k; key = key; value = v } ∷ [] else st.lists (section_of items i)))
    → IsTrue (has_index items st i) ⊎ (i ≡ k)) [
      | true ↦ λ g. elim (any_push (λ r. r.index == i) (st.lists (section_of items i)) (record { index = k; key = key; value = v }) g) as (λ _. IsTrue (has_index items st i) ⊎ (i ≡ k)) [ inl e ↦ inl e | inr e ↦ inr (sym (eqb-true k i e)) ]
      | false ↦ λ g. inl g
    ] h

pub appended_has_only : {V : Type 0} (items k : ℕ) (key : List ℕ) (v : V) (st : State V) (ns : List ℕ) → HasOnly (has_index items st) ns
    → HasOnly (has_index items (appended items k key v st)) (ns ++ k ∷ [])
appended_has_only items k key v st ns only i h = elim (appended_only items k key v st i h) as (λ _. Contains (ns ++ k ∷ []) i) [
  | inl before ↦ Contains-append_left ns (k ∷ []) i (only i before)
  | inr e ↦ subst (Contains (ns ++ k ∷ [])) (sym e) (Contains-push ns k)
]

pub empty_has_only : HasOnly (λ i. false) []
empty_has_only i h = absurd (false≢true h)

-- below the bound none stays
emptied_only : {V : Type 0} (items b : ℕ) (st : State V) (i : ℕ)
    → IsTrue (has_index items (emptied_below b st) i) → (b ≤ section_of items i) × IsTrue (has_index items st i)
emptied_only items b st i h =
    elim (nat_lt (section_of items i) b) as (λ t. nat_lt (section_of items i) b ≡ t → IsTrue (list_any (λ r. r.index == i) (if t then [] else st.lists (section_of items i)))
    → (b ≤ section_of items i) × IsTrue (has_index items st i)) [
      | true ↦ λ e g. absurd (false≢true g)
      | false ↦ λ e g. (grind (arith, nat_tests), g)
    ] refl h

filtered : {X : Type 0} (p : X → Bool) (xs : List X) (y : X) → p y ≡ true → Contains xs y → Contains (filter p xs) y
filtered p [] y passes is = is
filtered {X} p (x ∷ xs) y passes is = elim (first_or_rest x xs y is) as (λ _. Contains (filter p (x ∷ xs)) y) [
  | inl e ↦ subst (λ b. Contains (cond b (x ∷ filter p xs) (filter p xs)) y) (sym (ap p (sym e) ∙ passes)) (0, omega arith, sym e)
  | inr rest ↦ behind (p x) (filtered p xs y passes rest)
]
  where
    behind : (b : Bool) → Contains (filter p xs) y → Contains (cond b (x ∷ filter p xs) (filter p xs)) y
    behind true (k, within, e) = (suc k, omega arith, e)
    behind false there = there

pub emptied_has_only : {V : Type 0} (items b : ℕ) (st : State V) (ns : List ℕ) → HasOnly (has_index items st) ns
    → HasOnly (has_index items (emptied_below b st)) (filter (λ n. nat_le b (section_of items n)) ns)
emptied_has_only items b st ns only i h =
    let low = emptied_only items b st i h in
    let passes : nat_le b (section_of items i) ≡ true = grind (arith, nat_tests, low.0) in
    filtered (λ n. nat_le b (section_of items n)) ns i passes (only i low.1)

-- the records of a section after one more
pub appended_record : {V : Type 0} (items k : ℕ) (key : List ℕ) (v : V) (st : State V) (s : ℕ) (r : Entry V)
    → Contains ((appended items k key v st).lists s) r → Contains (st.lists s) r ⊎ (record { index = k; key = key; value = v } ≡ r)
appended_record items k key v st s r is =
    elim (s == section_of items k) as (λ b. Contains (if b then st.lists s ++ record { index = k; key = key; value = v } ∷ [] else st.lists s) r
    → Contains (st.lists s) r ⊎ (record { index = k; key = key; value = v } ≡ r)) [
      | true ↦ λ g. Contains-push_cases (st.lists s) (record { index = k; key = key; value = v }) r g
      | false ↦ λ g. inl g
    ] is

-- ---- sets none of whose numbers touch

abbrev pub alone : List ℕ → List (ℕ × ℕ)
alone ns = map (λ n. (n, n)) ns

firsts : (ns : List ℕ) → map (λ r. r.0) (alone ns) ≡ ns
firsts [] = refl
firsts (n ∷ ns) = ap (λ (ms : List ℕ). n ∷ ms) (firsts ns)

alone_has : (ns : List ℕ) (n : ℕ) → Contains ns n → Contains {X = ℕ × ℕ} (alone ns) (n, n)
alone_has [] n is = absurd (omega (arith, is.1))
alone_has (m ∷ ns) n is = elim (first_or_rest m ns n is) as (λ _. Contains {X = ℕ × ℕ} (alone (m ∷ ns)) (n, n)) [
  | inl e ↦ (0, omega arith, λ i. (sym e i, sym e i))
  | inr rest ↦ let there = alone_has ns n rest in (suc there.0, omega (arith, there.1), there.2)
]

-- between each number of the list and the next there is another number
abbrev pub IsSpaced : List ℕ → Type 0
IsSpaced [] = Unit {0}
IsSpaced (n ∷ ns) = AllByRecursion (λ m. n + 1 < m) ns × IsSpaced ns

spaced_ascends : (ns : List ℕ) → IsSpaced ns → IsStrictlyIncreasing ns
spaced_ascends [] spaced k within = absurd (omega arith)
spaced_ascends (n ∷ []) spaced k within = absurd (omega arith)
spaced_ascends (n ∷ m ∷ ns) spaced zero within = let first = spaced.0.0 in omega (arith, first)
spaced_ascends (n ∷ m ∷ ns) spaced (suc k) within =
    let e : suc k + 1 ≡ suc (k + 1) = omega arith in
    let rest = spaced_ascends (m ∷ ns) spaced.1 k (omega arith) in
    subst (λ (j : ℕ). slice_index (m ∷ ns) k < slice_index (n ∷ m ∷ ns) j) (sym e) rest

spaced_apart : (ns : List ℕ) → IsSpaced ns → (i : ℕ) → Contains ns i → Contains ns (i + 1) → ⊥
spaced_apart [] spaced i one two = omega (arith, one.1)
spaced_apart (n ∷ ns) spaced i one two = elim (first_or_rest n ns i one) as (λ _. ⊥) [
  | inl e ↦ elim (first_or_rest n ns (i + 1) two) as (λ _. ⊥) [
    | inl f ↦ omega (arith, e, f)
    | inr later ↦ let above = each_of (λ m. n + 1 < m) ns spaced.0 (i + 1) later in omega (arith, e, above)
  ]
  | inr late ↦ elim (first_or_rest n ns (i + 1) two) as (λ _. ⊥) [
    | inl f ↦ let above = each_of (λ m. n + 1 < m) ns spaced.0 i late in omega (arith, f, above)
    | inr later ↦ spaced_apart ns spaced.1 i late later
  ]
]

module _ (set : Set) (numbers : List ℕ) (spaced : IsSpaced numbers) (only : HasOnly set numbers) where
  lonely : (i : ℕ) → IsTrue (set i) → ¬ IsTrue (set (i + 1))
  lonely i h more = spaced_apart numbers spaced i (only i h) (only (i + 1) more)

  -- such a set has runs of one number only
  one_long : (a b : ℕ) → IsRun set a b → a ≡ b
  one_long a b run = elim (cases_lt a b) as (λ _. a ≡ b) [
    | inl lt ↦ absurd (lonely a (run.inside a (omega arith) run.ordered) (run.inside (a + 1) (omega arith) (omega arith)))
    | inr le ↦ let o = run.ordered in omega (arith, o)
  ]

  pub is_lone : (n : ℕ) → IsTrue (set n) → IsRun set n n
  is_lone n here = record {
    ordered = omega arith;
    inside = λ i a b. let e : n ≡ i = omega arith in subst (λ j. IsTrue (set j)) e here;
    begins = λ i e h. lonely i h (subst (λ j. IsTrue (set j)) (sym e) here);
    ends = lonely n here;
  }

  all_lone : (v : ℕ) (ns : List ℕ) → AllByRecursion (λ n. IsTrue (set n) × (v ≤ n)) ns → AllByRecursion (λ x. IsRun set x.0 x.1 × (v ≤ x.1)) (alone ns)
  all_lone v [] has = tt
  all_lone v (n ∷ ns) has = ((is_lone n has.0.0, has.0.1), all_lone v ns has.1)

  pub lone_runs_from : (v : ℕ) (ns : List ℕ) → IsSpaced ns → ((i : ℕ) → IsTrue (set i) → v ≤ i → Contains ns i)
      → AllByRecursion (λ n. IsTrue (set n) × (v ≤ n)) ns → AreRunsFrom set v (alone ns)
  lone_runs_from v ns apart high has = record {
    ascending = subst IsStrictlyIncreasing (sym (firsts ns)) (spaced_ascends ns apart);
    each = λ a b. (
      λ is. each_of (λ x. IsRun set x.0 x.1 × (v ≤ x.1)) (alone ns) (all_lone v ns has) (a, b) is,
      λ (run, low).
          let e = one_long a b run in
          subst (λ c. Contains {X = ℕ × ℕ} (alone ns) (a, c)) e (alone_has ns a (high a (run.inside a (omega arith) run.ordered) (omega (arith, e, low)))),
    );
  }

  from_0 : (ns : List ℕ) → AllByRecursion (λ n. IsTrue (set n)) ns → AllByRecursion (λ n. IsTrue (set n) × (0 ≤ n)) ns
  from_0 [] has = tt
  from_0 (n ∷ ns) has = ((has.0, omega arith), from_0 ns has.1)

  pub lone_runs : AllByRecursion (λ n. IsTrue (set n)) numbers → AreRuns set (alone numbers)
  lone_runs has =
      let all = lone_runs_from 0 numbers spaced (λ i h low. only i h) (from_0 numbers has) in
      record {
        ascending = all.ascending;
        each = λ a b. (λ is. ((all.each a b).0 is).0, λ run. (all.each a b).1 (run, omega arith));
      }

-- ---- absent numbers

-- none are asked for
pub none_missing : (set : Set) (s : ℕ) → AreMissing set s 0 []
none_missing set s = record {
  ascending = λ k within. absurd (omega arith);
  at_most = omega arith;
  each = λ x is. absurd (omega (arith, is.1));
  first = λ x missing. inr (refl, λ y is. absurd (omega (arith, is.1)));
}
