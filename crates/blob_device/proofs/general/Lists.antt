-- What holds of all elements of a list, and of those that it contains.
use Rattle.std.proofs.Common.{List, [], arith, get_or, inl, inr, length, subst, suc, take, zero, ℕ, ◌++◌, ◌<◌, ◌∷◌, ◌≡◌, ◌⊎◌}
use Rattle.std.proofs.lemmas.Bool.{cases_eq}
use Rattle.std.proofs.lemmas.Bool.Decides.{nat_tests}
use Rattle.std.proofs.lemmas.List.Elements.{Contains-append_cases, Contains-append_left, Contains-append_right, Contains-push, Contains-push_cases}
use Rattle.std.proofs.lemmas.Map.Keys.{sorted_head, sorted_tail}
use Rattle.std.specs.List.{AllByRecursion, Contains}
use Rattle.std.specs.List.Sorted.{IsStrictlySortedBy}
use Rattle.std.specs.Ordering.{nat_cmp}
use Rattle.std.specs.declared.cmp.Ordering.TheVariants.{Less}

pub all_push : {X : Type 0} (P : X → Type 0) (xs : List X) (x : X) → AllByRecursion P xs → P x → AllByRecursion P (xs ++ x ∷ [])
all_push P [] x all here = (here, tt)
all_push P (y ∷ xs) x all here = (all.0, all_push P xs x all.1 here)

pub all_by : {X : Type 0} (P Q : X → Type 0) → ((x : X) → P x → Q x) → (xs : List X) → AllByRecursion P xs → AllByRecursion Q xs
all_by P Q make [] ps = tt
all_by P Q make (x ∷ xs) ps = (make x ps.0, all_by P Q make xs ps.1)

-- facts of each element
pub all_take : {X : Type 0} (P : X → Type 0) (n : ℕ) (xs : List X) → AllByRecursion P xs → AllByRecursion P (take n xs)
all_take P zero xs all = tt
all_take P (suc n) [] all = tt
all_take P (suc n) (x ∷ xs) all = (all.0, all_take P n xs all.1)

pub all_with : {X : Type 0} (P Q R : X → Type 0) → ((x : X) → P x → Q x → R x) → (xs : List X) → AllByRecursion P xs → AllByRecursion Q xs → AllByRecursion R xs
all_with P Q R make [] ps qs = tt
all_with P Q R make (x ∷ xs) ps qs = (make x ps.0 qs.0, all_with P Q R make xs ps.1 qs.1)

pub all_at : {X : Type 0} (P : X → Type 0) (x : X) (xs : List X) → AllByRecursion P xs → (i : ℕ) → i < length xs → P (get_or xs i x)
all_at P x [] all i lt = absurd (omega (arith, lt))
all_at P x (y ∷ xs) all zero lt = all.0
all_at P x (y ∷ xs) all (suc i) lt = all_at P x xs all.1 i (omega (arith, lt))

pub each_at : {X : Type 0} (P : X → Type 0) (xs : List X) (p : ℕ) (d : X) → AllByRecursion P xs → p < length xs → P (get_or xs p d)
each_at P [] p d all lt = absurd (omega (arith, lt))
each_at P (x ∷ xs) zero d all lt = all.0
each_at P (x ∷ xs) (suc p) d all lt = each_at P xs p d all.1 (omega (arith, lt))

pub contains_or_not : (xs : List ℕ) (x : ℕ) → Contains xs x ⊎ (Contains xs x → ⊥)
contains_or_not [] x = inr (λ c. absurd (omega (arith, c.1)))
contains_or_not (y ∷ ys) x = elim (cases_eq y x) [
  | inl is ↦ inl (Contains-append_left (y ∷ []) ys x (subst (Contains (y ∷ [])) is (Contains-push [] y)))
  | inr other ↦ elim (contains_or_not ys x) [
    | inl later ↦ inl (Contains-append_right (y ∷ []) ys x later)
    | inr never ↦ inr (λ c. elim (Contains-append_cases (y ∷ []) ys x c) [
      | inl first ↦ elim (Contains-push_cases [] y x first) [
        | inl none ↦ absurd (omega (arith, none.1))
        | inr is ↦ other is
      ]
      | inr later ↦ never later
    ])
  ]
]

-- the first of a list, or a later one
pub first_or_later : (y : ℕ) (ys : List ℕ) (x : ℕ) → Contains (y ∷ ys) x → (y ≡ x) ⊎ Contains ys x
first_or_later y ys x c = elim (Contains-append_cases (y ∷ []) ys x c) [
  | inl first ↦ elim (Contains-push_cases [] y x first) [
    | inl none ↦ absurd (omega (arith, none.1))
    | inr is ↦ inl is
  ]
  | inr later ↦ inr later
]

pub later_in : (y : ℕ) (ys : List ℕ) (x : ℕ) → Contains ys x → Contains (y ∷ ys) x
later_in y ys x c = Contains-append_right (y ∷ []) ys x c

pub first_in : (y : ℕ) (ys : List ℕ) → Contains (y ∷ ys) y
first_in y ys = Contains-append_left (y ∷ []) ys y (Contains-push [] y)

pub less_all : (s q : ℕ) (l : List ℕ) → AllByRecursion (λ (y : ℕ). nat_cmp s y ≡ Less) l → Contains l q → nat_cmp s q ≡ Less
less_all s q [] all listed = absurd (omega (arith, listed.1))
less_all s q (y ∷ l) all listed = elim (first_or_later y l q listed) [
  | inl is ↦ subst (λ (x : ℕ). nat_cmp s x ≡ Less) is all.0
  | inr later ↦ less_all s q l all.1 later
]

-- a key below that of this turn had its turn
pub before_turn : (before after : List ℕ) (s q : ℕ) → IsStrictlySortedBy nat_cmp (before ++ s ∷ after) → q < s → Contains (before ++ s ∷ after) q → Contains before q
before_turn [] after s q sorted less listed = elim (first_or_later s after q listed) [
  | inl is ↦ absurd (omega (arith, is, less))
  | inr later ↦ (let above : nat_cmp s q ≡ Less = less_all s q after (sorted_head nat_cmp s after sorted) later in absurd (grind (arith, nat_tests)))
]
before_turn (b ∷ before) after s q sorted less listed = elim (first_or_later b (before ++ s ∷ after) q listed) [
  | inl is ↦ subst (Contains (b ∷ before)) is (first_in b before)
  | inr later ↦ later_in b before q (before_turn before after s q (sorted_tail nat_cmp b (before ++ s ∷ after) sorted) less later)
]
