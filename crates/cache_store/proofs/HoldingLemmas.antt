-- What is held of a map once its prefix is forgotten, and that its runs are of the same indices.
use Rattle.std.specs.Prelude.{◌≡◌, ℕ, ◌-◌, ◌<◌, ◌≤◌, nat_le, cond, Bool, true, false, List, Option, None, Some, Result, Ok, Err, OnOk, OnErr, IsSome, IsSomeAnd, is_some}
use Rattle.std.specs.Ordering.{nat_cmp, is_eq}
use Rattle.std.specs.declared.cmp.Ordering.{Ordering}
use Rattle.std.specs.declared.cmp.Ordering.TheVariants.{Less, Equal, Greater}
use Rattle.std.specs.List.{filter}
use Rattle.std.specs.Map.{lookup}
use Rattle.std.specs.BTreeMap.{is_at}
use Rattle.std.proofs.Common.{inr, ⊎_elim, refl, sym, ◌∙◌, ap, subst, arith}
use Rattle.std.proofs.lemmas.Bool.{cases_lt, cond-true, cond-false, le-leb, lt-leb}
use Rattle.std.proofs.lemmas.Map.Entries.{lookup-filter-keys}
use Rattle.std.proofs.lemmas.Map.Lookups.{exact_unsigned}
use Rattle.ordinal_store.specs.Numbers.{Set, IsSplitBy, TakesAway}
use Rattle.cache_store.specs.Holding.{forgotten}

-- two tests that hold of the same
pub same_bool : (a b : Bool) → (a ≡ true → b ≡ true) → (b ≡ true → a ≡ true) → a ≡ b
same_bool true b to from = sym (to refl)
same_bool false true to from = from refl
same_bool false false to from = refl

is_equal : (o : Ordering) → is_eq o ≡ true → o ≡ Equal
is_equal Equal is = refl
is_equal Less is = absurd (cc is)
is_equal Greater is = absurd (cc is)

-- what is found in the entries whose keys pass
pub found_in : {X : Type 0} (p : ℕ → Bool) (es fs : List (ℕ × X)) → fs ≡ filter (λ e. p e.0) es
    → (s : ℕ) → lookup (is_at (nat_cmp s)) fs ≡ cond (p s) (lookup (is_at (nat_cmp s)) es) None
found_in p es fs is s = ap (lookup (is_at (nat_cmp s))) is
    ∙ lookup-filter-keys (is_at (nat_cmp s)) p (p s) (λ k at. ap p (sym (exact_unsigned s k (is_equal (nat_cmp s k) at)))) es

-- from the start no run is split
pub taken : {T E : Type 0} (set rest : Set) (end : ℕ) (r : Result T E) → OnOk r (TakesAway set rest 0 end) → OnErr r (IsSplitBy set 0 end) → TakesAway set rest 0 end
taken set rest end (Ok x) ok split = ok
taken set rest end (Err e) ok split = absurd (omega (arith, split.1.2))

-- the runs are those of what is left
pub tied_after : (bound : ℕ) (set rest : Set) (held left : ℕ → Option ℕ) → 1 ≤ bound → TakesAway set rest 0 (bound - 1)
    → ((i : ℕ) → set i ≡ is_some (held i)) → ((i : ℕ) → left i ≡ forgotten bound held i) → (i : ℕ) → rest i ≡ is_some (left i)
tied_after bound set rest held left some takes tied is i = ⊎_elim
    (λ (low : i < bound). same_bool (rest i) (is_some (left i))
    (λ has. absurd (⊎_elim (λ (a : i < 0). omega (arith, a)) (λ (a : bound - 1 < i). omega (arith, a, low)) ((takes i).0 has).1))
    (λ has. absurd (cc (has, ap is_some (is i ∙ cond-false (nat_le bound i) _ _ (lt-leb bound i low))))))
    (λ (high : bound ≤ i).
    let same : left i ≡ held i = is i ∙ cond-true (nat_le bound i) _ _ (le-leb bound i high) in
    same_bool (rest i) (set i) (λ has. ((takes i).0 has).0) (λ has. (takes i).1 (has, inr (omega (arith, high, some)))) ∙ tied i ∙ ap is_some (sym same))
    (cases_lt i bound)

-- what is there is not absent, and the other way
pub none_from : {X : Type 0} (o : Option X) → IsSome o → o ≡ None → ⊥
none_from o has is = cc (subst IsSome is has)

pub some_from : {X : Type 0} (o : Option X) → (o ≡ None → ⊥) → IsSome o
some_from None not = absurd (not refl)
some_from (Some x) not = refl

-- nothing is there
pub none_of : {X : Type 0} (o : Option X) → is_some o ≡ false → o ≡ None
none_of None is = refl
none_of (Some x) is = absurd (cc is)

-- what is there, and has this
pub held_with : {X : Type 0} (o : Option X) (P : X → Type 0) → IsSomeAnd o P → (u : X) × (o ≡ Some u) × P u
held_with None P has = absurd has
held_with (Some u) P has = (u, refl, has)

-- an answer is one
pub ok_is : {X E : Type 0} {x y : X} → ◌≡◌ {A = Result X E} (Ok x) (Ok y) → x ≡ y
ok_is is = cc is

pub err_is : {X E : Type 0} {x y : E} → ◌≡◌ {A = Result X E} (Err x) (Err y) → x ≡ y
err_is is = cc is
