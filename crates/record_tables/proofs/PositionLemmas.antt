-- Where the rows with an index stand, as rows are added.
use Rattle.std.proofs.Common.{◌≡◌, ◌≢◌, ◌⊎◌, inl, inr, refl, sym, ap, subst, ℕ, zero, suc, ◌<◌, ◌≤◌, List, [], ◌∷◌, ◌++◌, length, slice_get, Contains, Option, None, Some, IsSomeAnd, Less, arith}
use Rattle.std.specs.Cmp.{nat_cmp_is}
use Rattle.std.specs.List.{AllByRecursion}
use Rattle.std.specs.List.Sorted.{IsStrictlySortedBy}
use Rattle.std.specs.Ordering.{nat_cmp}
use Rattle.std.proofs.lemmas.List.Elements.{All-contains, All-from_recursion, Contains-append_left, Contains-push, Contains-push_cases}
use Rattle.std.proofs.lemmas.Map.Keys.{sorted_head}
use Rattle.record_tables.specs.Rows.{ArePositions, FindsFirst, Row}
use Rattle.blob_device.proofs.general.Numbers.{lt_from_less}

-- ---- an element at a place of a list with one more

module _ {X : Type 0} (P : X → Type 0) where
  -- it is one of those before
  pub at_old : (xs : List X) (x : X) (p : ℕ) → IsSomeAnd (slice_get xs p) P → IsSomeAnd (slice_get (xs ++ x ∷ []) p) P
  at_old [] x p is = absurd is
  at_old (y ∷ ys) x zero is = is
  at_old (y ∷ ys) x (suc p) is = at_old ys x p is

  -- or the last
  pub at_last : (xs : List X) (x : X) → P x → IsSomeAnd (slice_get (xs ++ x ∷ []) (length xs)) P
  at_last [] x is = is
  at_last (y ∷ ys) x is = at_last ys x is

  pub at_cases : (xs : List X) (x : X) (p : ℕ) → IsSomeAnd (slice_get (xs ++ x ∷ []) p) P
      → IsSomeAnd (slice_get xs p) P ⊎ ((p ≡ length xs) × P x)
  at_cases [] x zero is = inr (refl, is)
  at_cases [] x (suc p) is = absurd is
  at_cases (y ∷ ys) x zero is = inl is
  at_cases (y ∷ ys) x (suc p) is = elim (at_cases ys x p is) [
    | inl old ↦ inl old
    | inr last ↦ inr (ap suc last.0, last.1)
  ]

  -- it stands within the list
  pub at_within : (xs : List X) (p : ℕ) → IsSomeAnd (slice_get xs p) P → p < length xs
  at_within [] p is = absurd is
  at_within (y ∷ ys) zero is = omega arith
  at_within (y ∷ ys) (suc p) is = omega (arith, at_within ys p is)

-- ---- ascending numbers

-- the order of a list with a greater number behind it
sorted_push : (ns : List ℕ) (n : ℕ) → IsStrictlySortedBy nat_cmp ns → ((k : ℕ) → Contains ns k → k < n) → IsStrictlySortedBy nat_cmp (ns ++ n ∷ [])
unfolding IsStrictlySortedBy
sorted_push [] n sorted below = (tt, tt)
sorted_push (m ∷ ns) n sorted below = (all ns sorted.0, sorted_push ns n sorted.1 (λ k has. below k (suc has.0, omega (arith, has.1), has.2)))
  where
    last : nat_cmp m n ≡ Less
    last = sym (nat_cmp_is m n Less (below m (zero, omega arith, refl)))

    all : (ks : List ℕ) → AllByRecursion (λ k. nat_cmp m k ≡ Less) ks → AllByRecursion (λ k. nat_cmp m k ≡ Less) (ks ++ n ∷ [])
    all [] each = (last, tt)
    all (k ∷ ks) each = (each.0, all ks each.1)

-- the first of ascending numbers is the least
from_first : (n : ℕ) (ns : List ℕ) → IsStrictlySortedBy nat_cmp (n ∷ ns) → (k : ℕ) → Contains (n ∷ ns) k → n ≤ k
from_first n ns sorted k (zero, lt, is) = omega (arith, is)
from_first n ns sorted k (suc j, lt, is) = omega (arith, lt_from_less n k (All-contains (λ m. nat_cmp n m ≡ Less) ns k (All-from_recursion (λ m. nat_cmp n m ≡ Less) ns (sorted_head nat_cmp n ns sorted)) (j, omega (arith, lt), is)))

-- within a list there is an element
none_within : {X : Type 0} (xs : List X) (q : ℕ) → q < length xs → slice_get xs q ≡ None → ⊥
none_within [] q lt none = omega (arith, lt)
none_within (x ∷ xs) zero lt none = cc
none_within (x ∷ xs) (suc q) lt none = none_within xs q (omega (arith, lt)) none

none_sorted : IsStrictlySortedBy nat_cmp []
unfolding IsStrictlySortedBy
none_sorted = tt

-- ---- positions

module _ {K : Type 0} where
  -- no row has an index
  pub no_positions : (i : ℕ) → ArePositions {K = K} [] i []
  no_positions i = record {
    ascending = none_sorted;
    exact = λ p. (λ has. absurd (omega (arith, has.1)), λ is. absurd is);
  }

  module _ (rows : List (Row K)) (r : Row K) (i : ℕ) (ps : List ℕ) (are : ArePositions rows i ps) where
    -- a row with the index stands behind those that there were
    pub one_position_more : r.index ≡ i → ArePositions (rows ++ r ∷ []) i (ps ++ length rows ∷ [])
    one_position_more is = record {
      ascending = sorted_push ps (length rows) are.ascending (λ k has. at_within (λ q. q.index ≡ i) rows k ((are.exact k).0 has));
      exact = λ p. (
        λ has. elim (Contains-push_cases ps (length rows) p has) as (λ _. IsSomeAnd (slice_get (rows ++ r ∷ []) p) (λ q. q.index ≡ i)) [
          | inl old ↦ at_old (λ q. q.index ≡ i) rows r p ((are.exact p).0 old)
          | inr last ↦ subst (λ n. IsSomeAnd (slice_get (rows ++ r ∷ []) n) (λ q. q.index ≡ i)) last (at_last (λ q. q.index ≡ i) rows r is)
        ],
        λ at. elim (at_cases (λ q. q.index ≡ i) rows r p at) as (λ _. Contains (ps ++ length rows ∷ []) p) [
          | inl old ↦ Contains-append_left ps (length rows ∷ []) p ((are.exact p).1 old)
          | inr last ↦ subst (Contains (ps ++ length rows ∷ [])) (sym last.0) (Contains-push ps (length rows))
        ],
      );
    }

    -- and one with another index is none of them
    pub no_position_more : r.index ≢ i → ArePositions (rows ++ r ∷ []) i ps
    no_position_more other = record {
      ascending = are.ascending;
      exact = λ p. (
        λ has. at_old (λ q. q.index ≡ i) rows r p ((are.exact p).0 has),
        λ at. elim (at_cases (λ q. q.index ≡ i) rows r p at) as (λ _. Contains ps p) [
          | inl old ↦ (are.exact p).1 old
          | inr last ↦ absurd (other last.1)
        ],
      );
    }

  -- ---- the first

  -- the first of the positions is that of the first row
  pub finds_first : (rows : List (Row K)) (i : ℕ) (ps : List ℕ) → ArePositions rows i ps → FindsFirst rows i (slice_get ps 0)
  finds_first rows i [] are = λ q is. omega (arith, ((are.exact q).1 is).1)
  finds_first rows i (p ∷ ps) are = (
    (are.exact p).0 (zero, omega arith, refl),
    λ q lt. other q lt (slice_get rows q) refl,
  )
    where
      -- each row before the first has another index, since its position would be less than the least one
      other : (q : ℕ) → q < p → (o : Option (Row K)) → slice_get rows q ≡ o → IsSomeAnd o (λ r. r.index ≢ i)
      other q lt None none = absurd (none_within rows q (omega (arith, lt, at_within (λ r. r.index ≡ i) rows p ((are.exact p).0 (zero, omega arith, refl)))) none)
      other q lt (Some r) is = λ same. omega (arith, lt, from_first p ps are.ascending q ((are.exact q).1 (subst (λ (o : Option (Row K)). IsSomeAnd o (λ x. x.index ≡ i)) (sym is) same)))

  -- where there are positions, some row has the index
  pub some_position : (rows : List (Row K)) (i : ℕ) (ps : List ℕ) → ArePositions rows i ps → ps ≢ [] → (p : ℕ) × IsSomeAnd (slice_get rows p) (λ r. r.index ≡ i)
  some_position rows i [] are some = absurd (some refl)
  some_position rows i (p ∷ ps) are some = (p, (are.exact p).0 (zero, omega arith, refl))

  -- where there are none, no row has it
  pub none_at : (rows : List (Row K)) (i : ℕ) (ps : List ℕ) → ArePositions rows i ps → ps ≡ [] → (q : ℕ) → IsSomeAnd (slice_get rows q) (λ r. r.index ≡ i) → ⊥
  none_at rows i ps are none q is =
      let has = subst (λ (ns : List ℕ). Contains ns q) none ((are.exact q).1 is) in
      omega (arith, has.1)
