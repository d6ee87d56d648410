-- How many sections there are.
use Rattle.std.specs.Prelude.{◌≡◌, ◌↔◌, ℕ, ◌<◌, ◌≤◌, List, length, IsSome}
use Rattle.std.proofs.Common.{inl, inr, zero, suc, [], ◌∷◌, arith}
use Rattle.std.specs.BTreeMap as tree
use Rattle.std.specs.BTreeMap.{BTreeMap}
use Rattle.std.specs.List.{Contains}
use Rattle.std.specs.List.Sorted.{IsStrictlySortedBy}
use Rattle.std.specs.Cmp.{nat_cmp_total}
use Rattle.std.specs.Ordering.{nat_cmp}
use Rattle.std.proofs.lemmas.Map.Keys.{sorted_tail, below_from_sorted}
use Rattle.std.proofs.lemmas.Map.Lookups.{exact_unsigned}
use Rattle.std.proofs.lemmas.Map.Views.{btree_map_contains_key_iff}
use Rattle.blob_device.proofs.general.Lists.{first_or_later, later_in}

first_below : (x : ℕ) (xs : List ℕ) (s : ℕ) → IsStrictlySortedBy nat_cmp (x ∷ xs) → Contains xs s → x < s
first_below x xs s sorted has = omega (arith, below_from_sorted (x ∷ xs) 0 (suc has.0) s sorted (omega arith) (omega (arith, has.1)), has.2)

-- the members of a list that ascends are as many as it is long
fewer : (xs ys : List ℕ) → IsStrictlySortedBy nat_cmp xs → IsStrictlySortedBy nat_cmp ys → ((s : ℕ) → Contains xs s → Contains ys s) → length xs ≤ length ys
fewer [] ys one two has = omega arith
fewer (x ∷ xs) [] one two has = absurd (let at = has x (zero, omega arith, λ i. x) in omega (arith, at.1))
fewer (x ∷ xs) (y ∷ ys) one two has = omega (arith, fewer xs ys (sorted_tail nat_cmp x xs one) (sorted_tail nat_cmp y ys two) rest)
  where
    rest : (s : ℕ) → Contains xs s → Contains ys s
    rest s is = elim (first_or_later y ys s (has s (later_in x xs s is))) [
      | inl first ↦ absurd (elim (first_or_later y ys x (has x (zero, omega arith, λ i. x))) [
        | inl same ↦ omega (arith, first_below x xs s one is, first, same)
        | inr later ↦ omega (arith, first_below x xs s one is, first, first_below y ys x two later)
      ])
      | inr later ↦ later
    ]

-- a list that ascends, of the keys of a map
pub counted : {X : Type 0} (m : BTreeMap ℕ X) (numbers : List ℕ) → IsStrictlySortedBy nat_cmp (tree.keys m) → IsStrictlySortedBy nat_cmp numbers
    → ((s : ℕ) → Contains numbers s ↔ IsSome (tree.get nat_cmp m s)) → length (tree.keys m) ≡ length numbers
counted m numbers ordered ascending each =
    let there = fewer (tree.keys m) numbers ordered ascending (λ s is. (each s).1 ((btree_map_contains_key_iff nat_cmp_total exact_unsigned m s).1 is)) in
    let back = fewer numbers (tree.keys m) ascending ordered (λ s is. (btree_map_contains_key_iff nat_cmp_total exact_unsigned m s).0 ((each s).0 is)) in
    omega (arith, there, back)
