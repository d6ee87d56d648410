-- Entries of a map after an insertion, and the keys that a loop over it has given.
use Rattle.blob_device.proofs.general.Lists.{before_turn}
use Rattle.blob_device.proofs.general.Numbers.{same_number}
use Rattle.std.proofs.Common.{Bor, IsSome, List, Option, Some, [], ap, map, refl, subst, sym, ℕ, ◌++◌, ◌<◌, ◌∙◌, ◌∷◌, ◌≡◌}
use Rattle.std.proofs.lemmas.List.{map-append}
use Rattle.std.proofs.lemmas.Map.Iter.{rest_more, rest_so_far}
use Rattle.std.proofs.lemmas.Map.Views.{Contains-keys_from_lookup}
use Rattle.std.specs.BTreeMap.{insert_entry}
use Rattle.std.specs.Iterator.{Yields}
use Rattle.std.specs.List.{AllByRecursion, Contains}
use Rattle.std.specs.List.Sorted.{IsStrictlySortedBy}
use Rattle.std.specs.Map.{keys_of}
use Rattle.std.specs.Map.Iter.{TakesFirst, deref_pair}
use Rattle.std.specs.Ordering.{match_ordering, nat_cmp}
use Rattle.std.specs.declared.cmp.Ordering.{Ordering}
use Rattle.std.specs.declared.cmp.Ordering.TheVariants.{Equal, Greater, Less}
use Rattle.std.specs.BTreeMap as tree

pub matched : {X : Type 0} (Q : X → Type 0) (r : Ordering) (a b c : X) → Q a → Q b → Q c → Q (match_ordering r a b c)
matched Q Less a b c qa qb qc = qa
matched Q Equal a b c qa qb qc = qb
matched Q Greater a b c qa qb qc = qc

module _ {K V : Type 0} (R : K → K → Ordering) where
  -- what holds of the values before holds of them with one more
  pub all_inserted : (P : V → Type 0) (es : List (K × V)) (k : K) (v : V) → AllByRecursion (λ e. P e.1) es → P v → AllByRecursion (λ e. P e.1) (insert_entry R es k v)
  all_inserted P [] k v all new = (new, tt)
  all_inserted P (e ∷ es) k v all new =
      matched (AllByRecursion (λ e. P e.1)) (R k e.0) ((k, v) ∷ e ∷ es) ((e.0, v) ∷ es) (e ∷ insert_entry R es k v) (new, all) (new, all.1) (all.0, all_inserted P es k v all.1 new)

-- the numbers in the pairs that a loop over a map has given
abbrev pub numbers_of : List (Bor ℕ × Bor ℕ) → List ℕ
numbers_of l = map (λ p. p.0.now) l

pub numbers_push : (l : List (Bor ℕ × Bor ℕ)) (p : Bor ℕ × Bor ℕ) → numbers_of (l ++ p ∷ []) ≡ numbers_of l ++ p.0.now ∷ []
numbers_push l p = map-append (λ (q : Bor ℕ × Bor ℕ). q.0.now) l (p ∷ [])

pub numbers_shown : (l : List (Bor ℕ × Bor ℕ)) → numbers_of l ≡ keys_of (map deref_pair l)
numbers_shown [] = refl
numbers_shown (p ∷ l) = ap (λ (k : List ℕ). p.0.now ∷ k) (numbers_shown l)

module _ (xs : List (Bor ℕ × Bor ℕ)) (s t u : List (ℕ × ℕ)) (r : Option (Bor ℕ × Bor ℕ)) (x : Bor ℕ × Bor ℕ) (yields : Yields (TakesFirst deref_pair) s xs t) (is : r ≡ Some x) (step : TakesFirst deref_pair t r u)
    (m : tree.BTreeMap ℕ ℕ) (start : s ≡ m.entries) (ordered : tree.IsOrdered nat_cmp m) where
  pub keys_by_turn : keys_of m.entries ≡ numbers_of xs ++ x.0.now ∷ keys_of u
  keys_by_turn = ap keys_of (sym start ∙ rest_so_far deref_pair xs s t yields ∙ ap (λ (l : List (ℕ × ℕ)). map deref_pair xs ++ l) (rest_more deref_pair t u r x is step))
      ∙ map-append (λ (e : ℕ × ℕ). e.0) (map deref_pair xs) (deref_pair x ∷ u) ∙ ap (λ (l : List ℕ). l ++ x.0.now ∷ keys_of u) (sym (numbers_shown xs))

  pub had_turn : (q : ℕ) → IsSome (tree.get nat_cmp m q) → q < x.0.now → Contains (numbers_of xs) q
  had_turn q some less = before_turn (numbers_of xs) (keys_of u) x.0.now q (subst (IsStrictlySortedBy nat_cmp) keys_by_turn ordered) less
      (subst (λ (l : List ℕ). Contains l q) keys_by_turn (Contains-keys_from_lookup same_number q m.entries some))
