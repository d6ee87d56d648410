-- Lists of keys in strictly ascending order.
use Rattle.std.proofs.Common.{◌≡◌, ◌-◌, suc, List, [], ◌∷◌, ◌++◌, length, Some, None, IsTrue, refl, sym, ◌∙◌, ap, arith}
use Rattle.std.specs.declared.cmp.Ordering.{Ordering}
use Rattle.std.specs.declared.cmp.Ordering.TheVariants.{Less, Equal, Greater}
use Rattle.std.specs.Ordering.{is_lt}
use Rattle.std.specs.Cmp.{IsTotalOrder}
use Rattle.std.specs.List.{AllByRecursion, slice_get}
use Rattle.std.specs.List.Sorted.{IsStrictlySortedBy}
use Rattle.std.specs.Map.{keys_of}
use Rattle.blob_device.proofs.general.Lists.{all_push}

pub less_true : (r : Ordering) → IsTrue (is_lt r) → r ≡ Less
less_true Less is = refl
less_true Equal is = absurd (cc is)
less_true Greater is = absurd (cc is)

pub true_less : (r : Ordering) → r ≡ Less → IsTrue (is_lt r)
true_less r is = ap is_lt is

pub all_first : {X : Type 0} (P : X → Type 0) (xs ys : List X) → AllByRecursion P (xs ++ ys) → AllByRecursion P xs
all_first P [] ys all = tt
all_first P (x ∷ xs) ys all = (all.0, all_first P xs ys all.1)

pub all_last : {X : Type 0} (P : X → Type 0) (xs ys : List X) → AllByRecursion P (xs ++ ys) → AllByRecursion P ys
all_last P [] ys all = all
all_last P (x ∷ xs) ys all = all_last P xs ys all.1

pub keys_append : {K V : Type 0} (xs ys : List (K × V)) → keys_of (xs ++ ys) ≡ keys_of xs ++ keys_of ys
keys_append [] ys = refl
keys_append (x ∷ xs) ys = ap (λ l. x.0 ∷ l) (keys_append xs ys)

module _ {K : Type 0} (R : K → K → Ordering) where
  -- one key more, above all
  pub sorted_push : (ks : List K) (y : K) → IsStrictlySortedBy R ks → AllByRecursion (λ k. R k y ≡ Less) ks → IsStrictlySortedBy R (ks ++ y ∷ [])
  unfolding IsStrictlySortedBy
  sorted_push [] y sorted below = (tt, tt)
  sorted_push (k ∷ ks) y sorted below = (all_push (λ j. R k j ≡ Less) ks y sorted.0 below.0, sorted_push ks y sorted.1 below.1)

  -- the first keys
  pub sorted_prefix : (ks ls : List K) → IsStrictlySortedBy R (ks ++ ls) → IsStrictlySortedBy R ks
  unfolding IsStrictlySortedBy
  sorted_prefix [] ls sorted = tt
  sorted_prefix (k ∷ ks) ls sorted = (all_first (λ j. R k j ≡ Less) ks ls sorted.0, sorted_prefix ks ls sorted.1)

  -- all of them are below a key behind them
  pub sorted_below : (ks ls : List K) (y : K) → IsStrictlySortedBy R (ks ++ y ∷ ls) → AllByRecursion (λ k. R k y ≡ Less) ks
  unfolding IsStrictlySortedBy
  sorted_below [] ls y sorted = tt
  sorted_below (k ∷ ks) ls y sorted = ((all_last (λ j. R k j ≡ Less) ks (y ∷ ls) sorted.0).0, sorted_below ks ls y sorted.1)

  last_place : {X : Type 0} (x z : X) (zs : List X) → slice_get (x ∷ z ∷ zs) (length (x ∷ z ∷ zs) - 1) ≡ slice_get (z ∷ zs) (length (z ∷ zs) - 1)
  last_place x z zs =
      let e : length (x ∷ z ∷ zs) - 1 ≡ suc (length (z ∷ zs) - 1) = omega arith in
      ap (slice_get (x ∷ z ∷ zs)) e

  -- all keys are below what the last is below
  pub last_below : {V : Type 0} (o : IsTotalOrder R) (xs : List (K × V)) (e : K × V) (y : K) → IsStrictlySortedBy R (keys_of xs) → slice_get xs (length xs - 1) ≡ Some e → R e.0 y ≡ Less
      → AllByRecursion (λ k. R k y ≡ Less) (keys_of xs)
  unfolding IsStrictlySortedBy
  last_below o [] e y sorted last less = tt
  last_below {V = V} o (x ∷ []) e y sorted last less = let same : x ≡ e = cc last in (ap (λ (p : K × V). R p.0 y) same ∙ less, tt)
  last_below o (x ∷ z ∷ zs) e y sorted last less =
      let rest = last_below o (z ∷ zs) e y sorted.1 (sym (last_place x z zs) ∙ last) less in
      (o.trans x.0 z.0 y sorted.0.0 rest.0, rest)

  -- and the last is below what all are below
  pub below_last : {V : Type 0} (xs : List (K × V)) (e : K × V) (y : K) → AllByRecursion (λ k. R k y ≡ Less) (keys_of xs) → slice_get xs (length xs - 1) ≡ Some e → R e.0 y ≡ Less
  below_last [] e y below last = absurd (cc last)
  below_last {V = V} (x ∷ []) e y below last = let same : x ≡ e = cc last in sym (ap (λ (p : K × V). R p.0 y) same) ∙ below.0
  below_last (x ∷ z ∷ zs) e y below last = below_last (z ∷ zs) e y below.1 (sym (last_place x z zs) ∙ last)

  -- no entries, so nothing is below
  pub none_last : {V : Type 0} (xs : List (K × V)) → slice_get xs (length xs - 1) ≡ None → xs ≡ []
  none_last [] last = refl
  none_last (x ∷ []) last = absurd (cc last)
  none_last {V = V} (x ∷ z ∷ zs) last =
      let none : (z ∷ zs) ≡ [] = none_last (z ∷ zs) (sym (last_place x z zs) ∙ last) in absurd (cc none)

  pub no_keys : {V : Type 0} (xs : List (K × V)) (y : K) → xs ≡ [] → IsStrictlySortedBy R (keys_of xs ++ y ∷ [])
  unfolding IsStrictlySortedBy
  no_keys [] y none = (tt, tt)
  no_keys (x ∷ xs) y none = absurd (cc none)
