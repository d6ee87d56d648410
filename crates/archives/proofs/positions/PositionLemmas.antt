-- Where the elements of a list stand that have a number: the ascending positions that are just theirs are as many as these elements, and what is read at them is read
-- of these elements in order.
use Rattle.std.proofs.Common.{◌≡◌, ◌≢◌, ◌↔◌, ◌⊎◌, inl, inr, refl, sym, ◌∙◌, ap, subst, ℕ, zero, suc, ◌+◌, ◌<◌, ◌≤◌, ◌==◌, Bool, true, false, List, [], ◌∷◌, ◌++◌, cond, map, filter, length, get_or, slice_get, Contains, Option, IsSomeAnd, Less, arith}
use Rattle.std.specs.Prelude.{⊤}
use Rattle.std.specs.Cmp.{nat_cmp_is}
use Rattle.std.specs.List.{AllByRecursion}
use Rattle.std.specs.List.Sorted.{IsStrictlySortedBy}
use Rattle.std.specs.Ordering.{nat_cmp}
use Rattle.std.proofs.lemmas.Bool.{eq-eqb, eqb-true, false≢true}
use Rattle.std.proofs.lemmas.Map.Keys.{sorted_head, sorted_tail}
use Rattle.std.proofs.lemmas.Option.{slice_get-get_or}
use Rattle.record_tables.specs.Rows.{ArePositions}
use Rattle.archives.specs.Rows.{Row, count_with}
use Rattle.archives.proofs.read.Finding.{contains_at}
use Rattle.blob_device.proofs.general.Numbers.{lt_from_less}

-- ---- elements of a list

module _ {X : Type 0} where
  contains_first : (x : X) (xs : List X) → Contains (x ∷ xs) x
  contains_first x xs = (0, omega arith, refl)

  contains_later : (x y : X) (xs : List X) → Contains xs y → Contains (x ∷ xs) y
  contains_later x y xs has = (suc has.0, omega (arith, has.1), has.2)

  contains_cases : (x y : X) (xs : List X) → Contains (x ∷ xs) y → (x ≡ y) ⊎ Contains xs y
  contains_cases x y xs (zero, lt, is) = inl is
  contains_cases x y xs (suc k, lt, is) = inr (k, omega (arith, lt), is)

  -- what holds of each element holds by recursion, and the other way round
  pub all_of : (P : X → Type 0) (xs : List X) → ((x : X) → Contains xs x → P x) → AllByRecursion P xs
  all_of P [] each = tt
  all_of P (x ∷ xs) each = (each x (contains_first x xs), all_of P xs (λ y has. each y (contains_later x y xs has)))

  pub one_of : (P : X → Type 0) (xs : List X) (x : X) → AllByRecursion P xs → Contains xs x → P x
  one_of P [] x all has = absurd (omega (arith, has.1))
  one_of P (y ∷ ys) x all has = elim (contains_cases y x ys has) as (λ _. P x) [ inl here ↦ subst P here all.0 | inr later ↦ one_of P ys x all.1 later ]

-- ---- ascending numbers

sorted_one_more : (n : ℕ) (ns : List ℕ) → AllByRecursion (λ k. nat_cmp n k ≡ Less) ns → IsStrictlySortedBy nat_cmp ns → IsStrictlySortedBy nat_cmp (n ∷ ns)
unfolding IsStrictlySortedBy
sorted_one_more n ns below sorted = (below, sorted)

none_sorted : IsStrictlySortedBy nat_cmp []
unfolding IsStrictlySortedBy
none_sorted = tt

-- the first is the least
above_first : (n : ℕ) (ns : List ℕ) → IsStrictlySortedBy nat_cmp (n ∷ ns) → (k : ℕ) → Contains ns k → n < k
above_first n ns sorted k has = lt_from_less n k (one_of (λ j. nat_cmp n j ≡ Less) ns k (sorted_head nat_cmp n ns sorted) has)

from_first : (n : ℕ) (ns : List ℕ) → IsStrictlySortedBy nat_cmp (n ∷ ns) → (k : ℕ) → Contains (n ∷ ns) k → n ≤ k
from_first n ns sorted k has = elim (contains_cases n k ns has) as (λ _. n ≤ k) [ inl here ↦ omega (arith, here) | inr later ↦ omega (arith, above_first n ns sorted k later) ]

-- behind the first ones, which are the same, the same numbers stand
behind_first : (n m : ℕ) (ns ms : List ℕ) → n ≡ m → IsStrictlySortedBy nat_cmp (n ∷ ns) → (k : ℕ) → (Contains (n ∷ ns) k → Contains (m ∷ ms) k) → Contains ns k → Contains ms k
behind_first n m ns ms first sorted k to has = elim (contains_cases m k ms (to (contains_later n k ns has))) as (λ _. Contains ms k) [
  | inl here ↦ absurd (omega (arith, above_first n ns sorted k has, here, first))
  | inr later ↦ later
]

-- two ascending lists of the same numbers are one
same_sorted : (ns ms : List ℕ) → IsStrictlySortedBy nat_cmp ns → IsStrictlySortedBy nat_cmp ms → ((k : ℕ) → Contains ns k ↔ Contains ms k) → ns ≡ ms
same_sorted [] [] up too same = refl
same_sorted [] (m ∷ ms) up too same = absurd (omega (arith, ((same m).1 (contains_first m ms)).1))
same_sorted (n ∷ ns) [] up too same = absurd (omega (arith, ((same n).0 (contains_first n ns)).1))
same_sorted (n ∷ ns) (m ∷ ms) up too same =
    let first : n ≡ m = omega (arith, from_first m ms too n ((same n).0 (contains_first n ns)), from_first n ns up m ((same m).1 (contains_first m ms))) in
    let rest : ns ≡ ms = same_sorted ns ms (sorted_tail nat_cmp n ns up) (sorted_tail nat_cmp m ms too)
    (λ k. (behind_first n m ns ms first up k (same k).0, behind_first m n ms ns (sym first) too k (same k).1)) in
    (λ i. first i ∷ rest i)

-- ---- a relation between the elements of two lists, one by one

abbrev pub AreEach : {X Y : Type 0} → (X → Y → Type 0) → List X → List Y → Type 0
AreEach P [] [] = ⊤
AreEach P (x ∷ xs) (y ∷ ys) = P x y × AreEach P xs ys
AreEach P [] (y ∷ ys) = ⊥
AreEach P (x ∷ xs) [] = ⊥

pub each_push : {X Y : Type 0} (P : X → Y → Type 0) (xs : List X) (ys : List Y) (x : X) (y : Y) → AreEach P xs ys → P x y → AreEach P (xs ++ x ∷ []) (ys ++ y ∷ [])
each_push P [] [] x y each is = (is, tt)
each_push P (a ∷ xs) (b ∷ ys) x y each is = (each.0, each_push P xs ys x y each.1 is)
each_push P [] (b ∷ ys) x y each is = absurd each
each_push P (a ∷ xs) [] x y each is = absurd each

pub each_weaker : {X Y : Type 0} (P Q : X → Y → Type 0) → ((x : X) (y : Y) → P x y → Q x y) → (xs : List X) (ys : List Y) → AreEach P xs ys → AreEach Q xs ys
each_weaker P Q to [] [] each = tt
each_weaker P Q to (x ∷ xs) (y ∷ ys) each = (to x y each.0, each_weaker P Q to xs ys each.1)
each_weaker P Q to [] (y ∷ ys) each = absurd each
each_weaker P Q to (x ∷ xs) [] each = absurd each

-- ---- where the elements with a number stand

module _ {X : Type 0} (number : X → ℕ) (i : ℕ) where
  -- their positions, the first element's being n
  abbrev pub standing : ℕ → List X → List ℕ
  standing n [] = []
  standing n (x ∷ xs) = cond (number x == i) (n ∷ standing (suc n) xs) (standing (suc n) xs)

  -- they are as many as the elements
  length-standing : (n : ℕ) (xs : List X) → length (standing n xs) ≡ length (filter (λ x. number x == i) xs)
  length-standing n [] = refl
  length-standing n (x ∷ xs) = go (number x == i) (standing (suc n) xs) (filter (λ y. number y == i) xs) (length-standing (suc n) xs)
    where
      go : (b : Bool) (ns : List ℕ) (ys : List X) → length ns ≡ length ys → length (cond b (n ∷ ns) ns) ≡ length (cond b (x ∷ ys) ys)
      go true ns ys same = ap suc same
      go false ns ys same = same

  -- an element with the number stands at each, and at no other place
  from_standing : (n : ℕ) (xs : List X) (p : ℕ) → Contains (standing n xs) p → (q : ℕ) × (p ≡ n + q) × IsSomeAnd (slice_get xs q) (λ x. number x ≡ i)
  from_standing n [] p has = absurd (omega (arith, has.1))
  from_standing n (x ∷ xs) p has = go (number x == i) refl has (from_standing (suc n) xs p)
    where
      go : (b : Bool) → (number x == i) ≡ b → Contains (cond b (n ∷ standing (suc n) xs) (standing (suc n) xs)) p
          → (Contains (standing (suc n) xs) p → (q : ℕ) × (p ≡ suc n + q) × IsSomeAnd (slice_get xs q) (λ y. number y ≡ i))
          → (q : ℕ) × (p ≡ n + q) × IsSomeAnd (slice_get (x ∷ xs) q) (λ y. number y ≡ i)
      go true is has rest = elim (contains_cases n p (standing (suc n) xs) has) as (λ _. (q : ℕ) × (p ≡ n + q) × IsSomeAnd (slice_get (x ∷ xs) q) (λ y. number y ≡ i)) [
        | inl here ↦ (0, omega (arith, here), eqb-true (number x) i is)
        | inr later ↦ (let found = rest later in (suc found.0, omega (arith, found.1), found.2))
      ]
      go false is has rest = let found = rest has in (suc found.0, omega (arith, found.1), found.2)

  to_standing : (n : ℕ) (xs : List X) (q p : ℕ) → p ≡ n + q → IsSomeAnd (slice_get xs q) (λ x. number x ≡ i) → Contains (standing n xs) p
  to_standing n [] q p at is = absurd is
  to_standing n (x ∷ xs) zero p at is =
      subst (λ b. Contains (cond b (n ∷ standing (suc n) xs) (standing (suc n) xs)) p) (sym (eq-eqb (number x) i is)) (0, omega arith, omega (arith, at))
  to_standing n (x ∷ xs) (suc q) p at is = go (number x == i) (to_standing (suc n) xs q p (omega (arith, at)) is)
    where
      go : (b : Bool) → Contains (standing (suc n) xs) p → Contains (cond b (n ∷ standing (suc n) xs) (standing (suc n) xs)) p
      go true later = contains_later n p (standing (suc n) xs) later
      go false later = later

  standing_ascends : (n : ℕ) (xs : List X) → IsStrictlySortedBy nat_cmp (standing n xs)
  standing_ascends n [] = none_sorted
  standing_ascends n (x ∷ xs) = go (number x == i) (standing_ascends (suc n) xs)
    where
      above : AllByRecursion (λ k. nat_cmp n k ≡ Less) (standing (suc n) xs)
      above = all_of (λ k. nat_cmp n k ≡ Less) (standing (suc n) xs) (λ k has. sym (nat_cmp_is n k Less (omega (arith, (from_standing (suc n) xs k has).1))))

      go : (b : Bool) → IsStrictlySortedBy nat_cmp (standing (suc n) xs) → IsStrictlySortedBy nat_cmp (cond b (n ∷ standing (suc n) xs) (standing (suc n) xs))
      go true rest = sorted_one_more n (standing (suc n) xs) above rest
      go false rest = rest

  -- positions that ascend, and are just theirs, are these
  pub are_standing : (xs : List X) (ps : List ℕ) → IsStrictlySortedBy nat_cmp ps → ((p : ℕ) → Contains ps p ↔ IsSomeAnd (slice_get xs p) (λ x. number x ≡ i)) → ps ≡ standing 0 xs
  are_standing xs ps ascending exact = same_sorted ps (standing 0 xs) ascending (standing_ascends 0 xs) (λ p. (
    λ has. to_standing 0 xs p p (omega arith) ((exact p).0 has),
    λ has. (let found = from_standing 0 xs p has in let at : found.0 ≡ p = omega (arith, found.1) in (exact p).1 (subst (λ q. IsSomeAnd (slice_get xs q) (λ x. number x ≡ i)) at found.2)),
  ))

  -- what is read at each of them is read of the elements in order
  pub read_standing : {Y Z : Type 0} (f : X → Z) (g : Y → Z) (whole : List X) (n : ℕ) (xs : List X) (ys : List Y) → ((q : ℕ) → slice_get whole (n + q) ≡ slice_get xs q)
      → AreEach (λ p y. IsSomeAnd (slice_get whole p) (λ x. f x ≡ g y)) (standing n xs) ys → map g ys ≡ map f (filter (λ x. number x == i) xs)
  read_standing f g whole n [] [] at each = refl
  read_standing f g whole n [] (y ∷ ys) at each = absurd each
  read_standing {Y} {Z} f g whole n (x ∷ xs) ys at each = go (number x == i) ys each (λ zs. read_standing f g whole (suc n) xs zs next)
    where
      next : (q : ℕ) → slice_get whole (suc n + q) ≡ slice_get xs q
      next q = let same : suc n + q ≡ n + suc q = omega arith in ap (slice_get whole) same ∙ at (suc q)

      here : (y : Y) → IsSomeAnd (slice_get whole n) (λ z. f z ≡ g y) → g y ≡ f x
      here y is =
          let place : n ≡ n + 0 = omega arith in
          sym (subst (λ (o : Option X). IsSomeAnd o (λ z. f z ≡ g y)) (ap (slice_get whole) place ∙ at 0) is)

      go : (b : Bool) (zs : List Y) → AreEach (λ p y. IsSomeAnd (slice_get whole p) (λ z. f z ≡ g y)) (cond b (n ∷ standing (suc n) xs) (standing (suc n) xs)) zs
          → ((ws : List Y) → AreEach (λ p y. IsSomeAnd (slice_get whole p) (λ z. f z ≡ g y)) (standing (suc n) xs) ws → map g ws ≡ map f (filter (λ z. number z == i) xs))
          → map g zs ≡ map f (cond b (x ∷ filter (λ z. number z == i) xs) (filter (λ z. number z == i) xs))
      go true [] is rest = absurd is
      go true (z ∷ zs) is rest = (λ j. here z is.0 j ∷ rest zs is.1 j)
      go false zs is rest = rest zs is

  -- an element with the number is one of those that are kept, and the other way round
  pub kept_at : (Q : X → Type 0) (xs : List X) (q : ℕ) → IsSomeAnd (slice_get xs q) (λ x. (number x ≡ i) × Q x) → (x : X) × Contains (filter (λ y. number y == i) xs) x × Q x
  kept_at Q [] q is = absurd is
  kept_at Q (x ∷ xs) zero is =
      (x, subst (λ b. Contains (cond b (x ∷ filter (λ y. number y == i) xs) (filter (λ y. number y == i) xs)) x) (sym (eq-eqb (number x) i is.0)) (0, omega arith, refl), is.1)
  kept_at Q (x ∷ xs) (suc q) is = go (number x == i) (kept_at Q xs q is)
    where
      go : (b : Bool) → (z : X) × Contains (filter (λ y. number y == i) xs) z × Q z → (z : X) × Contains (cond b (x ∷ filter (λ y. number y == i) xs) (filter (λ y. number y == i) xs)) z × Q z
      go true found = (found.0, contains_later x found.0 (filter (λ y. number y == i) xs) found.1, found.2)
      go false found = found

  pub at_kept : (Q : X → Type 0) (xs : List X) (x : X) → Contains (filter (λ y. number y == i) xs) x → Q x → (q : ℕ) × IsSomeAnd (slice_get xs q) (λ y. (number y ≡ i) × Q y)
  at_kept Q [] x has holds = absurd (omega (arith, has.1))
  at_kept Q (y ∷ ys) x has holds = go (number y == i) refl has (λ later. at_kept Q ys x later holds)
    where
      go : (b : Bool) → (number y == i) ≡ b → Contains (cond b (y ∷ filter (λ z. number z == i) ys) (filter (λ z. number z == i) ys)) x
          → (Contains (filter (λ z. number z == i) ys) x → (q : ℕ) × IsSomeAnd (slice_get ys q) (λ z. (number z ≡ i) × Q z))
          → (q : ℕ) × IsSomeAnd (slice_get (y ∷ ys) q) (λ z. (number z ≡ i) × Q z)
      go true is has rest = elim (contains_cases y x (filter (λ z. number z == i) ys) has) as (λ _. (q : ℕ) × IsSomeAnd (slice_get (y ∷ ys) q) (λ z. (number z ≡ i) × Q z)) [
        | inl here ↦ (0, (eqb-true (number y) i is, subst Q (sym here) holds))
        | inr later ↦ (let found = rest later in (suc found.0, found.1))
      ]
      go false is has rest = let found = rest has in (suc found.0, found.1)

-- ---- rows

-- the positions of the rows with an index
pub standing_rows : (rows : List Row) (index : ℕ) → ArePositions rows index (standing (λ r. r.index) index 0 rows)
standing_rows rows index = record {
  ascending = standing_ascends (λ r. r.index) index 0 rows;
  exact = λ p. (
    λ has. (let found = from_standing (λ (r : Row). r.index) index 0 rows p has in let at : found.0 ≡ p = omega (arith, found.1) in subst (λ q. IsSomeAnd (slice_get rows q) (λ r. r.index ≡ index)) at found.2),
    λ is. to_standing (λ (r : Row). r.index) index 0 rows p p (omega arith) is,
  );
}

-- they are as many as the rows
pub count_positions : (rows : List Row) (index : ℕ) (ps : List ℕ) → ArePositions rows index ps → length ps ≡ count_with rows index
count_positions rows index ps are = ap length (are_standing (λ (r : Row). r.index) index rows ps are.ascending are.exact) ∙ length-standing (λ (r : Row). r.index) index 0 rows

-- whether there is one
pub no_position : (ps : List ℕ) (n : ℕ) → n ≡ length ps → (n == 0) ≡ true → ps ≡ []
no_position [] n len none = refl
no_position (p ∷ ps) n len none = absurd (omega (arith, eqb-true n 0 none, len))

pub some_position : (ps : List ℕ) (n : ℕ) → n ≡ length ps → (n == 0) ≡ false → ps ≢ []
some_position ps n len some none = absurd (false≢true (sym some ∙ eq-eqb n 0 (len ∙ ap length none)))

-- a row with the index stands at each of them
pub row_at : (rows : List Row) (index : ℕ) (ps : List ℕ) → ArePositions rows index ps → (items : List ℕ) → items ≡ ps → (k : ℕ) → k < length items → IsSomeAnd (slice_get rows (get_or items k 0)) (λ r. r.index ≡ index)
row_at rows index ps are items same k lt = (are.exact (get_or items k 0)).0 (subst (λ (x : List ℕ). Contains x (get_or items k 0)) same (contains_at items k (get_or items k 0) (slice_get-get_or items k 0 lt)))
