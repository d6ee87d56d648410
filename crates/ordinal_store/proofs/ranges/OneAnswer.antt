-- What a set is asked has one answer: two ascending lists with the same elements are equal, and so are two
-- ends.
use Rattle.std.proofs.Common.{◌≡◌, ◌⊎◌, ℕ, ◌+◌, ◌<◌, ◌≤◌, List, [], ◌∷◌, Option, Some, None, length, map, Contains, refl, ap, sym, ◌∙◌, inl, inr, ⊎_elim, arith}
use Rattle.std.proofs.lemmas.List.Elements.{All-contains, All-cons, All-nil, All-from_recursion, Contains-append_cases, Contains-append_left, Contains-append_right, Contains-push}
use Rattle.std.proofs.lemmas.Map.Keys.{sorted_head, sorted_tail, sorted_from_strictly_increasing}
use Rattle.std.specs.List.Sorted.{IsStrictlySortedBy}
use Rattle.std.specs.Ordering.{nat_cmp}
use Rattle.std.specs.declared.cmp.Ordering.TheVariants.{Less}
use Rattle.ordinal_store.specs.Numbers.{Set, AreMissing, AreRuns, AreRunsFrom, IsGreatest, IsLeast, IsMissing, IsNextRun, IsRun, IsRunEnd, IsSameSet}
use Rattle.ordinal_store.specs.SetLaws.{HaveOneAnswer}
use Rattle.ordinal_store.proofs.ranges.Members.{IsRun-touching}
use Rattle.ordinal_store.proofs.ranges.Spread.{above_first}
use Rattle.blob_device.proofs.general.Numbers.{lt_from_less}

-- ---- elements of a list
one_of_none : {X : Type 0} (x : X) → ¬ Contains [] x
one_of_none x c = let at = c.1 in absurd (omega arith)

first_of : {X : Type 0} (x : X) (xs : List X) → Contains (x ∷ xs) x
first_of x xs = Contains-append_left (x ∷ []) xs x (Contains-push [] x)

later_of : {X : Type 0} (x : X) (xs : List X) (z : X) → Contains xs z → Contains (x ∷ xs) z
later_of x xs z c = Contains-append_right (x ∷ []) xs z c

cases_of : {X : Type 0} (x : X) (xs : List X) (z : X) → Contains (x ∷ xs) z → (x ≡ z) ⊎ Contains xs z
cases_of {X} x xs z c =
    let Is : X → Type 0 = λ y. x ≡ y in
    ⊎_elim
    (λ one. inl (All-contains Is (x ∷ []) z (All-cons Is x [] refl (All-nil Is)) one))
    (λ rest. inr rest)
    (Contains-append_cases (x ∷ []) xs z c)

-- ---- lists that ascend by a number of each element
abbrev Ascends : {X : Type 0} → (X → ℕ) → List X → Type 0
Ascends f [] = Unit {0}
Ascends f (x ∷ xs) = ((z : _) → Contains xs z → f x < f z) × Ascends f xs

ascends_by : {X : Type 0} (f : X → ℕ) (xs : List X) → IsStrictlySortedBy nat_cmp (map f xs) → Ascends f xs
ascends_by f [] s = tt
ascends_by {X} f (x ∷ xs) s =
    let Above : X → Type 0 = λ z. f x < f z in
    (λ z c. All-contains Above xs z (above_first f x xs s) c, ascends_by f xs (sorted_tail nat_cmp (f x) (map f xs) s))

ascends_itself : (xs : List ℕ) → IsStrictlySortedBy nat_cmp xs → Ascends (λ n. n) xs
ascends_itself [] s = tt
ascends_itself (x ∷ xs) s =
    let Above : ℕ → Type 0 = λ z. nat_cmp x z ≡ Less in (
      λ z c. lt_from_less x z (All-contains Above xs z (All-from_recursion Above xs (sorted_head nat_cmp x xs s)) c),
      ascends_itself xs (sorted_tail nat_cmp x xs s),
    )

-- with the same elements they are equal
same_elements : {X : Type 0} (f : X → ℕ) (xs ys : List X) → Ascends f xs → Ascends f ys → ((z : X) → Contains xs z → Contains ys z) → ((z : X) → Contains ys z → Contains xs z) → xs ≡ ys
same_elements f [] [] s t to fro = refl
same_elements f [] (y ∷ ys) s t to fro = absurd (one_of_none y (fro y (first_of y ys)))
same_elements f (x ∷ xs) [] s t to fro = absurd (one_of_none x (to x (first_of x xs)))
same_elements {X} f (x ∷ xs) (y ∷ ys) s t to fro =
    let e : x ≡ y =
    ⊎_elim
    (λ (same : y ≡ x). sym same)
    (λ (later : Contains ys x).
    (⊎_elim
    (λ (same : x ≡ y). same)
    (λ (behind : Contains xs y). absurd (let a : f y < f x = t.0 x later in let b : f x < f y = s.0 y behind in omega arith))
    (cases_of x xs y (fro y (first_of y ys)))))
    (cases_of y ys x (to x (first_of x xs))) in
    let rest : xs ≡ ys =
    same_elements f xs ys s.1 t.1
    (λ z c.
    (⊎_elim
    (λ (same : y ≡ z). absurd (let a : f x < f z = s.0 z c in let b : f x ≡ f z = ap f (e ∙ same) in omega (arith, a, b)))
    (λ (r : Contains ys z). r)
    (cases_of y ys z (to z (later_of x xs z c)))))
    (λ z c.
    (⊎_elim
    (λ (same : x ≡ z). absurd (let a : f y < f z = t.0 z c in let b : f y ≡ f z = ap f (sym e ∙ same) in omega (arith, a, b)))
    (λ (r : Contains xs z). r)
    (cases_of x xs z (fro z (later_of y ys z c))))) in
    ap (λ (z : X). z ∷ xs) e ∙ ap (λ (zs : List X). y ∷ zs) rest

-- a list that has all elements of another one, and one above them, is longer
longer : (xs ys : List ℕ) → Ascends (λ n. n) xs → Ascends (λ n. n) ys → ((z : ℕ) → Contains ys z → Contains xs z) → (x : ℕ) → Contains xs x → ((z : ℕ) → Contains ys z → z < x) → length ys < length xs
longer [] ys s t sub x has above = absurd (one_of_none x has)
longer (a ∷ xs) [] s t sub x has above = omega arith
longer (a ∷ xs) (y ∷ ys) s t sub x has above =
    let under : y < x = above y (first_of y ys) in
    ⊎_elim
    (λ (same : a ≡ y).
    (let less : length ys < length xs =
    longer xs ys s.1 t.1
    (λ z c.
    (⊎_elim
    (λ (is : a ≡ z). absurd (let up : y < z = t.0 z c in omega (arith, up, same, is)))
    (λ (r : Contains xs z). r)
    (cases_of a xs z (sub z (later_of y ys z c)))))
    x
    (⊎_elim (λ (is : a ≡ x). absurd (omega (arith, under, same, is))) (λ (r : Contains xs x). r) (cases_of a xs x has))
    (λ z c. above z (later_of y ys z c)) in
    omega (arith, less)))
    (λ (later : Contains xs y).
    (let low : a < y = s.0 y later in
    let less : length (y ∷ ys) < length xs =
    longer xs (y ∷ ys) s.1 t
    (λ z c.
    (⊎_elim
    (λ (is : a ≡ z).
    absurd (⊎_elim
    (λ (first : y ≡ z). (let w : ℕ = z in omega (arith, low, is, first)))
    (λ (behind : Contains ys z). (let up : y < z = t.0 z behind in omega (arith, low, is, up)))
    (cases_of y ys z c)))
    (λ (r : Contains xs z). r)
    (cases_of a xs z (sub z c))))
    x
    (⊎_elim (λ (is : a ≡ x). absurd (omega (arith, low, under, is))) (λ (r : Contains xs x). r) (cases_of a xs x has))
    above in
    omega (arith, less)))
    (cases_of a xs y (sub y (first_of y ys)))

-- ---- answers of sets with the same members
module _ (s t : Set) (same : IsSameSet s t) where
  run_of : (a b : ℕ) → IsRun s a b → IsRun t a b
  run_of a b r = record {
    ordered = r.ordered;
    inside = λ i from to. (same i).0 (r.inside i from to);
    begins = λ i is member. r.begins i is ((same i).1 member);
    ends = λ member. r.ends ((same (b + 1)).1 member);
  }

  missing_of : (from x : ℕ) → IsMissing s from x → IsMissing t from x
  missing_of from x m = record {
    from = m.from;
    absent = λ member. m.absent ((same x).1 member);
    below = (m.below.0, m.below.1, (same m.below.0).0 m.below.2);
  }

back : (s t : Set) → IsSameSet s t → IsSameSet t s
back s t same i = ((same i).1, (same i).0)

module _ (s t : Set) (same : IsSameSet s t) where
  one_runs : (xs ys : List (ℕ × ℕ)) → AreRuns s xs → AreRuns t ys → xs ≡ ys
  one_runs xs ys h g =
      same_elements (λ (r : ℕ × ℕ). r.0) xs ys
      (ascends_by (λ (r : ℕ × ℕ). r.0) xs (sorted_from_strictly_increasing _ h.ascending))
      (ascends_by (λ (r : ℕ × ℕ). r.0) ys (sorted_from_strictly_increasing _ g.ascending))
      (λ r c. (g.each r.0 r.1).1 (run_of s t same r.0 r.1 ((h.each r.0 r.1).0 c)))
      (λ r c. (h.each r.0 r.1).1 (run_of t s (back s t same) r.0 r.1 ((g.each r.0 r.1).0 c)))

  one_runs_from : (v : ℕ) (xs ys : List (ℕ × ℕ)) → AreRunsFrom s v xs → AreRunsFrom t v ys → xs ≡ ys
  one_runs_from v xs ys h g =
      same_elements (λ (r : ℕ × ℕ). r.0) xs ys
      (ascends_by (λ (r : ℕ × ℕ). r.0) xs (sorted_from_strictly_increasing _ h.ascending))
      (ascends_by (λ (r : ℕ × ℕ). r.0) ys (sorted_from_strictly_increasing _ g.ascending))
      (λ r c. (let is = (h.each r.0 r.1).0 c in (g.each r.0 r.1).1 (run_of s t same r.0 r.1 is.0, is.1)))
      (λ r c. (let is = (g.each r.0 r.1).0 c in (h.each r.0 r.1).1 (run_of t s (back s t same) r.0 r.1 is.0, is.1)))

  one_end : (v : ℕ) (x y : Option ℕ) → IsRunEnd s v x → IsRunEnd t v y → x ≡ y
  one_end v None None h g = refl
  one_end v None (Some b) h g = absurd (h ((same v).1 (g.3.inside v g.1 g.2)))
  one_end v (Some a) None h g = absurd (g ((same v).0 (h.3.inside v h.1 h.2)))
  one_end v (Some a) (Some b) h g =
      let at = h.1 in
      let to = h.2 in
      let at2 = g.1 in
      let to2 = g.2 in
      ap Some (IsRun-touching t h.0 a g.0 b (run_of s t same h.0 a h.3) g.3 (omega arith) (omega arith)).1

  one_next : (v : ℕ) (x y : Option ℕ) → IsNextRun s v x → IsNextRun t v y → x ≡ y
  one_next v None None h g = refl
  one_next v None (Some b) h g = absurd (h b g.1.0 g.0 (run_of t s (back s t same) b g.1.0 g.1.1))
  one_next v (Some a) None h g = absurd (g a h.1.0 h.0 (run_of s t same a h.1.0 h.1.1))
  one_next v (Some a) (Some b) h g =
      let low : a ≤ b = h.2 b g.1.0 g.0 (run_of t s (back s t same) b g.1.0 g.1.1) in
      let high : b ≤ a = g.2 a h.1.0 h.0 (run_of s t same a h.1.0 h.1.1) in
      let is : a ≡ b = omega arith in
      ap Some is

  one_least : (x y : Option ℕ) → IsLeast s x → IsLeast t y → x ≡ y
  one_least None None h g = refl
  one_least None (Some b) h g = absurd (h b ((same b).1 g.0))
  one_least (Some a) None h g = absurd (g a ((same a).0 h.0))
  one_least (Some a) (Some b) h g =
      let low : a ≤ b = h.1 b ((same b).1 g.0) in
      let high : b ≤ a = g.1 a ((same a).0 h.0) in
      let is : a ≡ b = omega arith in
      ap Some is

  one_greatest : (x y : Option ℕ) → IsGreatest s x → IsGreatest t y → x ≡ y
  one_greatest None None h g = refl
  one_greatest None (Some b) h g = absurd (h b ((same b).1 g.0))
  one_greatest (Some a) None h g = absurd (g a ((same a).0 h.0))
  one_greatest (Some a) (Some b) h g =
      let high : b ≤ a = h.1 b ((same b).1 g.0) in
      let low : a ≤ b = g.1 a ((same a).0 h.0) in
      let is : a ≡ b = omega arith in
      ap Some is

-- an absent number of one list is in the other: else that one would be full below it, and the first one
-- longer
missing_there : (s t : Set) → IsSameSet s t → (from most : ℕ) (xs ys : List ℕ) → AreMissing s from most xs → AreMissing t from most ys → (x : ℕ) → Contains xs x → Contains ys x
missing_there s t same from most xs ys h g x c =
    ⊎_elim
    (λ (there : Contains ys x). there)
    (λ (full : (length ys ≡ most) × ((y : ℕ) → Contains ys y → y < x)).
    absurd (let sub : (y : ℕ) → Contains ys y → Contains xs y = λ y has.
    ⊎_elim
    (λ (there : Contains xs y). there)
    (λ (over : (length xs ≡ most) × ((z : ℕ) → Contains xs z → z < y)).
    absurd (let up : x < y = over.1 x c in let down : y < x = full.1 y has in omega arith))
    (h.first y (missing_of t s (back s t same) from y (g.each y has))) in
    let less : length ys < length xs =
    longer xs ys
    (ascends_itself xs (sorted_from_strictly_increasing xs h.ascending))
    (ascends_itself ys (sorted_from_strictly_increasing ys g.ascending))
    sub x c full.1 in
    let few = h.at_most in
    let all = full.0 in
    omega (arith, less, few, all)))
    (g.first x (missing_of s t same from x (h.each x c)))

one_missing : (s t : Set) → IsSameSet s t → (from most : ℕ) (xs ys : List ℕ) → AreMissing s from most xs → AreMissing t from most ys → xs ≡ ys
one_missing s t same from most xs ys h g =
    same_elements (λ (n : ℕ). n) xs ys
    (ascends_itself xs (sorted_from_strictly_increasing xs h.ascending))
    (ascends_itself ys (sorted_from_strictly_increasing ys g.ascending))
    (missing_there s t same from most xs ys h g)
    (missing_there t s (back s t same) from most ys xs g h)

pub have_one_answer : (s t : Set) → IsSameSet s t → HaveOneAnswer s t
have_one_answer s t same = record {
  runs = one_runs s t same;
  runs_from = one_runs_from s t same;
  end = one_end s t same;
  next = one_next s t same;
  missing = one_missing s t same;
  least = one_least s t same;
  greatest = one_greatest s t same;
}
