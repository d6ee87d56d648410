-- Where an opening's walk gave a record for which there was no room, more is kept than the limits allow.
use Rattle.std.specs.Prelude.{◌≡◌, ◌≢◌, ◌⊎◌, ℕ, zero, suc, ◌+◌, ◌^◌, ◌<◌, ◌≤◌, cond, Bool, true, false, List, [], ◌∷◌, length, map, take}
use Rattle.std.proofs.Common.{inl, inr, refl, sym, ◌∙◌, ap, subst, Less, arith}
use Rattle.std.specs.Cmp.{nat_cmp_is, ranked}
use Rattle.std.specs.List.{AllByRecursion}
use Rattle.std.specs.List.Sorted.{IsStrictlySortedBy}
use Rattle.std.specs.Ordering.{nat_cmp}
use Rattle.std.proofs.lemmas.Bool.{cases_eq, cases_lt, false≢true}
use Rattle.archives.specs.Opening.{IsPastLimits}
use Rattle.archives.specs.Rows.{FewerThan, HasRoom, Row}
use Rattle.blob_device.proofs.general.Lists.{all_by}

-- of the n numbers from k on those that pass the test
abbrev passing : (ℕ → Bool) → ℕ → ℕ → List ℕ
passing p k zero = []
passing p k (suc n) = cond (p k) (k ∷ passing p (k + 1) n) (passing p (k + 1) n)

-- a number that passes it, at or above k
record Passes (p : ℕ → Bool) (k n t : ℕ) : Type 0 where
  from : k ≤ t
  below : t < n
  passes : p t ≡ true

passing_all : (p : ℕ → Bool) (k n m : ℕ) → k + n ≤ m → AllByRecursion (Passes p k m) (passing p k n)
passing_all p k zero m le = tt
passing_all p k (suc n) m le =
    let rest : AllByRecursion (Passes p k m) (passing p (k + 1) n) =
    all_by (Passes p (k + 1) m) (Passes p k m) (λ t is. record { from = omega (arith, is.from); below = is.below; passes = is.passes }) (passing p (k + 1) n) (passing_all p (k + 1) n m (omega (arith, le))) in
    elim (p k) as (λ b. p k ≡ b → AllByRecursion (Passes p k m) (cond b (k ∷ passing p (k + 1) n) (passing p (k + 1) n))) [
      | true ↦ λ is. (record { from = omega arith; below = omega (arith, le); passes = is }, rest)
      | false ↦ λ is. rest
    ] refl

passing_sorted : (p : ℕ → Bool) (k n : ℕ) → IsStrictlySortedBy nat_cmp (passing p k n)
unfolding IsStrictlySortedBy
passing_sorted p k zero = tt
passing_sorted p k (suc n) = elim (p k) as (λ b. IsStrictlySortedBy nat_cmp (cond b (k ∷ passing p (k + 1) n) (passing p (k + 1) n))) [
  | true ↦ (all_by (Passes p (k + 1) (k + 1 + n)) (λ t. nat_cmp k t ≡ Less) (λ t is. sym (nat_cmp_is k t Less (omega (arith, is.from)))) (passing p (k + 1) n) (passing_all p (k + 1) n (k + 1 + n) (omega arith)), passing_sorted p (k + 1) n)
  | false ↦ passing_sorted p (k + 1) n
]

above : (k x : ℕ) (xs : List ℕ) → k ≤ x → AllByRecursion (λ y. nat_cmp x y ≡ Less) xs → AllByRecursion (λ y. k + 1 ≤ y) xs
above k x xs le all = all_by (λ y. nat_cmp x y ≡ Less) (λ y. k + 1 ≤ y) (λ y is. (let lt : x < y = ranked x y Less (sym is) in omega (arith, le, lt))) xs all

-- no ascending list of them is longer
longest : (p : ℕ → Bool) (n k m : ℕ) → k + n ≡ m → (ss : List ℕ) → IsStrictlySortedBy nat_cmp ss → AllByRecursion (λ t. k ≤ t) ss → AllByRecursion (λ t. (t < m) × (p t ≡ true)) ss → length ss ≤ length (passing p k n)
unfolding IsStrictlySortedBy
longest p n k m end [] up from all = omega arith
longest p zero k m end (x ∷ xs) up from all = absurd (omega (arith, end, from.0, all.0.0))
longest p (suc n) k m end (x ∷ xs) up from all =
    let some = longest p n (k + 1) m (omega (arith, end)) xs up.1 (above k x xs from.0 up.0) all.1 in
    let later : k + 1 ≤ x → length (x ∷ xs) ≤ length (passing p (k + 1) n) = λ le.
    longest p n (k + 1) m (omega (arith, end)) (x ∷ xs) up (le, above k x xs from.0 up.0) all in
    elim (p k) as (λ b. p k ≡ b → length (x ∷ xs) ≤ length (cond b (k ∷ passing p (k + 1) n) (passing p (k + 1) n))) [
      | true ↦ λ is. omega (arith, some)
      | false ↦ λ is. elim (cases_eq x k) [
        | inl same ↦ absurd (false≢true (sym is ∙ ap p (sym same) ∙ all.0.1))
        | inr other ↦ later (omega (arith, from.0, other))
      ]
    ] refl

module _ (p q : ℕ → Bool) (wider : (t : ℕ) → p t ≡ true → q t ≡ true) where
  no_fewer : (k n : ℕ) → length (passing p k n) ≤ length (passing q k n)
  no_fewer k zero = omega arith
  no_fewer k (suc n) =
      let rest = no_fewer (k + 1) n in
      elim (p k) as (λ b. p k ≡ b → length (cond b (k ∷ passing p (k + 1) n) (passing p (k + 1) n)) ≤ length (passing q k (suc n))) [
        | true ↦ λ is. subst (λ (b : Bool). length (k ∷ passing p (k + 1) n) ≤ length (cond b (k ∷ passing q (k + 1) n) (passing q (k + 1) n))) (sym (wider k is)) (omega (arith, rest))
        | false ↦ λ is. elim (q k) as (λ b. length (passing p (k + 1) n) ≤ length (cond b (k ∷ passing q (k + 1) n) (passing q (k + 1) n))) [
          | true ↦ omega (arith, rest)
          | false ↦ rest
        ]
      ] refl

  one_more : (s : ℕ) → p s ≡ false → q s ≡ true → (k n : ℕ) → k ≤ s → s < k + n → length (passing p k n) + 1 ≤ length (passing q k n)
  one_more s fails holds k zero from below = absurd (omega (arith, from, below))
  one_more s fails holds k (suc n) from below =
      let rest = no_fewer (k + 1) n in
      let later : k ≢ s → length (passing p (k + 1) n) + 1 ≤ length (passing q (k + 1) n) = λ other. one_more s fails holds (k + 1) n (omega (arith, from, other)) (omega (arith, below)) in
      elim (cases_eq k s) [
        | inl is ↦
            subst (λ (b : Bool). length (cond b (k ∷ passing p (k + 1) n) (passing p (k + 1) n)) + 1 ≤ length (passing q k (suc n))) (sym (ap p is ∙ fails))
            (subst (λ (b : Bool). length (passing p (k + 1) n) + 1 ≤ length (cond b (k ∷ passing q (k + 1) n) (passing q (k + 1) n))) (sym (ap q is ∙ holds)) (omega (arith, rest)))
        | inr other ↦ elim (p k) as (λ b. p k ≡ b → length (cond b (k ∷ passing p (k + 1) n) (passing p (k + 1) n)) + 1 ≤ length (passing q k (suc n))) [
          | true ↦ λ is. subst (λ (b : Bool). length (k ∷ passing p (k + 1) n) + 1 ≤ length (cond b (k ∷ passing q (k + 1) n) (passing q (k + 1) n))) (sym (wider k is)) (omega (arith, later other))
          | false ↦ λ is. elim (q k) as (λ b. length (passing p (k + 1) n) + 1 ≤ length (cond b (k ∷ passing q (k + 1) n) (passing q (k + 1) n))) [
            | true ↦ omega (arith, later other)
            | false ↦ later other
          ]
        ] refl
      ]

-- whether a list has an element
abbrev has_some : {X : Type 0} → List X → Bool
has_some [] = false
has_some (x ∷ xs) = true

some_true : {X : Type 0} (xs : List X) → xs ≢ [] → has_some xs ≡ true
some_true [] some = absurd (some refl)
some_true (x ∷ xs) some = refl

true_some : {X : Type 0} (xs : List X) → has_some xs ≡ true → xs ≢ []
true_some [] is none = false≢true is
true_some (x ∷ xs) is none = cc

-- Below m, with a test: so many pass it as no ascending list of sections with rows has.
module _ {X : Type 0} (rows : ℕ → List Row) (given : ℕ → List X) (m : ℕ) (wider : (t : ℕ) → rows t ≢ [] → given t ≢ []) (small : (t : ℕ) → given t ≢ [] → t < m) where
  with_rows : ℕ → Bool
  with_rows t = has_some (rows t)

  with_given : ℕ → Bool
  with_given t = has_some (given t)

  wide : (t : ℕ) → with_rows t ≡ true → with_given t ≡ true
  unfolding with_rows with_given
  wide t is = some_true (given t) (wider t (true_some (rows t) is))

  enough : (n : ℕ) → (FewerThan n rows → ⊥) → n ≤ length (passing with_rows 0 m)
  unfolding with_rows
  enough n full = elim (cases_lt (length (passing with_rows 0 m)) n) [
    | inl lt ↦ absurd (full (λ ss up all. omega (
      arith,
      lt,
      longest with_rows m 0 m (omega arith) ss up (all_by (λ t. rows t ≢ []) (λ t. 0 ≤ t) (λ t has. omega arith) ss all)
          (all_by (λ t. rows t ≢ []) (λ t. (t < m) × (with_rows t ≡ true)) (λ t has. (small t (wider t has), some_true (rows t) has)) ss all),
    )))
    | inr ge ↦ ge
  ]

  more_sections : (n s : ℕ) → (FewerThan n rows → ⊥) → rows s ≡ [] → given s ≢ []
      → (ss : List ℕ) × IsStrictlySortedBy nat_cmp ss × AllByRecursion (λ t. (t < m) × (given t ≢ [])) ss × (n < length ss)
  unfolding with_rows with_given
  more_sections n s full none some = (
    passing with_given 0 m,
    passing_sorted with_given 0 m,
    all_by (Passes with_given 0 m) (λ t. (t < m) × (given t ≢ [])) (λ t is. (is.below, true_some (given t) is.passes)) (passing with_given 0 m) (passing_all with_given 0 m m (omega arith)),
    omega (arith, enough n full, one_more with_rows with_given wide s (ap has_some none) (some_true (given s) some) 0 m (omega arith) (omega (arith, small s some))),
  )

list_cases : {X : Type 0} (xs : List X) → (xs ≡ []) ⊎ (xs ≢ [])
list_cases [] = inl refl
list_cases (x ∷ xs) = inr (λ is. cc)

pub is_over : {X : Type 0} (sections per_section s : ℕ) (rows : ℕ → List Row) (given : ℕ → List X) → ((t : ℕ) → rows t ≢ [] → given t ≢ []) → ((t : ℕ) → given t ≢ [] → t < 2 ^ 64)
    → length (rows s) < length (given s) → (HasRoom sections per_section rows s → ⊥) → IsPastLimits sections per_section given
is_over sections per_section s rows given wider small left none = elim (list_cases (rows s)) [
  | inl is ↦ inl (more_sections rows given (2 ^ 64) wider small sections s (λ few. none (inr (is, few))) is some)
  | inr has ↦ inr (
    s,
    small s some,
    elim (cases_lt (length (rows s)) per_section) [
      | inl lt ↦ absurd (none (inl (has, lt)))
      | inr ge ↦ omega (arith, ge, left)
    ],
  )
]
  where
    some : given s ≢ []
    some is = omega (arith, left, ap length is)

-- A section that has rows was given some record.
pub rows_given : (f : List ℕ → Row) (rows : List Row) (given : List (List ℕ)) → rows ≡ map f (take (length rows) given) → rows ≢ [] → given ≢ []
rows_given f [] given is some = absurd (some refl)
rows_given f (r ∷ rs) [] is some = absurd (cc is)
rows_given f (r ∷ rs) (g ∷ gs) is some = λ none. cc

pub some_long : {X : Type 0} (xs : List X) → xs ≢ [] → 0 < length xs
some_long [] some = absurd (some refl)
some_long (x ∷ xs) some = omega arith
