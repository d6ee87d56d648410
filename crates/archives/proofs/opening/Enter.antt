-- What a row that is entered leaves of the order of the rows.
use Rattle.std.specs.Prelude.{◌≡◌, ◌≢◌, ℕ, ◌+◌, ◌<◌, ◌≤◌, cond, eqb, true, false, List, [], ◌∷◌, ◌++◌, length}
use Rattle.std.proofs.Common.{inl, inr, refl, sym, ◌∙◌, ap, subst, Less, arith, length-append}
use Rattle.std.specs.Cmp.{ranked}
use Rattle.std.specs.List.{AllByRecursion}
use Rattle.std.specs.List.Sorted.{IsStrictlySortedBy}
use Rattle.std.specs.Ordering.{nat_cmp}
use Rattle.std.proofs.lemmas.Bool.{cases_eq, eq-eqb, eqb-true, false≢true}
use Rattle.archives.specs.Machine.{section_of}
use Rattle.archives.specs.Rows.{AreWithin, HasRoom, Row}
use Rattle.blob_device.proofs.general.Lists.{all_by, all_push, all_with}

-- the list without the first s
abbrev without : ℕ → List ℕ → List ℕ
without s [] = []
without s (x ∷ xs) = cond (eqb x s) xs (x ∷ without s xs)

without_all : (P : ℕ → Type 0) (s : ℕ) (xs : List ℕ) → AllByRecursion P xs → AllByRecursion P (without s xs)
without_all P s [] all = tt
without_all P s (x ∷ xs) all = elim (eqb x s) as (λ b. AllByRecursion P (cond b xs (x ∷ without s xs))) [
  | true ↦ all.1
  | false ↦ (all.0, without_all P s xs all.1)
]

without_sorted : (s : ℕ) (xs : List ℕ) → IsStrictlySortedBy nat_cmp xs → IsStrictlySortedBy nat_cmp (without s xs)
unfolding IsStrictlySortedBy
without_sorted s [] up = tt
without_sorted s (x ∷ xs) up = elim (eqb x s) as (λ b. IsStrictlySortedBy nat_cmp (cond b xs (x ∷ without s xs))) [
  | true ↦ up.1
  | false ↦ (without_all (λ y. nat_cmp x y ≡ Less) s xs up.0, without_sorted s xs up.1)
]

without_long : (s : ℕ) (xs : List ℕ) → length xs ≤ length (without s xs) + 1
without_long s [] = omega arith
without_long s (x ∷ xs) = elim (eqb x s) as (λ b. length (x ∷ xs) ≤ length (cond b xs (x ∷ without s xs)) + 1) [
  | true ↦ omega arith
  | false ↦ omega (arith, without_long s xs)
]

above : (s : ℕ) (xs : List ℕ) → AllByRecursion (λ y. nat_cmp s y ≡ Less) xs → AllByRecursion (λ y. y ≢ s) xs
above s [] all = tt
above s (x ∷ xs) all = (λ is. (let lt : s < x = ranked s x Less (sym all.0) in omega arith), above s xs all.1)

without_other : (s : ℕ) (xs : List ℕ) → IsStrictlySortedBy nat_cmp xs → AllByRecursion (λ y. y ≢ s) (without s xs)
unfolding IsStrictlySortedBy
without_other s [] up = tt
without_other s (x ∷ xs) up = elim (eqb x s) as (λ b. eqb x s ≡ b → AllByRecursion (λ y. y ≢ s) (cond b xs (x ∷ without s xs))) [
  | true ↦ λ is. above s xs (subst (λ (z : ℕ). AllByRecursion (λ y. nat_cmp z y ≡ Less) xs) (eqb-true x s is) up.0)
  | false ↦ λ is. (λ same. false≢true (sym is ∙ eq-eqb x s same), without_other s xs up.1)
] refl

module _ (items sections per_section s : ℕ) (r : Row) (old new : ℕ → List Row) (added : new s ≡ old s ++ r ∷ []) (others : (t : ℕ) → t ≢ s → new t ≡ old t)
    (some : 1 ≤ per_section) where
  lies : ((t : ℕ) → AllByRecursion (λ x. section_of items x.index ≡ t) (old t)) → section_of items r.index ≡ s → (t : ℕ) → AllByRecursion (λ x. section_of items x.index ≡ t) (new t)
  lies all here t = elim (cases_eq t s) [
    | inl is ↦ subst (λ (u : ℕ). AllByRecursion (λ x. section_of items x.index ≡ u) (new u)) (sym is)
        (subst (AllByRecursion (λ x. section_of items x.index ≡ s)) (sym added) (all_push (λ x. section_of items x.index ≡ s) (old s) r (all s) here))
    | inr other ↦ subst (AllByRecursion (λ x. section_of items x.index ≡ t)) (sym (others t other)) (all t)
  ]

  long : HasRoom sections per_section old s → ((t : ℕ) → length (old t) ≤ per_section) → (t : ℕ) → length (new t) ≤ per_section
  long room all t = elim (cases_eq t s) [
    | inl is ↦ subst (λ (u : ℕ). length (new u) ≤ per_section) (sym is) (fits room)
    | inr other ↦ subst (λ (rs : List Row). length rs ≤ per_section) (sym (others t other)) (all t)
  ]
    where
      one_more : length (new s) ≡ length (old s) + 1
      one_more = ap length added ∙ length-append (old s) (r ∷ [])

      fits : HasRoom sections per_section old s → length (new s) ≤ per_section
      fits (inl has) = omega (arith, one_more, has.1)
      fits (inr has) = omega (arith, one_more, ap length has.0, some)

  -- another section had rows if it has them
  had : (t : ℕ) → new t ≢ [] → t ≢ s → old t ≢ []
  had t has other none = has (others t other ∙ none)

  stays : old s ≢ [] → (t : ℕ) → new t ≢ [] → old t ≢ []
  stays filled t has = elim (cases_eq t s) [
    | inl is ↦ subst (λ (u : ℕ). old u ≢ []) (sym is) filled
    | inr other ↦ had t has other
  ]

  few : HasRoom sections per_section old s → ((ss : List ℕ) → IsStrictlySortedBy nat_cmp ss → AllByRecursion (λ t. old t ≢ []) ss → length ss ≤ sections)
      → (ss : List ℕ) → IsStrictlySortedBy nat_cmp ss → AllByRecursion (λ t. new t ≢ []) ss → length ss ≤ sections
  few (inl has) before ss up all = before ss up (all_by (λ t. new t ≢ []) (λ t. old t ≢ []) (stays has.0) ss all)
  few (inr has) before ss up all =
      let rest = all_with (λ t. new t ≢ []) (λ t. t ≢ s) (λ t. old t ≢ []) had (without s ss) (without_all (λ t. new t ≢ []) s ss all) (without_other s ss up) in
      omega (arith, without_long s ss, has.1 (without s ss) (without_sorted s ss up) rest)

  -- Where there was room for it, the rows are as the limits ask.
  pub within_entered : section_of items r.index ≡ s → HasRoom sections per_section old s → AreWithin items sections per_section old → AreWithin items sections per_section new
  within_entered here room within = record {
    in_section = lies within.in_section here;
    few_sections = few room within.few_sections;
    few_records = long room within.few_records;
  }
