-- What one row more makes of the rows of an archive, and of its limits.
use Rattle.std.proofs.Common.{◌≡◌, ◌≢◌, ◌⊎◌, inl, inr, refl, sym, ◌∙◌, ap, subst, ℕ, suc, ◌<◌, ◌≤◌, List, [], ◌∷◌, ◌++◌, length, Bool, true, false, not, ◌==◌, cond, Less, Equal, IsTrue, ◌↔◌, arith, length-append}
use Rattle.std.specs.Cmp.{nat_cmp_is}
use Rattle.std.specs.List.{AllByRecursion, filter}
use Rattle.std.specs.List.Sorted.{IsStrictlySortedBy}
use Rattle.std.specs.Ordering.{nat_cmp}
use Rattle.std.proofs.lemmas.Bool.Decides.{nat_tests}
use Rattle.std.proofs.lemmas.List.Kept.{IsStrictlySortedBy-filter}
use Rattle.std.proofs.lemmas.Nat.{div-add-mod'}
use Rattle.archives.specs.Machine.{section_of}
use Rattle.blob_device.proofs.general.Lists.{all_by}
use Rattle.archives.specs.lemmas.put.Rows.{other_or_same}

-- ---- a list without one number

-- whether it is another number
abbrev is_other : ℕ → ℕ → Bool
is_other s t = not (t == s)

-- the numbers but this one
abbrev without : ℕ → List ℕ → List ℕ
without s ss = filter (is_other s) ss

is_same : (s t : ℕ) → t ≡ s → is_other s t ≡ false
is_same s t is = grind (arith, nat_tests, is)

is_another : (s t : ℕ) → t ≢ s → is_other s t ≡ true
is_another s t other = grind (arith, nat_tests, other)

module _ (s : ℕ) (P Q : ℕ → Type 0) (to : (t : ℕ) → t ≢ s → P t → Q t) where
  all_without : (ss : List ℕ) → AllByRecursion P ss → AllByRecursion Q (without s ss)
  all_without [] all = tt
  all_without (x ∷ xs) all =
      let rest = all_without xs all.1 in
      elim (other_or_same s x) [
        | inl same ↦ subst (λ (b : Bool). AllByRecursion Q (cond b (x ∷ without s xs) (without s xs))) (sym (is_same s x same)) rest
        | inr other ↦ subst (λ (b : Bool). AllByRecursion Q (cond b (x ∷ without s xs) (without s xs))) (sym (is_another s x other)) (to x other all.0, rest)
      ]

-- where it is not among them nothing goes
all_others : (s : ℕ) (ss : List ℕ) → AllByRecursion (λ t. t ≢ s) ss → length (without s ss) ≡ length ss
all_others s [] all = refl
all_others s (x ∷ xs) all =
    ap (λ (b : Bool). length (cond b (x ∷ without s xs) (without s xs))) (is_another s x all.0) ∙ ap (λ (n : ℕ). suc n) (all_others s xs all.1)

less_other : (x y : ℕ) → nat_cmp x y ≡ Less → y ≢ x
less_other x y less same =
    let own : nat_cmp x x ≡ Less = subst (λ (t : ℕ). nat_cmp x t ≡ Less) same less in
    let equal : Equal ≡ nat_cmp x x = nat_cmp_is x x Equal refl in
    cc

-- at most one goes where no two are the same
one_less : (s : ℕ) (ss : List ℕ) → IsStrictlySortedBy nat_cmp ss → length ss ≤ suc (length (without s ss))
unfolding IsStrictlySortedBy
one_less s [] up = omega arith
one_less s (x ∷ xs) up = elim (other_or_same s x) [
  | inl same ↦
      let above : AllByRecursion (λ t. t ≢ s) xs = all_by (λ y. nat_cmp x y ≡ Less) (λ t. t ≢ s) (λ y less is. less_other x y less (is ∙ sym same)) xs up.0 in
      let rest : length (without s (x ∷ xs)) ≡ length (without s xs) = ap (λ (b : Bool). length (cond b (x ∷ without s xs) (without s xs))) (is_same s x same) in
      omega (arith, all_others s xs above, rest)
  | inr other ↦
      let rest : length (without s (x ∷ xs)) ≡ suc (length (without s xs)) = ap (λ (b : Bool). length (cond b (x ∷ without s xs) (without s xs))) (is_another s x other) in
      omega (arith, one_less s xs up.1, rest)
]

-- ---- limits

-- Of lists, one of which has one element more now, the limits are kept where there was room.
module _ {X : Type 0} (most per : ℕ) (old new : ℕ → List X) (s : ℕ) (x : X) (here : new s ≡ old s ++ x ∷ []) (others : (t : ℕ) → t ≢ s → new t ≡ old t)
    (some : 1 ≤ per) where
  abbrev pub Room : Type 0
  Room = ((old s ≢ []) × (length (old s) < per)) ⊎ ((old s ≡ []) × ((ss : List ℕ) → IsStrictlySortedBy nat_cmp ss → AllByRecursion (λ t. old t ≢ []) ss → length ss < most))

  one_longer : length (new s) ≡ suc (length (old s))
  one_longer = omega (arith, ap length here, length-append (old s) (x ∷ []))

  pub few_now : Room → ((t : ℕ) → length (old t) ≤ per) → (t : ℕ) → length (new t) ≤ per
  few_now room few t = elim (other_or_same s t) [
    | inl same ↦ elim room [
      | inl held ↦ subst (λ (u : ℕ). length (new u) ≤ per) (sym same) (omega (arith, one_longer, held.1))
      | inr first ↦ subst (λ (u : ℕ). length (new u) ≤ per) (sym same) (omega (arith, one_longer, ap length first.0, some))
    ]
    | inr other ↦ omega (arith, ap length (others t other), few t)
  ]

  -- among sections of which P is known
  pub few_sections_now : (P : ℕ → Type 0) → Room → ((ss : List ℕ) → IsStrictlySortedBy nat_cmp ss → AllByRecursion (λ t. P t × (old t ≢ [])) ss → length ss ≤ most)
      → (ss : List ℕ) → IsStrictlySortedBy nat_cmp ss → AllByRecursion (λ t. P t × (new t ≢ [])) ss → length ss ≤ most
  few_sections_now P room few ss up all = elim room [
    | inl held ↦ few ss up (all_by (λ t. P t × (new t ≢ [])) (λ t. P t × (old t ≢ []))
        (λ t has. (
          has.0,
          λ none. elim (other_or_same s t) [
            | inl same ↦ held.0 (subst (λ (u : ℕ). old u ≡ []) same none)
            | inr other ↦ has.1 (others t other ∙ none)
          ],
        )) ss all)
    | inr first ↦
        let rest = first.1 (without s ss) (IsStrictlySortedBy-filter nat_cmp (is_other s) ss up) (all_without s (λ t. P t × (new t ≢ [])) (λ t. old t ≢ []) (λ t other has none. has.1 (others t other ∙ none)) ss all) in
        omega (arith, rest, one_less s ss up)
  ]

-- ---- sets

-- a set that has one number more
module _ (old new : ℕ → Bool) (s : ℕ) (here : new s ≡ true) (others : (t : ℕ) → t ≢ s → new t ≡ old t) where
  pub grows : (t : ℕ) → IsTrue (new t) ↔ (IsTrue (old t) ⊎ (t ≡ s))
  grows t = (
    λ has. elim (other_or_same s t) [
      | inl same ↦ inr same
      | inr other ↦ inl (sym (others t other) ∙ has)
    ],
    λ had. elim (other_or_same s t) [
      | inl same ↦ ap new same ∙ here
      | inr other ↦ elim had [
        | inl was ↦ others t other ∙ was
        | inr same ↦ absurd (other same)
      ]
    ],
  )

  pub still_none : (t : ℕ) → new t ≡ false → (t ≢ s) × (old t ≡ false)
  still_none t none = elim (other_or_same s t) [
    | inl same ↦ (let has : new t ≡ true = ap new same ∙ here in absurd (cc none))
    | inr other ↦ (other, sym (others t other) ∙ none)
  ]

-- a section begins at or below its indices
pub section_low : (items index s : ℕ) → s ≡ section_of items index → s ≤ index
section_low items index s is = omega (arith, is, div-add-mod' index items)
