-- Which slots of a section are marked, and whether their indices are numbers.
use Rattle.std.specs.Prelude.{◌≡◌, ◌↔◌, ◌⊎◌, ℕ, ◌+◌, ◌-◌, ◌*◌, ◌^◌, ◌<◌, ◌≤◌, Bool, true, false, List, [], ◌∷◌, length, Option, Some, None, unwrap_or, nat_lt, IsTrue}
use Rattle.std.specs.List.Sorted.{IsStrictlySortedBy}
use Rattle.std.specs.Map.{keys_of}
use Rattle.std.specs.Option.{is_some}
use Rattle.std.specs.Ordering.{nat_cmp}
use Rattle.std.proofs.Common.{inl, inr, sym, ◌∙◌, ap, subst, arith}
use Rattle.std.proofs.lemmas.Bool.{cases_eq, cases_lt, lt-ltb, ltb-true}
use Rattle.std.proofs.lemmas.Option.{none-some, slice_get_past}
use Rattle.ordinal_store.specs.Marking.{IsPast, Marking, is_wanted}
use Rattle.ordinal_store.specs.Mending.{is_marked}
use Rattle.ordinal_store.specs.Reopening.{HasPast, HasWanted, IsFirstMarked}
use Rattle.ordinal_store.specs.Slots.{Layout}
use Rattle.ordinal_store.proofs.RestoreLemmas.{Entries, gone_of, head_of, left_at, sorted_of, tail_of}

-- a marked position is one of the list
pub marked_inside : (bits : List Bool) (p : ℕ) → is_marked bits p ≡ true → p < length bits
marked_inside bits p marked = elim (cases_lt p (length bits)) [
  | inl below ↦ below
  | inr past ↦ absurd (cc (marked, ap (λ (b : Option Bool). unwrap_or b false) (slice_get_past bits p (omega (arith, past)))))
]

pub kept_of : (items : ℕ) (bits : List Bool) (found : Option ℕ) (r : Bool) → r ≡ is_some found → IsFirstMarked bits 0 found → IsTrue r ↔ HasWanted items (Some bits)
kept_of items bits None r is none = (λ yes. absurd (cc (yes, is)), λ wanted. absurd (cc (none wanted.0 (omega arith), wanted.1)))
kept_of items bits (Some p) r is least = (λ yes. (p, least.marked), λ wanted. is)

pub past_of : (first : ℕ) (bits : List Bool) (from : ℕ) (found : Option ℕ) (r : Bool) → r ≡ is_some found → first + from ≡ 2 ^ 64 → IsFirstMarked bits from found
    → IsTrue r ↔ ((p : ℕ) × (is_marked bits p ≡ true) × (2 ^ 64 ≤ first + p))
past_of first bits from None r is at none = (λ yes. absurd (cc (yes, is)), λ past. absurd (cc (none past.0 (omega (arith, past.2, at)), past.1)))
past_of first bits from (Some p) r is at least = (λ yes. (p, least.marked, omega (arith, least.after, at)), λ past. is)

pub past_full : (items first : ℕ) → 1 ≤ items → first < 2 ^ 64 → IsTrue (nat_lt (2 ^ 64 - 1 - first) (items - 1)) ↔ ((p : ℕ) × (nat_lt p items ≡ true) × (2 ^ 64 ≤ first + p))
past_full items first some small = (
  λ yes. (let lt = ltb-true (2 ^ 64 - 1 - first) (items - 1) yes in (items - 1, lt-ltb (items - 1) items (omega (arith, some)), omega (arith, lt, small))),
  λ past. lt-ltb (2 ^ 64 - 1 - first) (items - 1) (omega (arith, ltb-true past.0 items past.1, past.2)),
)

-- A map is judged so far, with these entries left: what went by has no index past the greatest number.
module _ (l : Layout) (marking : Marking) where
  abbrev Fits : ℕ → Type 0
  Fits t = (p : ℕ) → is_wanted l.items (marking t) p ≡ true → t * l.items + p < 2 ^ 64

  pub record Judged (rest : Entries) : Type 0 where
    pub sorted : IsStrictlySortedBy nat_cmp (keys_of rest)
    pub each : (t : ℕ) → (left_at rest t ≡ marking t) ⊎ (Fits t × (left_at rest t ≡ None))

  pub judged_start : (rest : Entries) → IsStrictlySortedBy nat_cmp (keys_of rest) → ((t : ℕ) → left_at rest t ≡ marking t) → Judged rest
  judged_start rest sorted all = record { sorted = sorted; each = λ t. inl (all t) }

  module _ (rest : Entries) (s : ℕ) (marks : Option (List Bool)) (far : Judged ((s, marks) ∷ rest)) where
    pub judged_here : marking s ≡ Some marks
    judged_here = elim (far.each s) [
      | inl yet ↦ sym yet ∙ head_of rest s marks
      | inr done ↦ absurd (none-some marks (sym done.1 ∙ head_of rest s marks))
    ]

    pub judged_on : (HasPast l.items s marks → ⊥) → Judged rest
    judged_on not = record {
      sorted = sorted_of rest s marks far.sorted;
      each = λ t. elim (cases_eq t s) [
        | inl here ↦ inr (subst Fits (sym here) fits_here, ap (left_at rest) here ∙ gone_of rest s marks far.sorted)
        | inr other ↦ elim (far.each t) [
          | inl yet ↦ inl (sym (tail_of rest s marks t other) ∙ yet)
          | inr done ↦ inr (done.0, sym (tail_of rest s marks t other) ∙ done.1)
        ]
      ];
    }
      where
        fits_here : Fits s
        fits_here p wanted = elim (cases_lt (s * l.items + p) (2 ^ 64)) [
          | inl below ↦ below
          | inr past ↦ absurd (not (p, subst (λ (m : _). is_wanted l.items m p ≡ true) judged_here wanted, omega (arith, past)))
        ]

    pub judged_past : s < 2 ^ 64 → HasPast l.items s marks → IsPast l marking
    judged_past small past = (s, past.0, (small, subst (λ (m : _). is_wanted l.items m past.0 ≡ true) (sym judged_here) past.1), past.2)

  pub judged_all : Judged [] → IsPast l marking → ⊥
  judged_all far past = elim (far.each past.0) [
    | inl none ↦ absurd (cc (subst (λ (m : _). is_wanted l.items m past.1 ≡ true) (sym none) past.2.1))
    | inr done ↦ absurd (omega (arith, done.0 past.1 past.2.1, past.3))
  ]
