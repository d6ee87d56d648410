-- The set of the indices beside the rows: two tests that are true together are one, and what an insertion and a drop make of both.
use Rattle.std.proofs.Common.{◌≡◌, ◌≢◌, ◌↔◌, ◌⊎◌, inl, inr, refl, sym, ◌∙◌, ap, subst, ℕ, zero, suc, ◌==◌, ◌||◌, Bool, true, false, IsTrue, List, [], ◌∷◌, ◌++◌, Contains, Option, None, Some, arith}
use Rattle.std.specs.List.{AllByRecursion, list_any}
use Rattle.std.specs.Option.{is_some}
use Rattle.std.proofs.lemmas.Bool.{eq-eqb, eqb-true}
use Rattle.std.proofs.lemmas.List.Folds.{list_any-append}
use Rattle.ordinal_store.specs.Numbers.{Set, AddsNumber, IsRunAround, IsSameSet}
use Rattle.record_tables.specs.Rows.{AreIndicesOf}
use Rattle.archives.specs.Machine.{section_of}
use Rattle.archives.specs.Rows.{Row, has_row}
use Rattle.archives.specs.lemmas.put.Rows.{other_or_same}

-- two tests that are true together are the same
pub same_test : (b c : Bool) → IsTrue b ↔ IsTrue c → b ≡ c
same_test true true same = refl
same_test false false same = refl
same_test true false same = sym (same.0 refl)
same_test false true same = same.1 refl

-- so two sets with the same members are one
pub one_set : (s t : Set) → IsSameSet s t → s ≡ t
one_set s t same = λ i n. same_test (s n) (t n) (same n) i

not_true : (b : Bool) → (IsTrue b → ⊥) → b ≡ false
not_true true none = absurd (none refl)
not_true false none = refl

-- the run that holds a number tells whether it is in the set
pub in_run : (set : Set) (v : ℕ) (o : Option (ℕ × ℕ)) → IsRunAround set v o → (b : Bool) → b ≡ is_some o → b ≡ set v
in_run set v None none b is = is ∙ sym (not_true (set v) none)
in_run set v (Some run) found b is = is ∙ sym (found.2.inside v found.0 found.1)

-- ---- a row more

pub or_left : (a b : Bool) → IsTrue a → IsTrue (a || b)
or_left true b is = refl
or_left false b is = absurd (cc is)

pub or_right : (a b : Bool) → IsTrue b → IsTrue (a || b)
or_right true b is = refl
or_right false b is = is

pub or_either : (a b : Bool) → IsTrue (a || b) → IsTrue a ⊎ IsTrue b
or_either true b is = inl refl
or_either false b is = inr is

module _ (items : ℕ) (rows new : ℕ → List Row) (sec index : ℕ) (key : List ℕ) (here : sec ≡ section_of items index)
    (grown : new sec ≡ rows sec ++ record { index = index; key = key } ∷ []) (others : (s : ℕ) → s ≢ sec → new s ≡ rows s) where
  abbrev at : ℕ → Row → Bool
  at i r = r.index == i

  -- in the section, where the index is that of the new row or of one that was there
  grown_has : (i : ℕ) → section_of items i ≡ sec → has_row items new i ≡ (list_any (at i) (rows sec) || ((index == i) || false))
  grown_has i same = ap (λ (s : ℕ). list_any (at i) (new s)) same ∙ ap (list_any (at i)) grown ∙ list_any-append (at i) (rows sec) (record { index = index; key = key } ∷ [])

  old_has : (i : ℕ) → section_of items i ≡ sec → has_row items rows i ≡ list_any (at i) (rows sec)
  old_has i same = ap (λ (s : ℕ). list_any (at i) (rows s)) same

  other_has : (i : ℕ) → section_of items i ≢ sec → has_row items new i ≡ has_row items rows i
  other_has i other = ap (list_any (at i)) (others (section_of items i) other)

  -- the set with the index is that of the rows with the new one
  pub row_added : (set next : Set) → ((i : ℕ) → set i ≡ has_row items rows i) → AddsNumber set next index → (i : ℕ) → next i ≡ has_row items new i
  row_added set next was adds i = same_test (next i) (has_row items new i) (there, back)
    where
      from_old : IsTrue (set i) → IsTrue (has_row items new i)
      from_old is = elim (other_or_same sec (section_of items i)) as (λ _. IsTrue (has_row items new i)) [
        | inl same ↦ grown_has i same ∙ or_left (list_any (at i) (rows sec)) ((index == i) || false) (sym (old_has i same) ∙ sym (was i) ∙ is)
        | inr other ↦ other_has i other ∙ sym (was i) ∙ is
      ]

      there : IsTrue (next i) → IsTrue (has_row items new i)
      there is = elim ((adds i).0 is) as (λ _. IsTrue (has_row items new i)) [
        | inl same ↦
            let mine : section_of items i ≡ sec = ap (section_of items) same ∙ sym here in
            grown_has i mine ∙ or_right (list_any (at i) (rows sec)) ((index == i) || false) (or_left (index == i) false (eq-eqb index i (sym same)))
        | inr was_there ↦ from_old was_there
      ]

      back : IsTrue (has_row items new i) → IsTrue (next i)
      back is = elim (other_or_same sec (section_of items i)) as (λ _. IsTrue (next i)) [
        | inl same ↦ elim (or_either (list_any (at i) (rows sec)) ((index == i) || false) (sym (grown_has i same) ∙ is)) as (λ _. IsTrue (next i)) [
          | inl was_there ↦ (adds i).1 (inr (was i ∙ old_has i same ∙ was_there))
          | inr now_there ↦ elim (or_either (index == i) false now_there) as (λ _. IsTrue (next i)) [ inl same_index ↦ (adds i).1 (inl (sym (eqb-true index i same_index))) | inr never ↦ absurd (cc never) ]
        ]
        | inr other ↦ (adds i).1 (inr (was i ∙ sym (other_has i other) ∙ is))
      ]

-- ---- all rows at once

-- a row with the index is one of the list
any_of : (i : ℕ) (rows : List Row) → IsTrue (list_any (λ r. r.index == i) rows) → (r : Row) × Contains rows r × (r.index ≡ i)
any_of i [] is = absurd (cc is)
any_of i (r ∷ rows) is = elim (or_either (r.index == i) (list_any (λ q. q.index == i) rows) is) [
  | inl here ↦ (r, (0, omega arith, refl), eqb-true r.index i here)
  | inr later ↦ (let found = any_of i rows later in (found.0, (suc found.1.0, omega (arith, found.1.1), found.1.2), found.2))
]

of_any : (i : ℕ) (rows : List Row) (r : Row) → Contains rows r → r.index ≡ i → IsTrue (list_any (λ q. q.index == i) rows)
of_any i [] r has is = absurd (omega (arith, has.1))
of_any i (q ∷ rows) r (zero, lt, same) is = or_left (q.index == i) (list_any (λ x. x.index == i) rows) (eq-eqb q.index i (ap (λ (x : Row). x.index) same ∙ is))
of_any i (q ∷ rows) r (suc k, lt, same) is = or_right (q.index == i) (list_any (λ x. x.index == i) rows) (of_any i rows r (k, omega (arith, lt), same) is)

each_row : (P : Row → Type 0) (rows : List Row) (r : Row) → AllByRecursion P rows → Contains rows r → P r
each_row P [] r all has = absurd (omega (arith, has.1))
each_row P (q ∷ rows) r all (zero, lt, same) = subst P same all.0
each_row P (q ∷ rows) r all (suc k, lt, same) = each_row P rows r all.1 (k, omega (arith, lt), same)

-- the indices of rows that are in their sections are those that the sections have
pub rows_set : (items : ℕ) (rows : ℕ → List Row) (set : Set) → ((s : ℕ) → AllByRecursion (λ r. section_of items r.index ≡ s) (rows s)) → AreIndicesOf rows set
    → (i : ℕ) → set i ≡ has_row items rows i
rows_set items rows set filed are i = same_test (set i) (has_row items rows i) (there, back)
  where
    there : IsTrue (set i) → IsTrue (has_row items rows i)
    there is =
        let found = (are i).0 is in
        let mine : section_of items i ≡ found.0 = ap (section_of items) (sym found.3) ∙ each_row (λ r. section_of items r.index ≡ found.0) (rows found.0) found.1 (filed found.0) found.2 in
        ap (λ (s : ℕ). list_any (λ r. r.index == i) (rows s)) mine ∙ of_any i (rows found.0) found.1 found.2 found.3

    back : IsTrue (has_row items rows i) → IsTrue (set i)
    back is = let found = any_of i (rows (section_of items i)) is in (are i).1 (section_of items i, found.0, found.1, found.2)
