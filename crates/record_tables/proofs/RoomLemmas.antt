-- How many sections have rows, beside how many tables there are: each table has some.
use Rattle.std.proofs.Common.{◌≡◌, ◌≢◌, ◌↔◌, ◌<◌, ◌≤◌, ◌^◌, Bool, true, false, inl, inr, refl, sym, ap, ℕ, List, [], ◌∷◌, map, length, get_or, Option, None, Some, IsTrue, subst, nat_lt, arith}
use Rattle.std.specs.BTreeMap.{BTreeMap, Updates, get, is_at, keys}
use Rattle.std.specs.Cmp.{nat_cmp_total}
use Rattle.std.specs.List.{AllByRecursion}
use Rattle.std.specs.List.Sorted.{IsStrictlySortedBy}
use Rattle.std.specs.Option.{IsSome}
use Rattle.std.specs.Ordering.{nat_cmp}
use Rattle.std.proofs.lemmas.Bool.{cases_eq, lt-ltb, ltb-true}
use Rattle.std.proofs.lemmas.Cmp.{eq_by_cmp_equiv}
use Rattle.std.proofs.lemmas.List.Elements.{All-contains, All-from_recursion, recursion_from_All}
use Rattle.std.proofs.lemmas.List.{length-map}
use Rattle.std.proofs.lemmas.Map.Entries.{length-keys_of}
use Rattle.std.proofs.lemmas.Map.Keys.{IsDistinct-from_sorted}
use Rattle.std.proofs.lemmas.Map.Lookups.{exact_unsigned}
use Rattle.std.proofs.lemmas.Map.Steps.{length-le_from_keys}
use Rattle.std.proofs.lemmas.Map.Views.{All-keys_found, Contains-from_any, tells_apart}
use Rattle.std.proofs.lemmas.Option.{slice_get_within}
use Rattle.record_tables.specs.Rows.{FewerThan, HasRoom}
use Rattle.record_tables.specs.Tables.{AreFilledBut, AreInOrder, row_of, rows_in, rows_of}
use Rattle.record_tables.specs.declared.tables.Entry.{Entry}
use Rattle.record_tables.specs.declared.tables.Table.{Table}
use Rattle.record_tables.specs.declared.tables.Tables.{Tables}

module _ {W K : Type 0} where
  -- a section without a table has no rows
  pub rows_none : (t : Tables W K) (s : ℕ) → get nat_cmp t.tables s ≡ None → rows_of t s ≡ []
  rows_none t s is = ap rows_in is

  -- the rows of a section are those that its table shows
  pub rows_some : (t : Tables W K) (s : ℕ) (table : Table W K) → get nat_cmp t.tables s ≡ Some table → rows_of t s ≡ map row_of table.entries.items
  rows_some t s table is = ap rows_in is

  -- a table without rows is empty, and only a section with a table has rows
  shown_none : (xs : List (Entry W K)) → map row_of xs ≡ [] → xs ≡ []
  shown_none [] is = refl
  shown_none (x ∷ xs) is = cc

  has_table : (o : Option (Table W K)) → rows_in o ≢ [] → IsSome o
  has_table None some = absurd (some refl)
  has_table (Some table) some = refl

  has_rows : (o : Option (Table W K)) → ((table : Table W K) → o ≡ Some table → table.entries.items ≢ []) → IsSome o → rows_in o ≢ []
  has_rows None filled is = cc
  has_rows (Some table) filled is = λ none. filled table refl (shown_none table.entries.items none)

  -- There is room for a section's first row exactly while the tables are fewer than the limit.
  pub few_tables : (t : Tables W K) (n : ℕ) → IsStrictlySortedBy nat_cmp (keys t.tables) → AreFilledBut (λ _. ⊥) t → length t.tables.entries < n ↔ FewerThan n (rows_of t)
  few_tables t n sorted filled = (λ lt ss up rows. omega (arith, lt, at_most ss up rows), λ few. omega (arith, few (keys t.tables) sorted own, length-keys_of t.tables.entries))
    where
      at_most : (ss : List ℕ) → IsStrictlySortedBy nat_cmp ss → AllByRecursion (λ s. rows_of t s ≢ []) ss → length ss ≤ length t.tables.entries
      at_most ss up rows = length-le_from_keys (eq_by_cmp_equiv nat_cmp_total) ss t.tables.entries (IsDistinct-from_sorted nat_cmp ss up)
          (λ q is. has_table (get nat_cmp t.tables q) (All-contains (λ s. rows_of t s ≢ []) ss q (All-from_recursion (λ s. rows_of t s ≢ []) ss rows) (Contains-from_any (tells_apart exact_unsigned) q ss is)))

      own : AllByRecursion (λ s. rows_of t s ≢ []) (keys t.tables)
      own = recursion_from_All (λ s. rows_of t s ≢ []) (keys t.tables)
          (λ k d lt. has_rows (get nat_cmp t.tables (get_or (keys t.tables) k d)) (λ table is. filled (get_or (keys t.tables) k d) table is (λ none. none)) (All-keys_found nat_cmp_total t.tables sorted k d lt))

  -- The same, as the test says it, where the section has no table.
  pub room_for_first : (t : Tables W K) (s len most per_section n : ℕ) → IsStrictlySortedBy nat_cmp (keys t.tables) → AreFilledBut (λ _. ⊥) t → get nat_cmp t.tables s ≡ None
      → len ≡ length t.tables.entries → most ≡ n → IsTrue (nat_lt len most) ↔ HasRoom n per_section (rows_of t) s
  room_for_first t s len most per_section n sorted filled none all limit = (
    λ lt. inr (rows_none t s none, (few_tables t n sorted filled).0 (omega (arith, ltb-true len most lt, all, limit))),
    λ room. elim room [
      | inl has ↦ absurd (has.0 (rows_none t s none))
      | inr has ↦ lt-ltb len most (omega (arith, (few_tables t n sorted filled).1 has.1, all, limit))
    ],
  )

-- ---- the map of the tables

-- a section beside another
pub apart : (k s : ℕ) → s ≢ k → is_at (nat_cmp k) s ≡ false
apart k s other = not_true (is_at (nat_cmp k) s) (λ is. other (sym (tells_apart exact_unsigned k s is)))
  where
    not_true : (b : Bool) → (b ≡ true → ⊥) → b ≡ false
    not_true true none = absurd (none refl)
    not_true false none = refl

module _ {X : Type 0} (k : ℕ) (m n : BTreeMap ℕ X) (w : Option X) (updates : Updates nat_cmp m n k w) where
  -- a change at a section leaves the others
  pub beside : (s : ℕ) → s ≢ k → get nat_cmp n s ≡ get nat_cmp m s
  beside s other = updates.2 s (apart k s other)

-- What holds at the section, and held at each other one, holds at each.
pub by_section : {X : Type 0} (section : ℕ) (old new : BTreeMap ℕ X) → ((s : ℕ) → s ≢ section → get nat_cmp new s ≡ get nat_cmp old s) → (P : ℕ → Option X → Type 0)
    → P section (get nat_cmp new section) → ((s : ℕ) → s ≢ section → P s (get nat_cmp old s)) → (s : ℕ) → P s (get nat_cmp new s)
by_section section old new others P here stays s = elim (cases_eq s section) as (λ _. P s (get nat_cmp new s)) [
  | inl same ↦ subst (λ (n : ℕ). P n (get nat_cmp new n)) (sym same) here
  | inr other ↦ subst (P s) (sym (others s other)) (stays s other)
]

module _ {W K : Type 0} (P : ℕ → Type 0) (t : Tables W K) (order : AreInOrder P t) (s : ℕ) (table : Table W K) (there : get nat_cmp t.tables s ≡ Some table) where
  -- slot and positions of a table fit into a handle
  pub slot_fits : table.slot < 2 ^ 24
  slot_fits = omega (arith, slice_get_within t.slots.sections.items table.slot s (order.own s table there).named, order.slots.few)

  pub entries_fit : length table.entries.items ≤ 2 ^ 40
  entries_fit = omega (arith, order.short s, ap length (rows_some t s table there), length-map table.entries.items row_of)
