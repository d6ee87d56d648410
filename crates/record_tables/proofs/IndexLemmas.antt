-- The set of the indices, as tables are gone over.
use Rattle.std.proofs.Common.{◌≡◌, ◌≢◌, ◌↔◌, ◌⊎◌, inl, inr, refl, sym, ◌∙◌, ap, subst, ℕ, zero, suc, ◌+◌, ◌-◌, ◌<◌, ◌≤◌, ◌^◌, Bool, true, false, IsTrue, List, [], ◌∷◌, cond, slice_get, Contains, Option, None, Some, IsSomeAnd, Result, Ok, Err, arith}
use Rattle.std.specs.BTreeMap.{get, is_at}
use Rattle.std.specs.Global.{Vec}
use Rattle.std.specs.List.{AllByRecursion}
use Rattle.std.specs.Map.{lookup}
use Rattle.std.specs.Option.{is_some}
use Rattle.std.specs.Ordering.{nat_cmp}
use Rattle.std.proofs.lemmas.Bool.{cases_eq, cases_lt, false≢true}
use Rattle.std.proofs.lemmas.Option.{same_Some}
use Rattle.std.proofs.lemmas.Map.Lookups.{exact_unsigned}
use Rattle.std.proofs.lemmas.Map.Views.{tells_apart}
use Rattle.ordinal_store.specs.Numbers.{AddsNumber, Set}
use Rattle.ordinal_store.specs.Ranges.{set_of}
use Rattle.record_tables.specs.Positions.{GivesPositions, positions_of}
use Rattle.record_tables.specs.Rows.{AreIndicesOf, ArePositions, FindsFirst, FindsPositions, Row}
use Rattle.record_tables.specs.Tables.{AddsIndices, AreInOrder, positions_in, rows_in, rows_of}
use Rattle.record_tables.specs.declared.tables.Table.{Table}
use Rattle.record_tables.specs.declared.tables.Tables.{Tables}
use Rattle.record_tables.proofs.PositionLemmas.{finds_first, no_positions, some_position}
use Rattle.record_tables.proofs.RoomLemmas.{rows_none}

-- ---- the offsets of a section

-- those below an end were added
abbrev pub AddsBelow : ℕ → (ℕ → List ℕ) → ℕ → Set → Set → Type 0
AddsBelow section positions end old new = (i : ℕ)
    → IsTrue (new i) ↔ (((o : ℕ) × (o < end) × (i ≡ section + o) × (positions o ≢ [])) ⊎ IsTrue (old i))

pub none_below : (section : ℕ) (positions : ℕ → List ℕ) (old : Set) → AddsBelow section positions 0 old old
none_below section positions old i = (λ is. inr is, λ either. elim either as (λ _. IsTrue (old i)) [ inl found ↦ absurd (omega (arith, found.1)) | inr was ↦ was ])

module _ (section : ℕ) (positions : ℕ → List ℕ) (end : ℕ) (old mid : Set) (adds : AddsBelow section positions end old mid) where
  -- the next offset has a position
  pub one_below : (new : Set) → positions end ≢ [] → AddsNumber mid new (section + end) → AddsBelow section positions (end + 1) old new
  one_below new some one i = (
    λ is. elim ((one i).0 is) as (λ _. ((o : ℕ) × (o < end + 1) × (i ≡ section + o) × (positions o ≢ [])) ⊎ IsTrue (old i)) [
      | inl same ↦ inl (end, omega arith, same, some)
      | inr was ↦ elim ((adds i).0 was) as (λ _. ((o : ℕ) × (o < end + 1) × (i ≡ section + o) × (positions o ≢ [])) ⊎ IsTrue (old i)) [
        | inl found ↦ inl (found.0, omega (arith, found.1), found.2, found.3)
        | inr before ↦ inr before
      ]
    ],
    λ either. elim either as (λ _. IsTrue (new i)) [
      | inl found ↦ elim (last_or_below found.0 found.1) as (λ _. IsTrue (new i)) [
        | inl last ↦ (one i).1 (inl (found.2 ∙ ap (λ (o : ℕ). section + o) last))
        | inr below ↦ (one i).1 (inr ((adds i).1 (inl (found.0, below, found.2, found.3))))
      ]
      | inr was ↦ (one i).1 (inr ((adds i).1 (inr was)))
    ],
  )
    where
      below_other : (o : ℕ) → o < end + 1 → (o ≡ end → ⊥) → o < end
      below_other o lt other = omega (arith, lt, other)

      last_or_below : (o : ℕ) → o < end + 1 → (o ≡ end) ⊎ (o < end)
      last_or_below o lt = elim (cases_eq o end) as (λ _. (o ≡ end) ⊎ (o < end)) [ inl same ↦ inl same | inr other ↦ inr (below_other o lt other) ]

  -- or none
  pub bare_below : positions end ≡ [] → AddsBelow section positions (end + 1) old mid
  bare_below none i = (
    λ is. elim ((adds i).0 is) as (λ _. ((o : ℕ) × (o < end + 1) × (i ≡ section + o) × (positions o ≢ [])) ⊎ IsTrue (old i)) [
      | inl found ↦ inl (found.0, omega (arith, found.1), found.2, found.3)
      | inr before ↦ inr before
    ],
    λ either. elim either as (λ _. IsTrue (mid i)) [
      | inl found ↦ elim (cases_eq found.0 end) as (λ _. IsTrue (mid i)) [
        | inl last ↦ absurd (found.3 (ap positions last ∙ none))
        | inr other ↦ (adds i).1 (inl (found.0, omega (arith, found.1, other), found.2, found.3))
      ]
      | inr was ↦ (adds i).1 (inr was)
    ],
  )

  -- behind the end no offset has one
  pub all_below : ((o : ℕ) → end ≤ o → positions o ≡ []) → AddsIndices section positions old mid
  all_below none i = (
    λ is. elim ((adds i).0 is) as (λ _. ((o : ℕ) × (i ≡ section + o) × (positions o ≢ [])) ⊎ IsTrue (old i)) [
      | inl found ↦ inl (found.0, found.2, found.3)
      | inr before ↦ inr before
    ],
    λ either. (adds i).1 (elim either as (λ _. ((o : ℕ) × (o < end) × (i ≡ section + o) × (positions o ≢ [])) ⊎ IsTrue (old i)) [
      | inl found ↦ elim (cases_lt found.0 end) as (λ _. ((o : ℕ) × (o < end) × (i ≡ section + o) × (positions o ≢ [])) ⊎ IsTrue (old i)) [
        | inl low ↦ inl (found.0, low, found.1, found.2)
        | inr high ↦ absurd (found.2 (none found.0 high))
      ]
      | inr was ↦ inr was
    ]),
  )

-- an offset has a position where its first is found, and only there
pub some_first : (ps : List ℕ) (o : Option ℕ) → o ≡ slice_get ps 0 → is_some o ≡ true → ps ≢ []
some_first [] o is some = absurd (false≢true (sym (ap is_some is) ∙ some))
some_first (p ∷ ps) o is some = λ none. cc

pub none_first : (ps : List ℕ) (o : Option ℕ) → o ≡ slice_get ps 0 → is_some o ≡ false → ps ≡ []
none_first [] o is none = refl
none_first (p ∷ ps) o is none = absurd (false≢true (sym none ∙ ap is_some is))

-- ---- one table after another

-- The table that is found is that of the next section, or it comes later.
here_or_ahead : {X : Type 0} (s : ℕ) (ahead rest : List (ℕ × X)) (k : ℕ) (v w : X) → ahead ≡ (k, v) ∷ rest → lookup (is_at (nat_cmp s)) ahead ≡ Some w
    → ((s ≡ k) × (v ≡ w)) ⊎ (lookup (is_at (nat_cmp s)) rest ≡ Some w)
here_or_ahead {X} s ahead rest k v w is found = go (is_at (nat_cmp s) k) refl (subst (λ (es : List (ℕ × X)). lookup (is_at (nat_cmp s)) es ≡ Some w) is found)
  where
    go : (b : Bool) → is_at (nat_cmp s) k ≡ b → cond b (Some v) (lookup (is_at (nat_cmp s)) rest) ≡ Some w → ((s ≡ k) × (v ≡ w)) ⊎ (lookup (is_at (nat_cmp s)) rest ≡ Some w)
    go true equal first = inl (tells_apart exact_unsigned s k equal, same_Some v w first)
    go false other later = inr later

-- a row at a place is one of the list, and each one of the list stands at a place
module _ {X : Type 0} (P : X → Type 0) where
  placed_in : (xs : List X) (p : ℕ) → IsSomeAnd (slice_get xs p) P → (x : X) × Contains xs x × P x
  placed_in [] p is = absurd is
  placed_in (x ∷ xs) zero is = (x, (0, omega arith, refl), is)
  placed_in (x ∷ xs) (suc p) is = (let found = placed_in xs p is in (found.0, (suc found.1.0, omega (arith, found.1.1), found.1.2), found.2))

  place_in : (xs : List X) (x : X) → Contains xs x → P x → (p : ℕ) × IsSomeAnd (slice_get xs p) P
  place_in [] x has is = absurd (omega (arith, has.1))
  place_in (y ∷ ys) x (zero, lt, same) is = (0, subst P (sym same) is)
  place_in (y ∷ ys) x (suc k, lt, same) is = (let found = place_in ys x (k, omega (arith, lt), same) is in (suc found.0, found.1))

  each_in : (xs : List X) (x : X) → AllByRecursion P xs → Contains xs x → P x
  each_in [] x all has = absurd (omega (arith, has.1))
  each_in (y ∷ ys) x all (zero, lt, same) = subst P same all.0
  each_in (y ∷ ys) x all (suc k, lt, same) = each_in ys x all.1 (k, omega (arith, lt), same)

module _ {W K : Type 0} (t : Tables W K) where
  -- the index of each row is in the set, or the row's table comes later
  abbrev pub AreFound : Set → List (ℕ × Table W K) → Type 0
  AreFound set ahead = (s : ℕ) (r : Row K) → Contains (rows_of t s) r → IsTrue (set r.index) ⊎ ((table : Table W K) × (lookup (is_at (nat_cmp s)) ahead ≡ Some table))

  -- what is in the set is the index of a row
  abbrev pub AreOfRows : Set → Type 0
  AreOfRows set = (i : ℕ) → IsTrue (set i) → (s : ℕ) × (r : Row K) × Contains (rows_of t s) r × (r.index ≡ i)

  -- none is in an empty set
  pub none_yet : (ranges : List (ℕ × ℕ)) → ranges ≡ [] → AreOfRows (set_of ranges)
  none_yet ranges is i has = absurd (false≢true (subst (λ (rs : List (ℕ × ℕ)). IsTrue (set_of rs i)) is has))

  -- all tables come
  pub all_ahead : (set : Set) (ahead : List (ℕ × Table W K)) → ahead ≡ t.tables.entries → AreFound set ahead
  all_ahead set ahead is s r has = go (get nat_cmp t.tables s) refl has
    where
      go : (o : Option (Table W K)) → get nat_cmp t.tables s ≡ o → Contains (rows_in o) r → IsTrue (set r.index) ⊎ ((table : Table W K) × (lookup (is_at (nat_cmp s)) ahead ≡ Some table))
      go None e none = absurd (omega (arith, none.1))
      go (Some table) e some = inr (table, subst (λ (es : List (ℕ × Table W K)). lookup (is_at (nat_cmp s)) es ≡ Some table) (sym is) e)

  -- no table comes any more
  pub all_found : (set : Set) (ahead : List (ℕ × Table W K)) → ahead ≡ [] → AreFound set ahead → AreOfRows set → AreIndicesOf (rows_of t) set
  all_found set ahead is found only i = (
    only i,
    λ (s, r, has, same). elim (found s r has) as (λ _. IsTrue (set i)) [
      | inl there ↦ subst (λ (n : ℕ). IsTrue (set n)) same there
      | inr later ↦ absurd (none_left later.0 (subst (λ (es : List (ℕ × Table W K)). lookup (is_at (nat_cmp s)) es ≡ Some later.0) is later.1))
    ],
  )
    where
      none_left : (table : Table W K) → ◌≡◌ {A = Option (Table W K)} None (Some table) → ⊥
      none_left table none = cc

  module _ (order : AreInOrder (λ _. ⊥) t) (k : ℕ) (v : Table W K) (here : get nat_cmp t.tables k ≡ Some v) where
    positions_here : (o : ℕ) → ArePositions (rows_of t k) (k + o) (positions_of v.positions o)
    positions_here n = subst (λ (o : Option (Table W K)). ArePositions (rows_of t k) (k + n) (positions_in o n)) here (order.positions k n)

    -- the index at an offset with a position is that of a row, so a u64 has it
    pub fits : (o : ℕ) → positions_of v.positions o ≢ [] → k + o < 2 ^ 64
    fits o some =
        let at = some_position (rows_of t k) (k + o) (positions_of v.positions o) (positions_here o) some in
        let row = placed_in (λ q. q.index ≡ k + o) (rows_of t k) at.0 at.1 in
        omega (arith, (each_in (λ q. (k ≤ q.index) × (q.index < 2 ^ 64)) (rows_of t k) row.0 (order.low k) row.1).1, row.2)

    module _ (old new : Set) (adds : AddsIndices k (positions_of v.positions) old new) where
      -- a row of the table has its index in the set now
      row_in : (r : Row K) → Contains (rows_of t k) r → IsTrue (new r.index)
      row_in r has =
          let low = (each_in (λ q. (k ≤ q.index) × (q.index < 2 ^ 64)) (rows_of t k) r (order.low k) has).0 in
          let is : r.index ≡ k + (r.index - k) = omega (arith, low) in
          let at = place_in (λ q. q.index ≡ k + (r.index - k)) (rows_of t k) r has is in
          let position = ((positions_here (r.index - k)).exact at.0).1 at.1 in
          (adds r.index).1 (inl (r.index - k, is, λ none. (let never = subst (λ (ps : List ℕ). Contains ps at.0) none position in omega (arith, never.1))))

      -- the next table was added
      pub turn_found : (ahead rest : List (ℕ × Table W K)) → ahead ≡ (k, v) ∷ rest → AreFound old ahead → AreFound new rest
      turn_found ahead rest is found s r has = elim (found s r has) as (λ _. IsTrue (new r.index) ⊎ ((table : Table W K) × (lookup (is_at (nat_cmp s)) rest ≡ Some table))) [
        | inl was ↦ inl ((adds r.index).1 (inr was))
        | inr later ↦ elim (here_or_ahead s ahead rest k v later.0 is later.1) as (λ _. IsTrue (new r.index) ⊎ ((table : Table W K) × (lookup (is_at (nat_cmp s)) rest ≡ Some table))) [
          | inl now ↦ inl (row_in r (subst (λ (n : ℕ). Contains (rows_of t n) r) now.0 has))
          | inr behind ↦ inr (later.0, behind)
        ]
      ]

      pub turn_only : AreOfRows old → AreOfRows new
      turn_only only i is = elim ((adds i).0 is) as (λ _. (s : ℕ) × (r : Row K) × Contains (rows_of t s) r × (r.index ≡ i)) [
        | inl found ↦
            let at = some_position (rows_of t k) (k + found.0) (positions_of v.positions found.0) (positions_here found.0) found.2 in
            let row = placed_in (λ q. q.index ≡ k + found.0) (rows_of t k) at.0 at.1 in
            (k, row.0, row.1, row.2 ∙ sym found.1)
        | inr was ↦ only i was
      ]

-- ---- one index

module _ {W K : Type 0} (t : Tables W K) (section index : ℕ) where
  -- a section without a table has no record with it
  pub first_none : get nat_cmp t.tables section ≡ None → FindsFirst (rows_of t section) index None
  first_none none q is = absurd (subst (λ (rs : List (Row K)). IsSomeAnd (slice_get rs q) (λ r. r.index ≡ index)) (rows_none t section none) is)

  pub positions_none : get nat_cmp t.tables section ≡ None → (given : Vec ℕ) → given.items ≡ [] → ArePositions (rows_of t section) index given.items
  positions_none none given empty = subst (λ (rs : List (Row K)). ArePositions rs index given.items) (sym (rows_none t section none))
      (subst (ArePositions {K = K} [] index) (sym empty) (no_positions index))

  -- the positions at its offset are those of the records with it
  module _ (order : AreInOrder (λ _. ⊥) t) (low : section ≤ index) (table : Table W K) (there : get nat_cmp t.tables section ≡ Some table) where
    at_offset : ArePositions (rows_of t section) index (positions_of table.positions (index - section))
    at_offset =
        let is : section + (index - section) ≡ index = omega (arith, low) in
        subst (λ (i : ℕ). ArePositions (rows_of t section) i (positions_of table.positions (index - section))) is
        (subst (λ (o : Option (Table W K)). ArePositions (rows_of t section) (section + (index - section)) (positions_in o (index - section))) there (order.positions section (index - section)))

    pub first_found : (r : Option ℕ) → r ≡ slice_get (positions_of table.positions (index - section)) 0 → FindsFirst (rows_of t section) index r
    first_found r is = subst (FindsFirst (rows_of t section) index) (sym is) (finds_first (rows_of t section) index (positions_of table.positions (index - section)) at_offset)

    pub positions_found : {E : Type 0} (r : Result (Vec ℕ) E) → GivesPositions (positions_of table.positions (index - section)) r → FindsPositions (rows_of t section) index r
    positions_found (Ok given) is = subst (ArePositions (rows_of t section) index) (sym is) at_offset
    positions_found (Err e) some = some_position (rows_of t section) index (positions_of table.positions (index - section)) at_offset some
