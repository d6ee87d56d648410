-- What the tables say of rows whose keys are seen as their bytes.
use Rattle.std.proofs.Common.{◌≡◌, ◌≢◌, ◌↔◌, inl, inr, refl, sym, ◌∙◌, ap, subst, ℕ, zero, suc, ◌≤◌, Bool, true, false, List, [], ◌∷◌, ◌++◌, map, slice_get, Contains, None, Some, IsSomeAnd, nat_eq, arith}
use Rattle.std.specs.Cmp.Lexicographic.{pointwise, other_text, same_text}
use Rattle.std.specs.List.{AllByRecursion}
use Rattle.std.proofs.lemmas.List.{length-map, map-append}
use Rattle.ordinal_store.specs.Numbers.{Set}
use Rattle.record_tables.specs.Rows as held
use Rattle.record_tables.specs.Rows.{HasRoom}
use Rattle.record_tables.specs.Tables as tables
use Rattle.record_tables.specs.declared.tables.Tables.{Tables}
use Rattle.archives.specs.Archives.{Archive}
use Rattle.archives.specs.Finding.{Index, IsIn}
use Rattle.archives.specs.Machine.{section_of}
use Rattle.archives.specs.Rows.{AreTables, Row, row_of, rows_of}
use Rattle.archives.proofs.read.Finding.{IsFirst}
use Rattle.archives.proofs.read.Records.{clash, from_map, to_map, weaker_at}
use Rattle.blob_device.proofs.general.Options.{the_some}

-- ---- keys, told apart by their bytes

module _ {K : Type 0} (eq : K → K → Bool) (key_bytes : K → List ℕ) (by_bytes : (x y : K) → eq x y ≡ pointwise nat_eq (key_bytes x) (key_bytes y)) (x y : K) where
  pub same_key : eq x y ≡ true → key_bytes x ≡ key_bytes y
  same_key is = same_text (key_bytes x) (key_bytes y) (sym is ∙ by_bytes x y)

  pub other_key : eq x y ≡ false → key_bytes x ≢ key_bytes y
  other_key is = other_text (key_bytes x) (key_bytes y) (sym is ∙ by_bytes x y)

-- ---- room

module _ {X Y : Type 0} (f : X → Y) where
  none_shown : (xs : List X) → map f xs ≡ [] → xs ≡ []
  none_shown [] is = refl
  none_shown (x ∷ xs) is = cc

  shown_none : (xs : List X) → xs ≡ [] → map f xs ≡ []
  shown_none xs is = ap (map f) is

  module _ (lists : ℕ → List X) where
    some_shown : (ss : List ℕ) → AllByRecursion (λ s. lists s ≢ []) ss → AllByRecursion (λ s. map f (lists s) ≢ []) ss
    some_shown [] all = tt
    some_shown (s ∷ ss) all = (λ none. all.0 (none_shown (lists s) none), some_shown ss all.1)

    shown_some : (ss : List ℕ) → AllByRecursion (λ s. map f (lists s) ≢ []) ss → AllByRecursion (λ s. lists s ≢ []) ss
    shown_some [] all = tt
    shown_some (s ∷ ss) all = (λ none. all.0 (shown_none (lists s) none), shown_some ss all.1)

    -- there is room in lists where there is in those that they show
    pub room_shown : (a b s : ℕ) → HasRoom a b lists s ↔ HasRoom a b (λ t. map f (lists t)) s
    room_shown a b s = (
      λ room. elim room as (λ _. HasRoom a b (λ t. map f (lists t)) s) [
        | inl old ↦ inl (λ none. old.0 (none_shown (lists s) none), omega (arith, old.1, length-map (lists s) f))
        | inr new ↦ inr (shown_none (lists s) new.0, λ ss up all. new.1 ss up (shown_some ss all))
      ],
      λ room. elim room as (λ _. HasRoom a b lists s) [
        | inl old ↦ inl (λ none. old.0 (shown_none (lists s) none), omega (arith, old.1, length-map (lists s) f))
        | inr new ↦ inr (none_shown (lists s) new.0, λ ss up all. new.1 ss up (some_shown ss all))
      ],
    )

-- within wider limits there is room too
pub room_wider : {X : Type 0} (a b c d : ℕ) (lists : ℕ → List X) (s : ℕ) → a ≤ c → b ≤ d → HasRoom a b lists s → HasRoom c d lists s
room_wider a b c d lists s more longer room = elim room as (λ _. HasRoom c d lists s) [
  | inl old ↦ inl (old.0, omega (arith, old.1, longer))
  | inr new ↦ inr (new.0, λ ss up all. omega (arith, new.1 ss up all, more))
]

module _ {K : Type 0} (key_bytes : K → List ℕ) where
  -- ---- by index

  -- the positions of rows are those of the rows that they show
  pub positions_shown : (rows : List (held.Row K)) (i : ℕ) (ps : List ℕ) → held.ArePositions rows i ps → held.ArePositions (map (row_of key_bytes) rows) i ps
  positions_shown rows i ps are = record {
    ascending = are.ascending;
    exact = λ p. (
      λ has. to_map (row_of key_bytes) (λ r. r.index ≡ i) rows p ((are.exact p).0 has),
      λ at. (are.exact p).1 (from_map (row_of key_bytes) (λ r. r.index ≡ i) rows p at),
    );
  }

  -- memory was short for one of them
  pub short_shown : (rows : List (held.Row K)) (i : ℕ) → ((p : ℕ) × IsSomeAnd (slice_get rows p) (λ r. r.index ≡ i)) → (p : ℕ) × IsSomeAnd (slice_get (map (row_of key_bytes) rows) p) (λ r. r.index ≡ i)
  short_shown rows i found = (found.0, to_map (row_of key_bytes) (λ r. r.index ≡ i) rows found.0 found.1)

  -- where the rows of section s are these, the first of an index is the archive's
  module _ {F B : Type 0} (a : Archive F B) (s i : ℕ) (here : s ≡ section_of a.items i) (rows : List (held.Row K)) (shows : a.rows s ≡ map (row_of key_bytes) rows) where
    pub first_of : (p : ℕ) → held.FindsFirst rows i (Some p) → IsFirst a (Index i) s p
    first_of p found = record {
      here = subst (λ (xs : List Row). IsSomeAnd (slice_get xs p) (λ r. (s ≡ section_of a.items i) × (r.index ≡ i))) (sym shows)
          (to_map (row_of key_bytes) (λ r. (s ≡ section_of a.items i) × (r.index ≡ i)) rows p (weaker_at (slice_get rows p) (λ r is. (here, is)) found.0));
      first = λ q lt is. clash (slice_get rows q) (found.1 q lt)
          (from_map (row_of key_bytes) (λ r. r.index ≡ i) rows q (subst (λ (xs : List Row). IsSomeAnd (slice_get xs q) (λ r. r.index ≡ i)) shows (weaker_at (slice_get (a.rows s) q) (λ r both. both.1) is)))
          (λ r other same. other same);
    }

    -- and where there is none, the archive has none
    pub none_of : held.FindsFirst rows i None → (n : ℕ) → IsIn a (Index i) n → ⊥
    none_of none n (p, is) =
        let found = the_some (slice_get (a.rows n) p) is in
        let there : IsSomeAnd (slice_get (a.rows s) p) (λ r. r.index ≡ i) = subst (λ (m : ℕ). IsSomeAnd (slice_get (a.rows m) p) (λ r. r.index ≡ i)) (found.2.0 ∙ sym here) (weaker_at (slice_get (a.rows n) p) (λ r both. both.1) is) in
        none p (from_map (row_of key_bytes) (λ r. r.index ≡ i) rows p (subst (λ (xs : List Row). IsSomeAnd (slice_get xs p) (λ r. r.index ≡ i)) shows there))

  -- the set of the indices of rows is that of the rows that they show
  row_back : (rows : List (held.Row K)) (r : Row) → Contains (map (row_of key_bytes) rows) r → (q : held.Row K) × Contains rows q × (q.index ≡ r.index)
  row_back [] r has = absurd (omega (arith, has.1))
  row_back (x ∷ xs) r (zero, lt, is) = (x, (0, omega arith, refl), ap (λ (q : Row). q.index) is)
  row_back (x ∷ xs) r (suc k, lt, is) = (let found = row_back xs r (k, omega (arith, lt), is) in (found.0, (suc found.1.0, omega (arith, found.1.1), found.1.2), found.2))

  row_there : (rows : List (held.Row K)) (q : held.Row K) → Contains rows q → Contains (map (row_of key_bytes) rows) (row_of key_bytes q)
  row_there [] q has = absurd (omega (arith, has.1))
  row_there (x ∷ xs) q (zero, lt, is) = (0, omega arith, ap (row_of key_bytes) is)
  row_there (x ∷ xs) q (suc k, lt, is) = (let found = row_there xs q (k, omega (arith, lt), is) in (suc found.0, omega (arith, found.1), found.2))

  pub indices_shown : (rows : ℕ → List (held.Row K)) (set : Set) → held.AreIndicesOf rows set → held.AreIndicesOf (λ s. map (row_of key_bytes) (rows s)) set
  indices_shown rows set are i = (
    λ is. (let found = (are i).0 is in (found.0, row_of key_bytes found.1, row_there (rows found.0) found.1 found.2, found.3)),
    λ found. (let back = row_back (rows found.0) found.1 found.2 in (are i).1 (found.0, back.0, back.1, back.2 ∙ found.3)),
  )

  -- sections that show no row have none
  pub bare_shown : (rows : ℕ → List (held.Row K)) → ((s : ℕ) → rows s ≡ []) → (s : ℕ) → map (row_of key_bytes) (rows s) ≡ []
  bare_shown rows none s = ap (map (row_of key_bytes)) (none s)

-- The limits allow a row where they allow the record that it shows.
pub row_allowed : {K W : Type 0} (key_bytes : K → List ℕ) (t : Tables W K) (most per items index s : ℕ) → s ≡ section_of items index
    → HasRoom most per (tables.rows_of t) s → HasRoom most per (rows_of key_bytes t) (section_of items index)
row_allowed key_bytes t most per items index s here room = subst (HasRoom most per (rows_of key_bytes t)) here ((room_shown (row_of key_bytes) (tables.rows_of t) most per s).0 room)

-- ---- the tables change

-- A record was added, for which room was made before.
module _ {K W : Type 0} (key_bytes : K → List ℕ) (eq : W → W → Bool) (word_of : List ℕ → W) (section index : ℕ) (word : W) (key : K)
    (old mid new : Tables W K) (same : (s : ℕ) → tables.rows_of mid s ≡ tables.rows_of old s)
    (pushed : tables.Pushes eq section index word key mid new) where
  -- its row goes last in its section
  pub row_pushed : (row : Row) → row_of key_bytes (record { index = index; key = key }) ≡ row
      → rows_of key_bytes new section ≡ rows_of key_bytes old section ++ row ∷ []
  row_pushed row is =
      ap (map (row_of key_bytes)) (pushed.added ∙ ap (λ (rows : List (held.Row K)). rows ++ record { index = index; key = key } ∷ []) (same section))
      ∙ map-append (row_of key_bytes) (tables.rows_of old section) (record { index = index; key = key } ∷ [])
      ∙ ap (λ (r : Row). rows_of key_bytes old section ++ r ∷ []) is

  -- other sections have the rows that they had
  pub rows_kept : (s : ℕ) → s ≢ section → rows_of key_bytes new s ≡ rows_of key_bytes old s
  rows_kept s other = ap (map (row_of key_bytes)) (pushed.others s other ∙ same s)

  -- the tables answer for all, where the word is the key's
  pub tied_still : tables.HasReserved eq section index word old mid → word_of (key_bytes key) ≡ word
      → AreTables key_bytes eq word_of old → AreTables key_bytes eq word_of new
  tied_still reserved its tied = record {
    order = pushed.order;
    words = pushed.words (λ k. word_of (key_bytes k)) its (reserved.words (λ k. word_of (key_bytes k)) tied.words);
  }
