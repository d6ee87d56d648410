-- Room for a record: its section has a table, with the rows that it had.
use Rattle.std.proofs.Common.{◌≡◌, ◌≢◌, ◌⊎◌, inl, inr, refl, sym, ◌∙◌, ap, subst, ℕ, ◌+◌, ◌<◌, ◌≤◌, ◌^◌, ◌-◌, Bool, List, [], map, length, slice_get, Contains, false, true, Option, None, Some, is_some, IsSome, IsSomeAnd, IsTrue, Result, Ok, Err, OnOk, arith}
use Rattle.std.specs.BTreeMap.{btree_map_len, get, keys}
use Rattle.std.specs.HashMap as hash
use Rattle.std.specs.List.{AllByRecursion, IsDistinct}
use Rattle.std.specs.List.Sorted.{IsStrictlySortedBy}
use Rattle.std.specs.Ordering.{nat_cmp}
use Rattle.std.specs.Result.{IsErrAnd}
use Rattle.std.proofs.lemmas.Bool.{cases_eq}
use Rattle.std.proofs.lemmas.List.{length-map}
use Rattle.std.proofs.lemmas.Option.{none-some, same_Some}
use Rattle.record_tables.specs.Handles.{position_of, same_handle}
use Rattle.record_tables.specs.Positions.{positions_of}
use Rattle.record_tables.specs.Rows.{ArePositions, HasRoom, Row}
use Rattle.record_tables.specs.Slots.{AreSlots, AreUsed, Frees, HasSlot, HasTaken}
use Rattle.record_tables.specs.Tables.{AreInOrder, HasRowOf, HasTableRoom, HaveWords, HaveWordsBut, IsFresh, KeepsTable, ReserveEnds, Reserves, ReservesTable, TableEnds, positions_in, row_of, rows_in, rows_of}
use Rattle.record_tables.specs.Words.{HasWordRoom, handles_of}
use Rattle.record_tables.specs.declared.handle.Handle.{Handle}
use Rattle.record_tables.specs.declared.slots.Slots.{Slots}
use Rattle.record_tables.specs.declared.tables.Entry.{Entry}
use Rattle.record_tables.specs.declared.tables.Table.{Table}
use Rattle.record_tables.specs.declared.tables.Tables.{Tables}
use Rattle.record_tables.specs.declared.words.Words.{Words}
use Rattle.record_tables.proofs.PositionLemmas.{no_positions}
use Rattle.record_tables.proofs.RoomLemmas.{by_section, few_tables, rows_none, rows_some}

-- ---- what was so before the call

module _ {W K : Type 0} (t : Tables W K) (order : AreInOrder (λ _. ⊥) t) (n s : ℕ) where
  -- where no slot is free, one more may be made
  pub few_slots : IsStrictlySortedBy nat_cmp (keys t.tables) → HasRoom (2 ^ 24) n (rows_of t) s → get nat_cmp t.tables s ≡ None
      → t.slots.free.items ≡ [] → length t.slots.sections.items < 2 ^ 24
  few_slots sorted room none free = elim room [
    | inl has ↦ absurd (has.0 (rows_none t s none))
    | inr has ↦ omega (arith, (few_tables t (2 ^ 24) sorted order.filled).1 has.1, order.counted, ap length free)
  ]

  -- a table that there is has a position left
  pub short_table : HasRoom n (2 ^ 40) (rows_of t) s → (table : Table W K) → get nat_cmp t.tables s ≡ Some table
      → length table.entries.items < 2 ^ 40
  short_table room table there =
      let rows : length (rows_of t s) ≡ length table.entries.items = ap length (rows_some t s table there) ∙ length-map table.entries.items row_of in
      elim room [
        | inl has ↦ omega (arith, has.1, rows)
        | inr has ↦ omega (arith, ap length has.0, rows)
      ]

-- ---- a table for the section

module _ {W K : Type 0} (section : ℕ) where
  -- what one section owes to the order of all
  pub record StandsAt (slots : Slots) (table : Table W K) : Type 0 where
    pub low : AllByRecursion (λ r. (section ≤ r.index) × (r.index < 2 ^ 64)) (rows_in (Some table))
    pub positions : (o : ℕ) → ArePositions (rows_in (Some table)) (section + o) (positions_of table.positions o)
    pub short : length (rows_in (Some table)) ≤ 2 ^ 40
    pub own : HasSlot slots table.slot section

  -- a table does that shows what one did
  pub stands_kept : (slots : Slots) (table kept : Table W K) → KeepsTable table kept → StandsAt slots table → StandsAt slots kept
  stands_kept slots table kept keeps stands =
      let rows : map row_of kept.entries.items ≡ map row_of table.entries.items = ap (map row_of) keeps.entries in
      record {
        low = subst (AllByRecursion (λ r. (section ≤ r.index) × (r.index < 2 ^ 64))) (sym rows) stands.low;
        positions = λ o. subst (ArePositions (map row_of kept.entries.items) (section + o)) (sym (keeps.positions o))
            (subst (λ (rs : List (Row K)). ArePositions rs (section + o) (positions_of table.positions o)) (sym rows) (stands.positions o));
        short = subst (λ (rs : List (Row K)). length rs ≤ 2 ^ 40) (sym rows) stands.short;
        own = subst (λ (x : ℕ). HasSlot slots x section) (sym keeps.slot) stands.own;
      }

  -- and so does one without records, whose slot is the section's
  pub stands_bare : (slots : Slots) (table : Table W K) → table.entries.items ≡ [] → ((o : ℕ) → positions_of table.positions o ≡ []) → HasSlot slots table.slot section → StandsAt slots table
  stands_bare slots table none bare own =
      let rows : map row_of table.entries.items ≡ [] = ap (map row_of) none in
      record {
        low = subst (AllByRecursion (λ r. (section ≤ r.index) × (r.index < 2 ^ 64))) (sym rows) tt;
        positions = λ o. subst (ArePositions (map row_of table.entries.items) (section + o)) (sym (bare o))
            (subst (λ (rs : List (Row K)). ArePositions rs (section + o) []) (sym rows) (no_positions (section + o)));
        short = subst (λ (rs : List (Row K)). length rs ≤ 2 ^ 40) (sym rows) (omega arith);
        own = own;
      }

  -- as one of tables that are in order
  pub stands_in : (t : Tables W K) (P : ℕ → Type 0) (table : Table W K) → AreInOrder P t → get nat_cmp t.tables section ≡ Some table → StandsAt t.slots table
  stands_in t P table order there = record {
    low = subst (λ (o : Option (Table W K)). AllByRecursion (λ r. (section ≤ r.index) × (r.index < 2 ^ 64)) (rows_in o)) there (order.low section);
    positions = λ n. subst (λ (o : Option (Table W K)). ArePositions (rows_in o) (section + n) (positions_in o n)) there (order.positions section n);
    short = subst (λ (o : Option (Table W K)). length (rows_in o) ≤ 2 ^ 40) there (order.short section);
    own = order.own section table there;
  }

  -- A section's table has the rows that its table had, or it has none and there was no table.
  abbrev pub HasItsRows : Tables W K → Table W K → Type 0
  HasItsRows old table = ((was : Table W K) × (get nat_cmp old.tables section ≡ Some was) × KeepsTable was table)
      ⊎ ((get nat_cmp old.tables section ≡ None) × (table.entries.items ≡ []))

  -- The section has this table, and other sections have theirs.
  module _ (old new : Tables W K) (table : Table W K) (after : get nat_cmp new.tables section ≡ Some table) (others : (s : ℕ) → s ≢ section → get nat_cmp new.tables s ≡ get nat_cmp old.tables s) where
    at_each : (P : ℕ → Option (Table W K) → Type 0) → P section (Some table) → ((s : ℕ) → s ≢ section → P s (get nat_cmp old.tables s)) → (s : ℕ) → P s (get nat_cmp new.tables s)
    at_each P here = by_section section old.tables new.tables others P (subst (P section) (sym after) here)

    -- so the tables are in order, where other sections have the slots that they had
    module _ (P : ℕ → Type 0) (order : AreInOrder P old) (none_other : (s : ℕ) → s ≢ section → P s → ⊥) (slots : AreSlots new.slots)
        (theirs : (x s : ℕ) → s ≢ section → HasSlot old.slots x s → HasSlot new.slots x s) (used : AreUsed new.slots (btree_map_len new.tables)) where
      pub reserved_order : StandsAt new.slots table → AreInOrder (λ s. s ≡ section) new
      reserved_order stands = record {
        low = at_each (λ s o. AllByRecursion (λ r. (s ≤ r.index) × (r.index < 2 ^ 64)) (rows_in o)) stands.low (λ s other. order.low s);
        positions = λ s n. at_each (λ m o. ArePositions (rows_in o) (m + n) (positions_in o n)) (stands.positions n) (λ m other. order.positions m n) s;
        short = at_each (λ s o. length (rows_in o) ≤ 2 ^ 40) stands.short (λ s other. order.short s);
        slots = slots;
        own = λ s t there. at_each (λ n o. o ≡ Some t → HasSlot new.slots t.slot n)
            (λ same. (let one : table ≡ t = same_Some table t same in subst (λ (x : Table W K). HasSlot new.slots x.slot section) one stands.own))
            (λ n other found. theirs t.slot n other (order.own n t found)) s there;
        counted = used;
        filled = λ s t there none. at_each (λ n o. o ≡ Some t → (n ≡ section → ⊥) → t.entries.items ≢ [])
            (λ same not. absurd (not refl)) (λ n other found not. order.filled n t found (none_other n other)) s there none;
      }

    module _ (its : HasItsRows old table) where
      rows_here : rows_in (Some table) ≡ rows_of old section
      rows_here = elim its as (λ _. rows_in (Some table) ≡ rows_of old section) [
        | inl kept ↦ ap (map row_of) kept.2.entries ∙ sym (ap rows_in kept.1)
        | inr bare ↦ ap (map row_of) bare.1 ∙ sym (ap rows_in bare.0)
      ]

      -- each section has the rows that it had
      pub rows_stay : (s : ℕ) → rows_of new s ≡ rows_of old s
      rows_stay s = elim (cases_eq s section) as (λ _. rows_of new s ≡ rows_of old s) [
        | inl same ↦ subst (λ (n : ℕ). rows_of new n ≡ rows_of old n) (sym same) (ap rows_in after ∙ rows_here)
        | inr other ↦ ap rows_in (others s other)
      ]

      -- a table that there was is there, with its slot
      slot_after : (s : ℕ) (t : Table W K) → get nat_cmp old.tables s ≡ Some t → (u : Table W K) × (get nat_cmp new.tables s ≡ Some u) × (u.slot ≡ t.slot)
      slot_after s t there = elim (cases_eq s section) as (λ _. (u : Table W K) × (get nat_cmp new.tables s ≡ Some u) × (u.slot ≡ t.slot)) [
        | inl same ↦
            let here : get nat_cmp old.tables section ≡ Some t = subst (λ (n : ℕ). get nat_cmp old.tables n ≡ Some t) same there in (
              table,
              subst (λ (n : ℕ). get nat_cmp new.tables n ≡ Some table) (sym same) after,
              elim its as (λ _. table.slot ≡ t.slot) [
                | inl kept ↦ kept.2.slot ∙ ap (λ (u : Table W K). u.slot) (same_Some kept.0 t (sym kept.1 ∙ here))
                | inr bare ↦ absurd (none-some t (sym bare.0 ∙ here))
              ],
            )
        | inr other ↦ (t, others s other ∙ there, refl)
      ]

      -- and one with a row was there
      slot_before : (Q : Row K → Type 0) (s p : ℕ) (t : Table W K) → get nat_cmp new.tables s ≡ Some t → IsSomeAnd (slice_get (rows_of old s) p) Q
          → (u : Table W K) × (get nat_cmp old.tables s ≡ Some u) × (u.slot ≡ t.slot)
      slot_before Q s p t there at = elim (cases_eq s section) as (λ _. (u : Table W K) × (get nat_cmp old.tables s ≡ Some u) × (u.slot ≡ t.slot)) [
        | inl same ↦
            let one : table ≡ t = same_Some table t (sym after ∙ subst (λ (n : ℕ). get nat_cmp new.tables n ≡ Some t) same there) in
            elim its as (λ _. (u : Table W K) × (get nat_cmp old.tables s ≡ Some u) × (u.slot ≡ t.slot)) [
              | inl kept ↦ (
                kept.0,
                subst (λ (n : ℕ). get nat_cmp old.tables n ≡ Some kept.0) (sym same) kept.1,
                sym kept.2.slot ∙ ap (λ (u : Table W K). u.slot) one,
              )
              | inr bare ↦ absurd (subst (λ (rs : List (Row K)). IsSomeAnd (slice_get rs p) Q) (ap (rows_of old) same ∙ ap rows_in bare.0) at)
            ]
        | inr other ↦ (t, sym (others s other) ∙ there, refl)
      ]

      -- handles that stay name the rows that they named
      module _ (eq : W → W → Bool) (same : new.words ≡ old.words) (word_of : K → W) (had : HaveWords eq word_of old) where
        by_word : (w : W) → handles_of eq new.words w ≡ handles_of eq old.words w
        by_word w = ap (λ (ws : Words W). handles_of eq ws w) same

        abbrev HasWord : W → Row K → Type 0
        HasWord w r = IsTrue (eq w (word_of r.key))

        names_yet : (w : W) (h : Handle) → HasRowOf eq word_of old w h → HasRowOf eq word_of new w h
        names_yet w h (s, t, there, slot, at) = (let next = slot_after s t there in (
          s,
          next.0,
          next.1,
          next.2 ∙ slot,
          subst (λ (rs : List (Row K)). IsSomeAnd (slice_get rs (position_of h)) (HasWord w)) (sym (rows_stay s)) at,
        ))

        named : (w : W) (h : Handle) → HasRowOf eq word_of new w h → HasRowOf eq word_of old w h
        named w h (s, t, there, slot, at) =
            let was = subst (λ (rs : List (Row K)). IsSomeAnd (slice_get rs (position_of h)) (HasWord w)) (rows_stay s) at in
            let before = slot_before (HasWord w) s (position_of h) t there was in
            (s, before.0, before.1, before.2 ∙ slot, was)

        words_here : AllByRecursion (λ e. e.word ≡ word_of e.key.value) table.entries.items
        words_here = elim its as (λ _. AllByRecursion (λ e. e.word ≡ word_of e.key.value) table.entries.items) [
          | inl kept ↦ subst (AllByRecursion (λ e. e.word ≡ word_of e.key.value)) (sym kept.2.entries) (had.words section kept.0 kept.1)
          | inr bare ↦ subst (AllByRecursion (λ e. e.word ≡ word_of e.key.value)) (sym bare.1) tt
        ]

        pub reserved_words : HaveWords eq word_of new
        reserved_words = record {
          words = λ s t there. at_each (λ n found. found ≡ Some t → AllByRecursion (λ e. e.word ≡ word_of e.key.value) t.entries.items)
              (λ one. subst (λ (u : Table W K). AllByRecursion (λ e. e.word ≡ word_of e.key.value) u.entries.items) (same_Some table t one) words_here)
              (λ n other found. had.words n t found) s there;
          handles = λ w h. (
            λ has. names_yet w h ((had.handles w h).0 (subst (λ (hs : List Handle). Contains hs h) (by_word w) has)),
            λ names. subst (λ (hs : List Handle). Contains hs h) (sym (by_word w)) ((had.handles w h).1 (named w h names)),
          );
          once = subst (λ (ws : Words W). (w : W) → IsDistinct same_handle (handles_of eq ws w)) (sym same) had.once;
          listed = subst (λ (ws : Words W). (w : W) → (⊥ → ⊥) → IsSome (hash.get eq ws.handles w) → handles_of eq ws w ≢ []) (sym same) had.listed;
        }

-- ---- slots that are as they were

-- a slot was taken and given back
module _ (section x : ℕ) (old mid new : Slots) (took : HasTaken section x old mid) (gave : Frees x mid new) where
  pub given_back : (y s : ℕ) → HasSlot old y s → HasSlot new y s
  given_back y s has =
      let other : y ≢ x = λ same. took.unused s (subst (λ (z : ℕ). HasSlot old z s) same has) in
      (gave.others y s other).1 ((took.others y s other).1 has)

  pub as_many_used : (n : ℕ) → AreUsed old n → AreUsed new n
  as_many_used n used = gave.counted n (took.counted n used)

-- ---- how room is made in a table

module _ {W K : Type 0} (eq : W → W → Bool) (section offset : ℕ) (old new : Tables W K) where
  -- The table of the section was kept, and so were slots and handles.
  pub record IsKept (table kept : Table W K) : Type 0 where
    pub here : get nat_cmp old.tables section ≡ Some table
    pub after : get nat_cmp new.tables section ≡ Some kept
    pub others : (s : ℕ) → s ≢ section → get nat_cmp new.tables s ≡ get nat_cmp old.tables s
    pub count : btree_map_len new.tables ≡ btree_map_len old.tables
    pub keeps : KeepsTable table kept
    pub slots : new.slots ≡ old.slots
    pub words : new.words ≡ old.words

  -- No table was put, and each slot is whose it was.
  pub record IsNotPut : Type 0 where
    pub tables : (s : ℕ) → get nat_cmp new.tables s ≡ get nat_cmp old.tables s
    pub count : btree_map_len new.tables ≡ btree_map_len old.tables
    pub slots : AreSlots new.slots
    pub theirs : (x s : ℕ) → HasSlot old.slots x s → HasSlot new.slots x s
    pub counted : (n : ℕ) → AreUsed old.slots n → AreUsed new.slots n
    pub words : new.words ≡ old.words

  -- A table without records was put into the map.
  pub record IsPut (table : Table W K) : Type 0 where
    pub none : get nat_cmp old.tables section ≡ None
    pub after : get nat_cmp new.tables section ≡ Some table
    pub others : (s : ℕ) → s ≢ section → get nat_cmp new.tables s ≡ get nat_cmp old.tables s
    pub count : btree_map_len new.tables ≡ btree_map_len old.tables + 1
    pub fresh : IsFresh offset table
    pub slots : HasTaken section table.slot old.slots new.slots
    pub words : new.words ≡ old.words

  module _ (order : AreInOrder (λ _. ⊥) old) where
    module _ (room : HasRoom (2 ^ 24) (2 ^ 40) (rows_of old) section) (table kept : Table W K) (is : IsKept table kept) where
      its_rows : HasItsRows section old kept
      its_rows = inl (table, is.here, is.keeps)

      kept_order : AreInOrder (λ s. s ≡ section) new
      kept_order = reserved_order section old new kept is.after is.others (λ _. ⊥) order (λ s other never. never)
          (subst AreSlots (sym is.slots) order.slots)
          (λ x s other has. subst (λ (y : Slots). HasSlot y x s) (sym is.slots) has)
          (subst (λ (n : ℕ). AreUsed new.slots n) (sym is.count) (subst (λ (y : Slots). AreUsed y (btree_map_len old.tables)) (sym is.slots) order.counted))
          (stands_kept section new.slots table kept is.keeps
          (subst (λ (y : Slots). StandsAt section y table) (sym is.slots) (stands_in section old (λ _. ⊥) table order is.here)))

      kept_short : length kept.entries.items < 2 ^ 40
      kept_short = omega (arith, short_table old order (2 ^ 24) section room table is.here, ap (λ (xs : List (Entry W K)). length xs) is.keeps.entries)

      kept_ends : {E : Type 0} (result : Result Unit E) → OnOk result (HasTableRoom offset kept) → TableEnds eq section offset old result new
      kept_ends (Err e) has = record { order = kept_order; words = reserved_words section old new kept is.after is.others its_rows eq is.words }
      kept_ends (Ok u) has = record {
        order = kept_order;
        table = subst (λ (o : Option (Table W K)). IsSomeAnd o (λ t. HasTableRoom offset t × (length t.entries.items < 2 ^ 40))) (sym is.after) (has, kept_short);
        words = reserved_words section old new kept is.after is.others its_rows eq is.words;
      }

      -- its rows stay, and where memory was there it has room
      pub kept_table : {E : Type 0} (result : Result Unit E) → OnOk result (HasTableRoom offset kept) → ReservesTable eq section offset old result new
      kept_table result has = record { same = rows_stay section old new kept is.after is.others its_rows; ends = kept_ends result has }

    -- no table was put, and slots are those that they were
    module _ (is : IsNotPut) where
      not_put_order : AreInOrder (λ s. s ≡ section) new
      not_put_order = record {
        low = λ s. subst (λ (o : Option (Table W K)). AllByRecursion (λ r. (s ≤ r.index) × (r.index < 2 ^ 64)) (rows_in o)) (sym (is.tables s)) (order.low s);
        positions = λ s n. subst (λ (o : Option (Table W K)). ArePositions (rows_in o) (s + n) (positions_in o n)) (sym (is.tables s)) (order.positions s n);
        short = λ s. subst (λ (o : Option (Table W K)). length (rows_in o) ≤ 2 ^ 40) (sym (is.tables s)) (order.short s);
        slots = is.slots;
        own = λ s t there. is.theirs t.slot s (order.own s t (sym (is.tables s) ∙ there));
        counted = subst (AreUsed new.slots) (sym is.count) (is.counted (btree_map_len old.tables) order.counted);
        filled = λ s t there none. order.filled s t (sym (is.tables s) ∙ there) (λ never. never);
      }

      not_put_words : (word_of : K → W) → HaveWords eq word_of old → HaveWords eq word_of new
      not_put_words word_of had = record {
        words = λ s t there. had.words s t (sym (is.tables s) ∙ there);
        handles = λ w h. (
          λ has. (let names = (had.handles w h).0 (subst (λ (hs : List Handle). Contains hs h) (ap (λ (ws : Words W). handles_of eq ws w) is.words) has) in (
            names.0,
            names.1,
            is.tables names.0 ∙ names.2,
            names.3,
            subst (λ (rs : List (Row K)). IsSomeAnd (slice_get rs (position_of h)) (λ r. IsTrue (eq w (word_of r.key)))) (sym (ap rows_in (is.tables names.0))) names.4,
          )),
          λ names. subst (λ (hs : List Handle). Contains hs h) (sym (ap (λ (ws : Words W). handles_of eq ws w) is.words)) ((had.handles w h).1 (
            names.0,
            names.1,
            sym (is.tables names.0) ∙ names.2,
            names.3,
            subst (λ (rs : List (Row K)). IsSomeAnd (slice_get rs (position_of h)) (λ r. IsTrue (eq w (word_of r.key)))) (ap rows_in (is.tables names.0)) names.4,
          )),
        );
        once = subst (λ (ws : Words W). (w : W) → IsDistinct same_handle (handles_of eq ws w)) (sym is.words) had.once;
        listed = subst (λ (ws : Words W). (w : W) → (⊥ → ⊥) → IsSome (hash.get eq ws.handles w) → handles_of eq ws w ≢ []) (sym is.words) had.listed;
      }

      pub not_put : {E : Type 0} (e : E) → ReservesTable eq section offset {E = E} old (Err e) new
      not_put e = record { same = λ s. ap rows_in (is.tables s); ends = record { order = not_put_order; words = not_put_words } }

      pub not_put_as : {E : Type 0} (result : Result Unit E) (P : E → Type 0) → IsErrAnd result P → ReservesTable eq section offset old result new
      not_put_as (Ok u) P is_err = absurd is_err
      not_put_as (Err e) P is_err = not_put e

    module _ (table : Table W K) (is : IsPut table) where
      bare_rows : HasItsRows section old table
      bare_rows = inr (is.none, is.fresh.entries)

      theirs : (x s : ℕ) → s ≢ section → HasSlot old.slots x s → HasSlot new.slots x s
      theirs x s other has = (is.slots.others x s (λ same. is.slots.unused s (subst (λ (y : ℕ). HasSlot old.slots y s) same has))).1 has

      -- the section had no rows, and has none
      pub put_table : {E : Type 0} → ReservesTable eq section offset {E = E} old (Ok tt) new
      put_table = record {
        same = rows_stay section old new table is.after is.others bare_rows;
        ends = record {
          order = reserved_order section old new table is.after is.others (λ _. ⊥) order (λ s other never. never) is.slots.slots theirs
              (subst (AreUsed new.slots) (sym is.count) (is.slots.counted (btree_map_len old.tables) order.counted))
              (stands_bare section new.slots table is.fresh.entries is.fresh.positions is.slots.taken);
          table = subst (λ (o : Option (Table W K)). IsSomeAnd o (λ t. HasTableRoom offset t × (length t.entries.items < 2 ^ 40))) (sym is.after)
              (is.fresh.room, omega (arith, ap length is.fresh.entries));
          words = reserved_words section old new table is.after is.others bare_rows eq is.words;
        };
      }

-- ---- how room is made for a record

-- where no word without a handle has a list, none has but those that are named
but_perhaps : {W K : Type 0} (Q : W → Type 0) (eq : W → W → Bool) (word_of : K → W) (t : Tables W K) → HaveWords eq word_of t → HaveWordsBut eq word_of Q t
but_perhaps Q eq word_of t had = record { words = had.words; handles = had.handles; once = had.once; listed = λ w not. had.listed w (λ never. never) }

module _ {W K : Type 0} (eq : W → W → Bool) (section index : ℕ) (word : W) where
  -- memory was short for the table
  pub not_reserved : {E F : Type 0} (old new : Tables W K) (e : E) (result : Result Unit F) (P : F → Type 0) → IsErrAnd result P → ReservesTable eq section (index - section) old (Err e) new
      → Reserves eq section index word old result new
  not_reserved old new e (Ok u) P is made = absurd is
  not_reserved old new e (Err f) P is made = record {
    same = made.same;
    ends = record { order = made.ends.order; words = λ word_of had. but_perhaps (λ w. IsTrue (eq word w)) eq word_of new (made.ends.words word_of had) };
  }

  -- The table has room, and handles are other ones in memory alone.
  module _ {E : Type 0} (old mid : Tables W K) (made : ReservesTable eq section (index - section) {E = E} old (Ok tt) mid) (words : Words W)
      (same : (w : W) → handles_of eq words w ≡ handles_of eq mid.words w) (others : (w : W) → eq word w ≡ false → hash.get eq words.handles w ≡ hash.get eq mid.words.handles w) where
    abbrev new : Tables W K
    new = record mid { words = words }

    listed_yet : (word_of : K → W) → HaveWords eq word_of mid → (w : W) (b : Bool) → eq word w ≡ b → (IsTrue (eq word w) → ⊥) → IsSome (hash.get eq words.handles w) → handles_of eq words w ≢ []
    listed_yet word_of had w true is not some = absurd (not is)
    listed_yet word_of had w false is not some = λ none. had.listed w (λ never. never) (sym (ap is_some (others w is)) ∙ some) (sym (same w) ∙ none)

    words_yet : (word_of : K → W) → HaveWords eq word_of mid → HaveWordsBut eq word_of (λ w. IsTrue (eq word w)) new
    words_yet word_of had = record {
      words = had.words;
      handles = λ w h. (
        λ has. (had.handles w h).0 (subst (λ (hs : List Handle). Contains hs h) (same w) has),
        λ names. subst (λ (hs : List Handle). Contains hs h) (sym (same w)) ((had.handles w h).1 names),
      );
      once = λ w. subst (IsDistinct same_handle) (sym (same w)) (had.once w);
      listed = λ w. listed_yet word_of had w (eq word w) refl;
    }

    order_yet : AreInOrder (λ s. s ≡ section) mid → AreInOrder (λ s. s ≡ section) new
    order_yet order = record {
      low = order.low;
      positions = order.positions;
      short = order.short;
      slots = order.slots;
      own = order.own;
      counted = order.counted;
      filled = order.filled;
    }

    word_ends : {F : Type 0} (result : Result Unit F) → OnOk result (HasWordRoom eq words word) → ReserveEnds eq section index word old result new
    word_ends (Err e) has = record {
      order = order_yet made.ends.order;
      words = λ word_of had. words_yet word_of (made.ends.words word_of had);
    }
    word_ends (Ok u) has = record {
      order = order_yet made.ends.order;
      spare = record { table = made.ends.table; handle = has };
      words = λ word_of had. words_yet word_of (made.ends.words word_of had);
    }

    -- so there is room for the record, or memory was short for its handle
    pub reserved : {F : Type 0} (result : Result Unit F) → OnOk result (HasWordRoom eq words word) → Reserves eq section index word old result new
    reserved result has = record { same = made.same; ends = word_ends result has }
