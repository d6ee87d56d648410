-- What a table with one record more shows, and that the tables are still in order.
use Rattle.std.proofs.Common.{◌≡◌, ◌≢◌, ◌↔◌, ◌⊎◌, inl, inr, refl, sym, ◌∙◌, ap, ap₂, subst, ℕ, ◌+◌, ◌-◌, ◌<◌, ◌≤◌, ◌^◌, Bool, true, false, List, [], ◌∷◌, ◌++◌, map, length, slice_get, Contains, Option, Some, is_some, IsSome, IsSomeAnd, IsTrue, arith}
use Rattle.std.specs.BTreeMap.{btree_map_len, get}
use Rattle.std.specs.HashMap as hash
use Rattle.std.specs.List.{AllByRecursion, IsDistinct}
use Rattle.std.specs.Ordering.{nat_cmp}
use Rattle.std.proofs.lemmas.Bool.{cases_eq, false≢true}
use Rattle.std.proofs.lemmas.List.{length-map, length_push, map-append}
use Rattle.std.proofs.lemmas.List.Elements.{Contains-append_left, Contains-push, Contains-push_cases}
use Rattle.std.proofs.lemmas.Option.{same_Some}
use Rattle.record_tables.specs.Handles.{IsHandleOf, position_of, same_handle, slot_of}
use Rattle.record_tables.specs.Positions.{AddsPosition, positions_of}
use Rattle.record_tables.specs.Rows.{ArePositions, Row}
use Rattle.record_tables.specs.Slots.{AreSlots, AreUsed, HasSlot}
use Rattle.record_tables.specs.Tables.{AreInOrder, HasRowOf, HasSpare, HasTableRoom, HaveWordsBut, HaveWords, Pushes, positions_in, row_of, rows_in, rows_of}
use Rattle.record_tables.specs.Words.{AddsHandle, handles_in, handles_of}
use Rattle.record_tables.specs.declared.handle.Handle.{Handle}
use Rattle.record_tables.specs.declared.slots.Slots.{Slots}
use Rattle.record_tables.specs.declared.tables.Entry.{Entry}
use Rattle.record_tables.specs.declared.tables.Table.{Table}
use Rattle.record_tables.specs.declared.tables.Tables.{Tables}
use Rattle.record_tables.proofs.HandleLemmas.{one_handle, one_more}
use Rattle.record_tables.proofs.PositionLemmas.{at_cases, at_last, at_old, at_within, no_position_more, one_position_more}
use Rattle.record_tables.proofs.RoomLemmas.{by_section, rows_some}

-- what holds of each element and of one more holds of all
all_push : {X : Type 0} (P : X → Type 0) (xs : List X) (x : X) → AllByRecursion P xs → P x → AllByRecursion P (xs ++ x ∷ [])
all_push P [] x each one = (one, tt)
all_push P (y ∷ ys) x each one = (each.0, all_push P ys x each.1 one)

not_empty : {X : Type 0} (xs : List X) (x : X) → xs ++ x ∷ [] ≢ []
not_empty [] x is = cc
not_empty (y ∷ ys) x is = cc

-- where there is room for a record, the section's table has it
pub spare_at : {W K : Type 0} (eq : W → W → Bool) (section index : ℕ) (word : W) (t : Tables W K) (table : Table W K) → HasSpare eq section index word t → get nat_cmp t.tables section ≡ Some table
    → HasTableRoom (index - section) table × (length table.entries.items < 2 ^ 40)
spare_at {W} {K} eq section index word t table spare there =
    subst (λ (o : Option (Table W K)). IsSomeAnd o (λ u. HasTableRoom (index - section) u × (length u.entries.items < 2 ^ 40))) there spare.table

-- A record was added to the table of a section.
pub record IsGrown {W K : Type 0} (section index : ℕ) (word : W) (key : K) (old new : Tables W K) (table grown : Table W K) (entry : Entry W K) : Type 0 where
  pub low : section ≤ index
  pub fits : index < 2 ^ 64
  pub here : get nat_cmp old.tables section ≡ Some table
  pub after : get nat_cmp new.tables section ≡ Some grown
  pub others : (s : ℕ) → s ≢ section → get nat_cmp new.tables s ≡ get nat_cmp old.tables s
  pub count : btree_map_len new.tables ≡ btree_map_len old.tables
  pub slot : grown.slot ≡ table.slot
  pub entries : grown.entries.items ≡ table.entries.items ++ entry ∷ []
  pub its_word : entry.word ≡ word
  pub its_index : entry.index.value ≡ index
  pub its_key : entry.key.value ≡ key
  pub positions : AddsPosition (index - section) (length table.entries.items) table.positions grown.positions
  pub slots : new.slots ≡ old.slots

module _ {W K : Type 0} (section index : ℕ) (word : W) (key : K) (old new : Tables W K) (table grown : Table W K) (entry : Entry W K)
    (is : IsGrown section index word key old new table grown entry) where
  abbrev row : Row K
  row = record { index = index; key = key }

  shows : row_of entry ≡ row
  shows = ap₂ (λ (i : ℕ) (k : K). record { index = i; key = k }) is.its_index is.its_key

  rows_here : rows_of old section ≡ map row_of table.entries.items
  rows_here = rows_some old section table is.here

  -- the record's row goes last in its section
  pub added : rows_of new section ≡ rows_of old section ++ row ∷ []
  added = rows_some new section grown is.after ∙ ap (map row_of) is.entries ∙ map-append row_of table.entries.items (entry ∷ [])
      ∙ ap₂ (λ (rs : List (Row K)) (r : Row K). rs ++ r ∷ []) (sym rows_here) shows

  -- and other sections keep theirs
  pub others_stay : (s : ℕ) → s ≢ section → rows_of new s ≡ rows_of old s
  others_stay s other = ap rows_in (is.others s other)

  as_many : length (rows_of old section) ≡ length table.entries.items
  as_many = ap length rows_here ∙ length-map table.entries.items row_of

  -- of each section, by cases: what holds of the grown one, and what held before of others
  at_each : (P : ℕ → List (Row K) → Option (Table W K) → Type 0) → P section (rows_of old section ++ row ∷ []) (Some grown)
      → ((s : ℕ) → s ≢ section → P s (rows_of old s) (get nat_cmp old.tables s)) → (s : ℕ) → P s (rows_of new s) (get nat_cmp new.tables s)
  at_each P grew = by_section section old.tables new.tables is.others (λ s o. P s (rows_in o) o)
      (subst (λ (o : Option (Table W K)). P section (rows_of new section) o) (sym is.after) (subst (λ (rs : List (Row K)). P section rs (Some grown)) (sym added) grew))

  -- the positions of the new row's offset are one more, and others stay
  grown_positions : AreInOrder (λ s. s ≡ section) old → (o : ℕ) → ArePositions (rows_of old section ++ row ∷ []) (section + o) (positions_of grown.positions o)
  grown_positions order o = elim (cases_eq o (index - section)) as (λ _. ArePositions (rows_of old section ++ row ∷ []) (section + o) (positions_of grown.positions o)) [
    | inl same ↦
        let at : index ≡ section + o = omega (arith, same, is.low) in
        subst (λ (ps : List ℕ). ArePositions (rows_of old section ++ row ∷ []) (section + o) ps)
        (ap (λ (n : ℕ). positions_of table.positions o ++ n ∷ []) as_many ∙ sym (subst (λ (n : ℕ). positions_of grown.positions n ≡ positions_of table.positions n ++ length table.entries.items ∷ []) (sym same) is.positions.here))
        (one_position_more (rows_of old section) row (section + o) (positions_of table.positions o) (were o) at)
    | inr other ↦
        subst (λ (ps : List ℕ). ArePositions (rows_of old section ++ row ∷ []) (section + o) ps) (sym (is.positions.others o other))
        (no_position_more (rows_of old section) row (section + o) (positions_of table.positions o) (were o) (λ at. other (omega (arith, at))))
  ]
    where
      were : (n : ℕ) → ArePositions (rows_of old section) (section + n) (positions_of table.positions n)
      were n = subst (λ (t : Option (Table W K)). ArePositions (rows_of old section) (section + n) (positions_in t n)) is.here (order.positions section n)

  -- so the tables are in order, and none is empty
  pub grown_order : AreInOrder (λ s. s ≡ section) old → length table.entries.items < 2 ^ 40 → AreInOrder (λ _. ⊥) new
  grown_order order short = record {
    low = at_each (λ s rows t. AllByRecursion (λ r. (s ≤ r.index) × (r.index < 2 ^ 64)) rows) (all_push (λ r. (section ≤ r.index) × (r.index < 2 ^ 64)) (rows_of old section) row (order.low section) (is.low, is.fits)) (λ s other. order.low s);
    positions = λ s o. at_each (λ n rows t. ArePositions rows (n + o) (positions_in t o)) (grown_positions order o) (λ n other. order.positions n o) s;
    short = at_each (λ s rows t. length rows ≤ 2 ^ 40) (omega (arith, length_push (rows_of old section) row, as_many, short)) (λ s other. order.short s);
    slots = subst AreSlots (sym is.slots) order.slots;
    own = λ s t there. subst (λ (x : Slots). HasSlot x t.slot s) (sym is.slots)
        (at_each (λ n rows found. found ≡ Some t → HasSlot old.slots t.slot n)
        (λ same. let one : grown ≡ t = same_Some grown t same in subst (λ (x : ℕ). HasSlot old.slots x section) (sym is.slot ∙ ap (λ (g : Table W K). g.slot) one) (order.own section table is.here))
        (λ n other found. order.own n t found) s there);
    counted = subst (λ (n : ℕ). AreUsed new.slots n) (sym is.count) (subst (λ (x : Slots). AreUsed x (btree_map_len old.tables)) (sym is.slots) order.counted);
    filled = λ s t there none. at_each (λ n rows found. found ≡ Some t → t.entries.items ≢ [])
        (λ same. let one : grown ≡ t = same_Some grown t same in subst (λ (g : Table W K). g.entries.items ≢ []) one (λ empty. not_empty table.entries.items entry (sym is.entries ∙ empty)))
        (λ n other found. order.filled n t found other) s there;
  }

  -- ---- by words

  module _ (eq : W → W → Bool) (symm : (x y : W) → IsTrue (eq x y) → IsTrue (eq y x)) (word_of : K → W) (its : word_of key ≡ word) (had : HaveWordsBut eq word_of (λ w. IsTrue (eq word w)) old) (order : AreInOrder (λ s. s ≡ section) old) (h : Handle)
      (named : IsHandleOf table.slot (length table.entries.items) h) (adds : AddsHandle eq word h old.words new.words) where
    -- a handle that named a row names it still
    row_stays : (w : W) (k : Handle) → HasRowOf eq word_of old w k → HasRowOf eq word_of new w k
    row_stays w k (s, t, there, slot, at) = elim (cases_eq s section) as (λ _. HasRowOf eq word_of new w k) [
      | inl same ↦
          let one : t ≡ table = same_Some t table (sym there ∙ ap (λ (n : ℕ). get nat_cmp old.tables n) same ∙ is.here) in (
            section,
            grown,
            is.after,
            is.slot ∙ ap (λ (g : Table W K). g.slot) (sym one) ∙ slot,
            subst (λ (rs : List (Row K)). IsSomeAnd (slice_get rs (position_of k)) (λ r. IsTrue (eq w (word_of r.key)))) (sym added)
                (at_old (λ r. IsTrue (eq w (word_of r.key))) (rows_of old section) row (position_of k)
                (subst (λ (n : ℕ). IsSomeAnd (slice_get (rows_of old n) (position_of k)) (λ r. IsTrue (eq w (word_of r.key)))) same at)),
          )
      | inr other ↦ (
        s,
        t,
        is.others s other ∙ there,
        slot,
        subst (λ (rs : List (Row K)). IsSomeAnd (slice_get rs (position_of k)) (λ r. IsTrue (eq w (word_of r.key)))) (sym (others_stay s other)) at,
      )
    ]

    -- the new handle names the new row
    row_new : (w : W) → IsTrue (eq w word) → HasRowOf eq word_of new w h
    row_new w equal = (
      section,
      grown,
      is.after,
      is.slot ∙ sym named.its_slot,
      subst (λ (rs : List (Row K)). IsSomeAnd (slice_get rs (position_of h)) (λ r. IsTrue (eq w (word_of r.key)))) (sym added)
          (subst (λ (n : ℕ). IsSomeAnd (slice_get (rows_of old section ++ row ∷ []) n) (λ r. IsTrue (eq w (word_of r.key)))) (as_many ∙ sym named.its_position)
          (at_last (λ r. IsTrue (eq w (word_of r.key))) (rows_of old section) row (subst (λ (v : W). IsTrue (eq w v)) (sym its) equal))),
    )

    -- a handle that names a row now did so before, or is the new one
    row_was : (w : W) (k : Handle) → HasRowOf eq word_of new w k → HasRowOf eq word_of old w k ⊎ ((h ≡ k) × IsTrue (eq w word))
    row_was w k (s, t, there, slot, at) = elim (cases_eq s section) as (λ _. HasRowOf eq word_of old w k ⊎ ((h ≡ k) × IsTrue (eq w word))) [
      | inl same ↦
          let one : t ≡ grown = same_Some t grown (sym there ∙ ap (λ (n : ℕ). get nat_cmp new.tables n) same ∙ is.after) in
          let its_slot : table.slot ≡ slot_of k = sym is.slot ∙ ap (λ (g : Table W K). g.slot) (sym one) ∙ slot in
          let here = subst (λ (rs : List (Row K)). IsSomeAnd (slice_get rs (position_of k)) (λ r. IsTrue (eq w (word_of r.key)))) (ap (rows_of new) same ∙ added) at in
          elim (at_cases (λ r. IsTrue (eq w (word_of r.key))) (rows_of old section) row (position_of k) here) as (λ _. HasRowOf eq word_of old w k ⊎ ((h ≡ k) × IsTrue (eq w word))) [
            | inl was ↦ inl (section, table, is.here, its_slot, was)
            | inr last ↦ inr (one_handle h k (named.its_slot ∙ its_slot) (named.its_position ∙ sym as_many ∙ sym last.0), subst (λ (v : W). IsTrue (eq w v)) its last.1)
          ]
      | inr other ↦ inl (
        s,
        t,
        sym (is.others s other) ∙ there,
        slot,
        subst (λ (rs : List (Row K)). IsSomeAnd (slice_get rs (position_of k)) (λ r. IsTrue (eq w (word_of r.key)))) (others_stay s other) at,
      )
    ]

    -- of each word the handles are those of the rows, with the new one where it has the word
    grown_handles : (w : W) (k : Handle) (b : Bool) → eq word w ≡ b → Contains (handles_of eq new.words w) k ↔ HasRowOf eq word_of new w k
    grown_handles w k true equal = (
      λ has. elim (Contains-push_cases (handles_of eq old.words w) h k (subst (λ (hs : List Handle). Contains hs k) (adds.here w equal) has)) as (λ _. HasRowOf eq word_of new w k) [
        | inl was ↦ row_stays w k ((had.handles w k).0 was)
        | inr new_one ↦ subst (HasRowOf eq word_of new w) new_one (row_new w (symm word w equal))
      ],
      λ names. subst (λ (hs : List Handle). Contains hs k) (sym (adds.here w equal)) (elim (row_was w k names) as (λ _. Contains (handles_of eq old.words w ++ h ∷ []) k) [
        | inl was ↦ Contains-append_left (handles_of eq old.words w) (h ∷ []) k ((had.handles w k).1 was)
        | inr last ↦ subst (Contains (handles_of eq old.words w ++ h ∷ [])) last.0 (Contains-push (handles_of eq old.words w) h)
      ]),
    )
    grown_handles w k false other = (
      λ has. row_stays w k ((had.handles w k).0 (subst (λ (hs : List Handle). Contains hs k) (ap handles_in (adds.others w other)) has)),
      λ names. subst (λ (hs : List Handle). Contains hs k) (sym (ap handles_in (adds.others w other))) (elim (row_was w k names) as (λ _. Contains (handles_of eq old.words w) k) [
        | inl was ↦ (had.handles w k).1 was
        | inr last ↦ absurd (false≢true (sym other ∙ symm w word last.1))
      ]),
    )

    -- the new handle named no row
    new_yet : (w : W) → HasRowOf eq word_of old w h → ⊥
    new_yet w (s, t, there, slot, at) =
        let its_slot : table.slot ≡ t.slot = sym named.its_slot ∙ sym slot in
        let same : section ≡ s = same_Some section s (sym (order.own section table is.here).named ∙ ap (slice_get old.slots.sections.items) its_slot ∙ (order.own s t there).named) in
        let within = at_within (λ r. IsTrue (eq w (word_of r.key))) (rows_of old section) (position_of h) (subst (λ (n : ℕ). IsSomeAnd (slice_get (rows_of old n) (position_of h)) (λ r. IsTrue (eq w (word_of r.key)))) (sym same) at) in
        omega (arith, within, as_many, named.its_position)

    -- so each stands there once
    once_more : (w : W) (b : Bool) → eq word w ≡ b → IsDistinct same_handle (handles_of eq new.words w)
    once_more w true equal = subst (IsDistinct same_handle) (sym (adds.here w equal)) (one_more (handles_of eq old.words w) h (had.once w) (λ has. new_yet w ((had.handles w h).0 has)))
    once_more w false other = subst (IsDistinct same_handle) (sym (ap handles_in (adds.others w other))) (had.once w)

    -- and a word with a list has a handle
    listed_more : (w : W) (b : Bool) → eq word w ≡ b → IsSome (hash.get eq new.words.handles w) → handles_of eq new.words w ≢ []
    listed_more w true equal some none = not_empty (handles_of eq old.words w) h (sym (adds.here w equal) ∙ none)
    listed_more w false other some none =
        let same = adds.others w other in
        had.listed w (λ equal. false≢true (sym other ∙ equal)) (sym (ap is_some same) ∙ some) (sym (ap handles_in same) ∙ none)

    -- so lookups by key find the record
    pub grown_words : HaveWords eq word_of new
    grown_words = record {
      words = λ s t there. at_each (λ n rows found. found ≡ Some t → AllByRecursion (λ e. e.word ≡ word_of e.key.value) t.entries.items)
          (λ same. let one : grown ≡ t = same_Some grown t same in
          subst (λ (g : Table W K). AllByRecursion (λ e. e.word ≡ word_of e.key.value) g.entries.items) one
          (subst (AllByRecursion (λ e. e.word ≡ word_of e.key.value)) (sym is.entries)
          (all_push (λ e. e.word ≡ word_of e.key.value) table.entries.items entry (had.words section table is.here) (is.its_word ∙ sym its ∙ ap word_of (sym is.its_key)))))
          (λ n other found. had.words n t found) s there;
      handles = λ w k. grown_handles w k (eq word w) refl;
      once = λ w. once_more w (eq word w) refl;
      listed = λ w not. listed_more w (eq word w) refl;
    }

  -- the record was added
  pub pushed : (eq : W → W → Bool) → ((x y : W) → IsTrue (eq x y) → IsTrue (eq y x)) → AreInOrder (λ s. s ≡ section) old → length table.entries.items < 2 ^ 40
      → (p : ℕ) (h : Handle) → p ≡ length table.entries.items → IsHandleOf grown.slot p h → AddsHandle eq word h old.words new.words → Pushes eq section index word key old new
  pushed eq symm order short p h last named adds =
      let its_name : IsHandleOf table.slot (length table.entries.items) h = subst (λ (x : ℕ). IsHandleOf x (length table.entries.items) h) is.slot
      (subst (λ (n : ℕ). IsHandleOf grown.slot n h) last named) in
      record {
        added = added;
        others = others_stay;
        order = grown_order order short;
        words = λ word_of its had. grown_words eq symm word_of its had order h its_name adds;
      }
