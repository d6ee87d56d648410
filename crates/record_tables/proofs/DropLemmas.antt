-- What is left once the records of a section are forgotten.
use Rattle.std.proofs.Common.{◌≡◌, ◌≢◌, inl, inr, refl, sym, ◌∙◌, ap, subst, ℕ, zero, suc, ◌+◌, ◌<◌, ◌≤◌, ◌^◌, Bool, true, false, ◌||◌, not, nat_eq, List, [], ◌∷◌, ◌++◌, map, length, get_or, slice_get, take, Contains, Option, None, Some, is_some, IsSome, IsSomeAnd, IsTrue, arith}
use Rattle.std.specs.BTreeMap.{btree_map_len, get}
use Rattle.std.specs.HashMap as hash
use Rattle.std.specs.List.{AllByRecursion, IsDistinct}
use Rattle.std.specs.Ordering.{nat_cmp}
use Rattle.std.proofs.lemmas.Bool.{cases_eq, eq-eqb, false≢true, ne_eqb}
use Rattle.std.proofs.lemmas.List.{take_all, take_more}
use Rattle.std.proofs.lemmas.Option.{none-some, same_Some}
use Rattle.record_tables.specs.Handles.{position_of, same_handle, slot_of}
use Rattle.record_tables.specs.Rows.{ArePositions, Row}
use Rattle.record_tables.specs.Slots.{AreUsed, Frees, HasSlot}
use Rattle.record_tables.specs.Tables.{AreInOrder, Drops, HasRowOf, HaveWords, has_word, positions_in, row_of, rows_in, rows_of}
use Rattle.record_tables.specs.Words.{RemovesSlot, handles_in, handles_of}
use Rattle.record_tables.specs.declared.handle.Handle.{Handle}
use Rattle.record_tables.specs.declared.tables.Entry.{Entry}
use Rattle.record_tables.specs.declared.tables.Table.{Table}
use Rattle.record_tables.specs.declared.tables.Tables.{Tables}
use Rattle.record_tables.specs.declared.words.Words.{Words}
use Rattle.record_tables.proofs.PositionLemmas.{no_positions}
use Rattle.record_tables.proofs.RoomLemmas.{by_section, rows_none, rows_some}
use Rattle.record_tables.proofs.WordLemmas.{any_push, apart_filter, both_removed, in_filter, or_true}

-- ---- the handles

module _ {W K : Type 0} (eq : W → W → Bool) (x : ℕ) (init : Words W) where
  -- the entries so far, and the next
  pub turn_forgotten : (es : List (Entry W K)) (at : ℕ) (e : Entry W K) (mid new : Words W) → at < length es → e ≡ get_or es at e → RemovesSlot eq (has_word eq (take at es)) x init mid
      → RemovesSlot eq (eq e.word) x mid new → RemovesSlot eq (has_word eq (take (at + 1) es)) x init new
  turn_forgotten es at e mid new lt is so_far removes =
      subst (λ (xs : List (Entry W K)). RemovesSlot eq (has_word eq xs) x init new) (ap (λ (d : Entry W K). take at es ++ d ∷ []) is ∙ sym (take_more es at e lt))
      (subst (λ (has : W → Bool). RemovesSlot eq has x init new) (λ i w. sym (any_push (λ (d : Entry W K). eq d.word w) (take at es) e) i)
      (both_removed eq x (has_word eq (take at es)) (eq e.word) init mid new so_far removes))

  pub all_forgotten : (es : List (Entry W K)) (at : ℕ) (new : Words W) → length es ≤ at → RemovesSlot eq (has_word eq (take at es)) x init new → RemovesSlot eq (has_word eq es) x init new
  all_forgotten es at new past so_far = subst (λ (xs : List (Entry W K)). RemovesSlot eq (has_word eq xs) x init new) (take_all at es past) so_far

-- ---- the tables

-- The table of a section was taken out.
pub record IsRemoved {W K : Type 0} (section : ℕ) (old new : Tables W K) (table : Table W K) : Type 0 where
  pub here : get nat_cmp old.tables section ≡ Some table
  pub gone : get nat_cmp new.tables section ≡ None
  pub others : (s : ℕ) → s ≢ section → get nat_cmp new.tables s ≡ get nat_cmp old.tables s
  pub count : btree_map_len new.tables + 1 ≡ btree_map_len old.tables
  pub slots : Frees table.slot old.slots new.slots

module _ {W K : Type 0} (section : ℕ) (old new : Tables W K) (table : Table W K) (is : IsRemoved section old new table) where
  no_rows : rows_of new section ≡ []
  no_rows = rows_none new section is.gone

  others_stay : (s : ℕ) → s ≢ section → rows_of new s ≡ rows_of old s
  others_stay s other = ap rows_in (is.others s other)

  at_each : (P : ℕ → List (Row K) → Option (Table W K) → Type 0) → P section [] None
      → ((s : ℕ) → s ≢ section → P s (rows_of old s) (get nat_cmp old.tables s)) → (s : ℕ) → P s (rows_of new s) (get nat_cmp new.tables s)
  at_each P bare = by_section section old.tables new.tables is.others (λ s o. P s (rows_in o) o)
      (subst (λ (o : Option (Table W K)). P section (rows_in o) o) (sym is.gone) bare)

  module _ (order : AreInOrder (λ _. ⊥) old) where
    -- a section with the slot of the table is its own
    one_section : (s : ℕ) (t : Table W K) → get nat_cmp old.tables s ≡ Some t → t.slot ≡ table.slot → s ≡ section
    one_section s t there same = same_Some s section (sym (order.own s t there).named ∙ ap (λ (n : ℕ). slice_get old.slots.sections.items n) same ∙ (order.own section table is.here).named)

    pub removed_order : AreInOrder (λ _. ⊥) new
    removed_order = record {
      low = at_each (λ s rows t. AllByRecursion (λ r. (s ≤ r.index) × (r.index < 2 ^ 64)) rows) tt (λ s other. order.low s);
      positions = λ s o. at_each (λ n rows t. ArePositions rows (n + o) (positions_in t o)) (no_positions (section + o)) (λ n other. order.positions n o) s;
      short = at_each (λ s rows t. length rows ≤ 2 ^ 40) (omega arith) (λ s other. order.short s);
      slots = is.slots.slots;
      own = λ s t there. at_each (λ n rows found. found ≡ Some t → HasSlot new.slots t.slot n) (λ none. cc)
          (λ n other found. (is.slots.others t.slot n (λ same. other (one_section n t found same))).1 (order.own n t found)) s there;
      counted = is.slots.counted (btree_map_len new.tables) (subst (AreUsed old.slots) (sym is.count) order.counted);
      filled = λ s t there none. at_each (λ n rows found. found ≡ Some t → t.entries.items ≢ []) (λ absent. cc) (λ n other found. order.filled n t found none) s there;
    }

    module _ (eq : W → W → Bool) (symm : (x y : W) → IsTrue (eq x y) → IsTrue (eq y x)) (word_of : K → W) (had : HaveWords eq word_of old)
        (forgets : RemovesSlot eq (has_word eq table.entries.items) table.slot old.words new.words) where
      abbrev HasWord : W → Row K → Type 0
      HasWord w r = IsTrue (eq w (word_of r.key))

      -- a row of the section has an entry with its word
      going_word : (es : List (Entry W K)) → AllByRecursion (λ e. e.word ≡ word_of e.key.value) es → (w : W) (p : ℕ) → IsSomeAnd (slice_get (map row_of es) p) (HasWord w) → has_word eq es w ≡ true
      going_word [] all w p at = absurd at
      going_word (e ∷ es) all w zero at = ap (λ (b : Bool). b || has_word eq es w) (symm w e.word (subst (λ (v : W). IsTrue (eq w v)) (sym all.0) at))
      going_word (e ∷ es) all w (suc p) at = ap (λ (b : Bool). eq e.word w || b) (going_word es all.1 w p at) ∙ or_true (eq e.word w)

      -- a row of another section stays
      stays : (w : W) (k : Handle) → HasRowOf eq word_of old w k → ((t : Table W K) → t ≡ table → t.slot ≡ slot_of k → IsSomeAnd (slice_get (rows_of old section) (position_of k)) (HasWord w) → ⊥) → HasRowOf eq word_of new w k
      stays w k (s, t, there, slot, at) not = elim (cases_eq s section) as (λ _. HasRowOf eq word_of new w k) [
        | inl same ↦ absurd (not t (same_Some t table (sym there ∙ ap (λ (n : ℕ). get nat_cmp old.tables n) same ∙ is.here)) slot
            (subst (λ (n : ℕ). IsSomeAnd (slice_get (rows_of old n) (position_of k)) (HasWord w)) same at))
        | inr other ↦ (s, t, is.others s other ∙ there, slot, subst (λ (rs : List (Row K)). IsSomeAnd (slice_get rs (position_of k)) (HasWord w)) (sym (others_stay s other)) at)
      ]

      left_of : (w : W) (k : Handle) (b : Bool) → has_word eq table.entries.items w ≡ b → Contains (handles_of eq new.words w) k → HasRowOf eq word_of new w k
      left_of w k true some has =
          let left = (in_filter (λ h. not (nat_eq (slot_of h) table.slot)) (handles_of eq old.words w) k).0 (subst (λ (hs : List Handle). Contains hs k) (forgets.here w some) has) in
          stays w k ((had.handles w k).0 left.0) (λ t one slot at. false≢true (ap not (sym (eq-eqb (slot_of k) table.slot (sym slot ∙ ap (λ (g : Table W K). g.slot) one))) ∙ left.1))
      left_of w k false none has = stays w k ((had.handles w k).0 (subst (λ (hs : List Handle). Contains hs k) (ap handles_in (forgets.others w none)) has))
          (λ t one slot at. false≢true (sym none ∙ going_word table.entries.items (had.words section table is.here) w (position_of k)
          (subst (λ (rs : List (Row K)). IsSomeAnd (slice_get rs (position_of k)) (HasWord w)) (rows_some old section table is.here) at)))

      -- a handle that names a row yet named it before, and has another slot
      named_before : (w : W) (k : Handle) → HasRowOf eq word_of new w k → HasRowOf eq word_of old w k × (slot_of k ≢ table.slot)
      named_before w k (s, t, there, slot, at) = elim (cases_eq s section) as (λ _. HasRowOf eq word_of old w k × (slot_of k ≢ table.slot)) [
        | inl same ↦ absurd (none-some t (sym is.gone ∙ ap (λ (n : ℕ). get nat_cmp new.tables n) (sym same) ∙ there))
        | inr other ↦
            let was = sym (is.others s other) ∙ there in
            ((s, t, was, slot, subst (λ (rs : List (Row K)). IsSomeAnd (slice_get rs (position_of k)) (HasWord w)) (others_stay s other) at), λ its. other (one_section s t was (slot ∙ its)))
      ]

      named_still : (w : W) (k : Handle) (b : Bool) → has_word eq table.entries.items w ≡ b → HasRowOf eq word_of new w k → Contains (handles_of eq new.words w) k
      named_still w k true some names =
          let before = named_before w k names in
          subst (λ (hs : List Handle). Contains hs k) (sym (forgets.here w some))
          ((in_filter (λ h. not (nat_eq (slot_of h) table.slot)) (handles_of eq old.words w) k).1 ((had.handles w k).1 before.0, ap not (ne_eqb (slot_of k) table.slot before.1)))
      named_still w k false none names = subst (λ (hs : List Handle). Contains hs k) (sym (ap handles_in (forgets.others w none))) ((had.handles w k).1 (named_before w k names).0)

      once_yet : (w : W) (b : Bool) → has_word eq table.entries.items w ≡ b → IsDistinct same_handle (handles_of eq new.words w)
      once_yet w true some = subst (IsDistinct same_handle) (sym (forgets.here w some)) (apart_filter (λ h. not (nat_eq (slot_of h) table.slot)) same_handle (handles_of eq old.words w) (had.once w))
      once_yet w false none = subst (IsDistinct same_handle) (sym (ap handles_in (forgets.others w none))) (had.once w)

      listed_yet : (w : W) (b : Bool) → has_word eq table.entries.items w ≡ b → IsSome (hash.get eq new.words.handles w) → handles_of eq new.words w ≢ []
      listed_yet w true some has empty = forgets.listed w some has empty
      listed_yet w false none has empty =
          let same = forgets.others w none in
          had.listed w (λ never. never) (sym (ap is_some same) ∙ has) (sym (ap handles_in same) ∙ empty)

      pub removed_words : HaveWords eq word_of new
      removed_words = record {
        words = λ s t there. at_each (λ n rows found. found ≡ Some t → AllByRecursion (λ e. e.word ≡ word_of e.key.value) t.entries.items)
            (λ none. cc) (λ n other found. had.words n t found) s there;
        handles = λ w k. (left_of w k (has_word eq table.entries.items w) refl, named_still w k (has_word eq table.entries.items w) refl);
        once = λ w. once_yet w (has_word eq table.entries.items w) refl;
        listed = λ w not. listed_yet w (has_word eq table.entries.items w) refl;
      }

    -- so its records are forgotten
    pub section_dropped : (eq : W → W → Bool) → ((x y : W) → IsTrue (eq x y) → IsTrue (eq y x)) → RemovesSlot eq (has_word eq table.entries.items) table.slot old.words new.words → Drops eq (λ s. s ≡ section) old new
    section_dropped eq symm forgets = record {
      gone = λ s same. subst (λ (n : ℕ). rows_of new n ≡ []) (sym same) no_rows;
      others = others_stay;
      order = removed_order;
      words = λ word_of had. removed_words eq symm word_of had forgets;
    }

-- ---- one section after another

module _ {W K : Type 0} (eq : W → W → Bool) (bound : ℕ) (init : Tables W K) where
  -- Sections below the bound were forgotten.
  pub record HasDropped (t : Tables W K) : Type 0 where
    pub others : (s : ℕ) → bound ≤ s → rows_of t s ≡ rows_of init s
    pub order : AreInOrder (λ _. ⊥) t
    pub words : (word_of : K → W) → HaveWords eq word_of init → HaveWords eq word_of t

  pub none_dropped : AreInOrder (λ _. ⊥) init → HasDropped init
  none_dropped order = record { others = λ s from. refl; order = order; words = λ word_of had. had }

  pub one_dropped : (section : ℕ) (old new : Tables W K) → section < bound → HasDropped old → Drops eq (λ s. s ≡ section) old new → HasDropped new
  one_dropped section old new below so_far drops = record {
    others = λ s from. drops.others s (λ same. omega (arith, same, from, below)) ∙ so_far.others s from;
    order = drops.order;
    words = λ word_of had. drops.words word_of (so_far.words word_of had);
  }

  -- where no table is left below it, all of them were
  pub all_dropped : (t : Tables W K) → HasDropped t → ((s : ℕ) → s < bound → get nat_cmp t.tables s ≡ None) → Drops eq (λ s. s < bound) init t
  all_dropped t so_far none = record {
    gone = λ s below. rows_none t s (none s below);
    others = λ s not. so_far.others s (omega (arith, not));
    order = so_far.order;
    words = so_far.words;
  }
