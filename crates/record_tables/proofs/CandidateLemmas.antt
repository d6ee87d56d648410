-- The handles of a word are those of the records whose key has it.
use Rattle.std.proofs.Common.{◌≡◌, refl, sym, ◌∙◌, subst, ℕ, ◌+◌, ◌*◌, ◌^◌, Bool, slice_get, Contains, Option, None, Some, IsSomeAnd, IsTrue, arith}
use Rattle.std.specs.BTreeMap.{get}
use Rattle.std.specs.Ordering.{nat_cmp}
use Rattle.std.proofs.lemmas.Option.{same_Some}
use Rattle.record_tables.specs.Handles.{IsHandleOf, slot_of}
use Rattle.record_tables.specs.Rows.{Row}
use Rattle.record_tables.specs.Slots.{HasSlot}
use Rattle.record_tables.specs.Tables.{AreCandidates, AreInOrder, HasPlace, HasRowOf, HaveWords, IsPlace, rows_in, rows_of}
use Rattle.record_tables.specs.Words.{handles_of}
use Rattle.record_tables.specs.declared.handle.Handle.{Handle}
use Rattle.record_tables.specs.declared.tables.Table.{Table}
use Rattle.record_tables.specs.declared.tables.Tables.{Tables}
use Rattle.record_tables.proofs.HandleLemmas.{is_handle}
use Rattle.record_tables.proofs.PositionLemmas.{at_within}

module _ {W K : Type 0} (eq : W → W → Bool) (word_of : K → W) (t : Tables W K) (order : AreInOrder (λ _. ⊥) t) (had : HaveWords eq word_of t) (w : W) where
  abbrev HasWord : Row K → Type 0
  HasWord r = IsTrue (eq w (word_of r.key))

  -- the slot of a handle that names a row is its section's
  slot_names : (h : Handle) (s : ℕ) (table : Table W K) → get nat_cmp t.tables s ≡ Some table → table.slot ≡ slot_of h → slice_get t.slots.sections.items (slot_of h) ≡ Some s
  slot_names h s table there slot = subst (λ (x : ℕ). slice_get t.slots.sections.items x ≡ Some s) slot (order.own s table there).named

  placed : (h : Handle) → HasRowOf eq word_of t w h → HasPlace t h
  placed h (s, table, there, slot, at) = (s, subst (λ (x : ℕ). HasSlot t.slots x s) slot (order.own s table there))

  found : (h : Handle) → HasRowOf eq word_of t w h → (s p : ℕ) → IsPlace t h s p → IsSomeAnd (slice_get (rows_of t s) p) HasWord
  found h (n, table, there, slot, at) s p place =
      let same : n ≡ s = same_Some n s (sym (slot_names h n table there slot) ∙ place.section) in
      subst (λ (m : ℕ). IsSomeAnd (slice_get (rows_of t m) p) HasWord) same (subst (λ (q : ℕ). IsSomeAnd (slice_get (rows_of t n) q) HasWord) place.position at)

  -- a section with a row has a table
  table_of : (s p : ℕ) → IsSomeAnd (slice_get (rows_of t s) p) HasWord → (table : Table W K) × (get nat_cmp t.tables s ≡ Some table)
  table_of s p at = go (get nat_cmp t.tables s) at
    where
      go : (o : Option (Table W K)) → IsSomeAnd (slice_get (rows_in o) p) HasWord → (table : Table W K) × (o ≡ Some table)
      go None none = absurd none
      go (Some table) some = (table, refl)

  all : (s p : ℕ) → IsSomeAnd (slice_get (rows_of t s) p) HasWord → (h : Handle) × Contains (handles_of eq t.words w) h × IsPlace t h s p
  all s p at =
      let table = table_of s p at in
      let h : Handle = record { bits = table.0.slot * 2 ^ 40 + p } in
      let named : IsHandleOf table.0.slot p h = is_handle table.0.slot p h refl (omega (arith, at_within HasWord (rows_of t s) p at, order.short s)) in (
        h,
        (had.handles w h).1 (s, table.0, table.1, sym named.its_slot, subst (λ (q : ℕ). IsSomeAnd (slice_get (rows_of t s) q) HasWord) (sym named.its_position) at),
        record { section = slot_names h s table.0 table.1 (sym named.its_slot); position = named.its_position },
      )

  pub candidates_are : AreCandidates eq word_of w t (handles_of eq t.words w)
  candidates_are = record {
    once = had.once w;
    placed = λ h has. placed h ((had.handles w h).0 has);
    found = λ h has. found h ((had.handles w h).0 has);
    all = all;
  }
