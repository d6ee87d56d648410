-- Tables without records.
use Rattle.std.proofs.Common.{◌≡◌, sym, ◌∙◌, ap, subst, ℕ, ◌+◌, ◌<◌, ◌≤◌, ◌^◌, Bool, List, [], length, Contains, Option, None, is_some, arith}
use Rattle.std.specs.BTreeMap.{BTreeMap, get, is_at}
use Rattle.std.specs.HashMap as hash
use Rattle.std.specs.List.{AllByRecursion, IsDistinct}
use Rattle.std.specs.Map.{lookup}
use Rattle.std.specs.Ordering.{nat_cmp}
use Rattle.std.proofs.lemmas.Bool.{false≢true}
use Rattle.std.proofs.lemmas.Option.{none-some}
use Rattle.record_tables.specs.Handles.{same_handle}
use Rattle.record_tables.specs.Rows.{ArePositions, Row}
use Rattle.record_tables.specs.Slots.{AreSlots, AreUsed}
use Rattle.record_tables.specs.Tables.{AreInOrder, HaveWords, positions_in, rows_in}
use Rattle.record_tables.specs.Words.{handles_in}
use Rattle.record_tables.specs.declared.handle.Handle.{Handle}
use Rattle.record_tables.specs.declared.tables.Table.{Table}
use Rattle.record_tables.specs.declared.tables.Tables.{Tables}
use Rattle.record_tables.proofs.HandleLemmas.{none_twice}
use Rattle.record_tables.proofs.PositionLemmas.{no_positions}
use Rattle.record_tables.proofs.RoomLemmas.{rows_none}

-- no section has rows
pub fresh_rows : {W K : Type 0} (m : BTreeMap ℕ (Table W K)) → m.entries ≡ [] → (s : ℕ) → rows_in (get nat_cmp m s) ≡ []
fresh_rows {W} {K} m empty s = ap (λ (es : List (ℕ × Table W K)). rows_in (lookup (is_at (nat_cmp s)) es)) empty

module _ {W K : Type 0} (t : Tables W K) (empty : t.tables.entries ≡ []) where
  none_at : (s : ℕ) → get nat_cmp t.tables s ≡ None
  none_at s = ap (λ (es : List (ℕ × Table W K)). lookup (is_at (nat_cmp s)) es) empty

  -- no section has a table
  pub fresh_order : AreSlots t.slots → AreUsed t.slots 0 → AreInOrder (λ _. ⊥) t
  fresh_order slots used = record {
    low = λ s. subst (λ (rs : List (Row K)). AllByRecursion (λ r. (s ≤ r.index) × (r.index < 2 ^ 64)) rs) (sym (rows_none t s (none_at s))) tt;
    positions = λ s o. subst (λ (x : Option (Table W K)). ArePositions (rows_in x) (s + o) (positions_in x o)) (sym (none_at s)) (no_positions (s + o));
    short = λ s. subst (λ (rs : List (Row K)). length rs ≤ 2 ^ 40) (sym (rows_none t s (none_at s))) (omega arith);
    slots = slots;
    own = λ s table there. absurd (none-some table (sym (none_at s) ∙ there));
    counted = subst (AreUsed t.slots) (sym (ap length empty)) used;
    filled = λ s table there none. absurd (none-some table (sym (none_at s) ∙ there));
  }

  -- and no word has a handle
  pub fresh_words : (eq : W → W → Bool) → ((w : W) → hash.get eq t.words.handles w ≡ None) → (word_of : K → W) → HaveWords eq word_of t
  fresh_words eq none word_of = record {
    words = λ s table there. absurd (none-some table (sym (none_at s) ∙ there));
    handles = λ w h. (
      λ has. (let here = subst (λ (hs : List Handle). Contains hs h) (ap handles_in (none w)) has in absurd (omega (arith, here.1))),
      λ names. absurd (none-some names.1 (sym (none_at names.0) ∙ names.2)),
    );
    once = λ w. subst (IsDistinct same_handle) (sym (ap handles_in (none w))) none_twice;
    listed = λ w not has. absurd (false≢true (sym (ap is_some (none w)) ∙ has));
  }
