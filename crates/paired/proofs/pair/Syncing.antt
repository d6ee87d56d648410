-- What a sync of sections, with the markers moved behind it, makes of a pair.
use Rattle.std.proofs.Common.{◌≡◌, ◌⊎◌, ℕ, ◌/◌, List, Result, Ok, Err, IfOk, sym, ◌∙◌, ap, subst}
use Rattle.std.specs.Prelude.{◌↔◌, ◌≢◌}
use Rattle.section_manager.specs.Sections.{IsHeld, IsSame, SameBounds}
use Rattle.segments.specs.FixedLists as fixed
use Rattle.paired.specs.glob.Sections as glob
use Rattle.paired.specs.Kept.{IsMarked, IsSameLayout, marker_of}
use Rattle.paired.specs.Pair.{IsMoving, length_of, synced_length}
use Rattle.paired.specs.PairShown.{shown}
use Rattle.paired.specs.PairSync.{IsSyncOf}
use Rattle.paired.specs.declared.oversized.Oversized.{Oversized}

module _ {I V S C : Type 0} {fixed_size codec seal : _} (place : List ℕ → ℕ × ℕ) (o m : Oversized I V S C fixed_size codec seal) (IsNamed IsActive : ℕ → Type 0) where
  -- sections have settled, and no marker has moved
  pub record HasSettledNamed : Type 0 where
    pub lengths : (s : ℕ) → length_of (shown place m) s ≡ length_of (shown place o) s
    pub sizes : (s : ℕ) → glob.section_size (shown place m).values s ≡ glob.section_size (shown place o).values s
    pub held : (s : ℕ) → IsHeld (shown place m).index.sections s ↔ IsHeld (shown place o).index.sections s
    pub values_held : (s : ℕ) → IsHeld (shown place m).values s ↔ IsHeld (shown place o).values s
    pub named : (s : ℕ) → IsNamed s → synced_length (shown place m) s ≡ length_of (shown place o) s
    pub settled : (s : ℕ) → IsNamed s → IsHeld (shown place o).values s → glob.IsAllSettled (shown place m).values s
    pub same : (s : ℕ) → (IsNamed s → ⊥) → IsSame (shown place o).index.sections (shown place m).index.sections s × IsSame (shown place o).values (shown place m).values s
    pub others : (s : ℕ) → (IsNamed s → ⊥) → synced_length (shown place m) s ≡ synced_length (shown place o) s
    pub store : (shown place m).store ≡ (shown place o).store
    pub bounds : SameBounds (shown place o).index.sections (shown place m).index.sections × SameBounds (shown place o).values (shown place m).values
    pub layout : IsSameLayout (shown place o).layout (shown place m).layout

  pub sync_of : {E : Type 0} → HasSettledNamed → (r : Result (Oversized I V S C fixed_size codec seal) E)
      → IfOk r (λ v. (shown place v).index ≡ (shown place m).index) → IfOk r (λ v. (shown place v).values ≡ (shown place m).values) → IfOk r (λ v. (s : ℕ) → synced_length (shown place v) s ≡ synced_length (shown place m) s)
      → IfOk r (λ v. (s : ℕ) → (IsActive s → ⊥) → marker_of (shown place v).store.entries s ≡ synced_length (shown place v) s)
      → IfOk r (λ v. (s : ℕ) → IsActive s → marker_of (shown place v).store.entries s ≡ marker_of (shown place m).store.entries s)
      → IfOk r (λ v. (s n : ℕ) → IsMarked (shown place v).store.entries s n → IsMarked (shown place m).store.entries s n ⊎ ((IsActive s → ⊥) × (n ≡ synced_length (shown place v) s) × (n ≢ marker_of (shown place m).store.entries s)))
      → ((((s : ℕ) × IsMoving (shown place o) IsNamed IsActive s) → ⊥) → IfOk r (λ v. (shown place v).store ≡ (shown place m).store))
      → IfOk r (λ v. (shown place v).store.floor ≡ (shown place m).store.floor) → IfOk r (λ v. IsSameLayout (shown place m).layout (shown place v).layout) → IfOk r (λ v. IsSyncOf (shown place o) IsNamed IsActive (shown place v))
  sync_of says (Err e) index values synced markers active marked still floor layout = tt
  sync_of says (Ok v) index values synced markers active marked still floor layout = record {
    lengths = λ s. ap (λ j. fixed.section_size j.sections s / (shown place o).layout.record_size) index ∙ says.lengths s;
    sizes = λ s. ap (λ n. glob.section_size n s) values ∙ says.sizes s;
    held = λ s. subst (λ j. IsHeld j.sections s ↔ IsHeld (shown place o).index.sections s) (sym index) (says.held s);
    values_held = λ s. subst (λ n. IsHeld n s ↔ IsHeld (shown place o).values s) (sym values) (says.values_held s);
    named = λ s is. synced s ∙ says.named s is;
    settled = λ s is held. subst (λ n. glob.IsAllSettled n s) (sym values) (says.settled s is held);
    same = λ s not. (subst (λ j. IsSame (shown place o).index.sections j.sections s) (sym index) (says.same s not).0, subst (λ n. IsSame (shown place o).values n s) (sym values) (says.same s not).1);
    others = λ s not. synced s ∙ says.others s not;
    markers = markers;
    active = λ s is. active s is ∙ ap (λ u. marker_of u.entries s) says.store;
    marked = λ s n is. subst (λ u. IsMarked u.entries s n ⊎ ((IsActive s → ⊥) × (n ≡ synced_length (shown place v) s) × (n ≢ marker_of u.entries s))) says.store (marked s n is);
    still = λ none. still none ∙ says.store;
    marker_floor = floor ∙ ap (λ u. u.floor) says.store;
    bounds = (subst (λ j. SameBounds (shown place o).index.sections j.sections) (sym index) says.bounds.0, subst (λ n. SameBounds (shown place o).values n) (sym values) says.bounds.1);
    layout = record { index = layout.index ∙ says.layout.index; values = layout.values ∙ says.layout.values; marked = layout.marked ∙ says.layout.marked; metadata = layout.metadata ∙ says.layout.metadata; page_size = layout.page_size ∙ says.layout.page_size };
  }
