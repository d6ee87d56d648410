-- Which sections are doomed, known and gone, before and after others are removed.
use Rattle.std.specs.Prelude.{◌≡◌, ◌⊎◌, ℕ, Option, None, Some, IsSome}
use Rattle.std.proofs.Common.{inl, inr, refl, sym, ◌∙◌, subst}
use Rattle.section_manager.specs.declared.manager.removing.Doomed.{Doomed}
use Rattle.section_manager.specs.declared.manager.removing.Doomed.TheVariants.{Through, After}
use Rattle.section_manager.specs.Doomed.{IsDoomed}
use Rattle.section_manager.specs.Sections.{Sections, IsKnown, IsSection, IsGone, IsSame, SameBounds}
use Rattle.section_manager.specs.lemmas.sections.Over.{known_same, same_known}

module _ {F B : Type 0} where
  pub gone_unknown : (m : Sections F B) (s : ℕ) → IsGone m s → IsKnown m s → ⊥
  gone_unknown m s gone known = elim known [
    | inl held ↦ absurd (cc (subst IsSome gone.held held))
    | inr unopened ↦ absurd (cc (subst IsSome gone.unopened unopened))
  ]

  pub unknown_gone : (m : Sections F B) (s : ℕ) → (IsKnown m s → ⊥) → IsGone m s
  unknown_gone m s unknown = record {
    held = none (m.held s) (λ is. unknown (inl is));
    unopened = none (m.unopened s) (λ is. unknown (inr is));
  }
    where
      none : {T : Type 0} (o : Option T) → (IsSome o → ⊥) → o ≡ None
      none None is = refl
      none (Some v) is = absurd (is refl)

  pub known_or_not : (m : Sections F B) (s : ℕ) → IsKnown m s ⊎ (IsKnown m s → ⊥)
  known_or_not m s = go (m.held s) (m.unopened s)
    where
      go : {S T : Type 0} (o : Option S) (p : Option T) → (IsSome o ⊎ IsSome p) ⊎ (IsSome o ⊎ IsSome p → ⊥)
      go (Some u) p = inl (inl refl)
      go None (Some v) = inl (inr refl)
      go None None = inr (λ known. elim known [ inl is ↦ absurd (cc is) | inr is ↦ absurd (cc is) ])

  pub same_then : (m n o : Sections F B) (s : ℕ) → IsSame m n s → IsSame n o s → IsSame m o s
  same_then m n o s first second = record { held = second.held ∙ first.held; unopened = second.unopened ∙ first.unopened }

  pub gone_then : (n o : Sections F B) (s : ℕ) → IsGone n s → IsSame n o s → IsGone o s
  gone_then n o s gone same = record { held = same.held ∙ gone.held; unopened = same.unopened ∙ gone.unopened }

  pub start_bounds : (m : Sections F B) → SameBounds m m
  start_bounds m = record { place = record { partition = refl; factory = refl }; floor = refl; ceiling = refl }

  pub same_section : (m n : Sections F B) (s : ℕ) → IsSame m n s → IsSection n s → IsSection m s
  same_section m n s same section = elim section [
    | inl held ↦ inl (subst IsSome same.held held)
    | inr unopened ↦ inr (sym same.unopened ∙ unopened)
  ]

  pub section_same : (m n : Sections F B) (s : ℕ) → IsSame m n s → IsSection m s → IsSection n s
  section_same m n s same section = same_section n m s (record { held = sym same.held; unopened = sym same.unopened }) section

  pub section_known : (m : Sections F B) (s : ℕ) → IsSection m s → IsKnown m s
  section_known m s section = elim section [
    | inl held ↦ inl held
    | inr unopened ↦ inr (subst IsSome (sym unopened) refl)
  ]

  pub doomed_known : (m : Sections F B) (doomed : Doomed) (s : ℕ) → IsDoomed m doomed s → IsKnown m s
  doomed_known m (Through last) s is = is.0
  doomed_known m (After kept) s is = is.0

  pub doomed_same : (m n : Sections F B) (doomed : Doomed) (s : ℕ) → IsSame m n s → IsDoomed m doomed s → IsDoomed n doomed s
  doomed_same m n (Through last) s same is = (known_same m n s same is.0, is.1)
  doomed_same m n (After kept) s same is = (known_same m n s same is.0, is.1)

  pub same_doomed : (m n : Sections F B) (doomed : Doomed) (s : ℕ) → IsSame m n s → IsDoomed n doomed s → IsDoomed m doomed s
  same_doomed m n (Through last) s same is = (same_known m n s same is.0, is.1)
  same_doomed m n (After kept) s same is = (same_known m n s same is.0, is.1)
