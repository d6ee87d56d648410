use Rattle.std.proofs.Common.{◌≡◌, ◌∷◌, [], ℕ, List, None, inl, inr, refl, sym, ◌∙◌, ap, subst}
use Rattle.std.specs.Prelude.{IsSome}
use Rattle.std.specs.BTreeMap.{is_at}
use Rattle.std.specs.Map.{lookup}
use Rattle.std.specs.Ordering.{nat_cmp}
use Rattle.std.specs.Map.Iter.{deref_pair}
use Rattle.std.proofs.lemmas.Map.Iter.{rest_more, rest_all}
use Rattle.section_manager.specs.declared.journal.Damage.{Damage}
use Rattle.section_manager.specs.Sections.{IsHeld}
use Rattle.segments.specs.FixedShown.{shown}
use Rattle.paired.proofs.OpenParts.{same_damage}
use Rattle.paired.proofs.opening.Lemmas.{AreHeld, are_held_all, are_held_more, are_held_none}
use Rattle.paired.proofs.oversized.opening.check_held.Goals as goal
use Rattle.blob_device.proofs.general.Options.{none_or_value}

pub loop-section-init : goal.loop-section-init
loop-section-init g c = subst (λ (rest : List (ℕ × ℕ)). AreHeld (IsHeld (shown c.args.index.now).sections) c.args.floors.now.entries rest) (sym (c.into_iter-section-iterator.ensures.into_iter_gives ∙ c.iter-section-items.ensures.rest))
    (are_held_all (IsHeld (shown c.args.index.now).sections) c.args.floors.now.entries c.iter-section-items.ensures.found)

pub loop-section-preserved : goal.loop-section-preserved
loop-section-preserved g c =
    let is : c.loop-section.section-iterator ≡ (c.in-Some.section.now, c.in-Some.items.now) ∷ c.next.new.self = rest_more deref_pair _ _ c.next.result (c.in-Some.section, c.in-Some.items) c.in-Some.is c.next.ensures.steps in
    are_held_more (IsHeld (shown c.args.index.now).sections) c.args.floors.now.entries c.next.new.self c.in-Some.section.now c.in-Some.items.now ((c.in_ok-held.ensures.each c.in-Some.section.now).0 (sym c.contains.ensures ∙ c.if-not-contains.false))
    (subst (λ (rest : List (ℕ × ℕ)). AreHeld (IsHeld (shown c.args.index.now).sections) c.args.floors.now.entries rest) is c.loop-section.invariant)

pub returns-clause-held : goal.returns-clause-held
returns-clause-held g c =
    let none : c.loop-section.section-iterator ≡ [] = rest_all deref_pair _ _ c.next.result c.in-None.is c.next.ensures.steps in
    are_held_none (IsHeld (shown c.args.index.now).sections) c.args.floors.now.entries c.loop-section.section-iterator none c.loop-section.invariant

pub returns-then-not-contains-clause-absent : goal.returns-then-not-contains-clause-absent
returns-then-not-contains-clause-absent g c x is =
    let sections = (shown c.args.index.now).sections in
    let here : c.in-Some.section.now ≡ x.section = ap (λ (d : Damage). d.section) (same_damage _ x is) in
    let step : c.loop-section.section-iterator ≡ (c.in-Some.section.now, c.in-Some.items.now) ∷ c.next.new.self = rest_more deref_pair _ _ c.next.result (c.in-Some.section, c.in-Some.items) c.in-Some.is c.next.ensures.steps in
    let now = subst (λ (rest : List (ℕ × ℕ)). AreHeld (IsHeld sections) c.args.floors.now.entries rest) step c.loop-section.invariant in
    let marked : IsSome (lookup (is_at (nat_cmp c.in-Some.section.now)) c.args.floors.now.entries) = subst IsSome (sym now.among.0) refl in
    let absent : sections.held c.in-Some.section.now ≡ None = (elim (none_or_value (sections.held c.in-Some.section.now)) [
      | inl none ↦ none
      | inr some ↦ absurd (cc ((c.in_ok-held.ensures.each c.in-Some.section.now).1 (subst IsSome (sym some.1) refl), c.contains.ensures, c.if-not-contains.true))
    ]) in (
      subst (λ (s : ℕ). IsSome (lookup (is_at (nat_cmp s)) c.args.floors.now.entries)) here marked,
      subst (λ (s : ℕ). sections.held s ≡ None) here absent,
    )
