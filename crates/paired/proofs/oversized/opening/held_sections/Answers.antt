use Rattle.std.proofs.Common.{◌≡◌, ◌≢◌, ◌∷◌, ℕ, List, IsTrue, true, inl, inr, sym, ◌∙◌, ap, subst, arith}
use Rattle.std.specs.BTreeSet.{contains}
use Rattle.std.specs.Ordering.{nat_cmp}
use Rattle.std.proofs.lemmas.Bool.{cases_eq}
use Rattle.std.proofs.lemmas.Grind.{common_steps}
use Rattle.section_manager.specs.Sections.{IsHeld}
use Rattle.segments.specs.FixedShown.{shown}
use Rattle.paired.proofs.opening.Lemmas.{GoneOver, gone_over_more, gone_over_all}
use Rattle.paired.proofs.oversized.opening.held_sections.Goals as goal

pub loop-section-preserved : goal.loop-section-preserved
loop-section-preserved g c =
    let x = c.in-Some.section in
    let later = c.next.new.self in
    let now = c.insert.new.self in
    let step : c.loop-section.section-iterator ≡ x ∷ later = c.in-Some.ensures.steps in
    let here : contains nat_cmp now x ≡ true = c.in_ok-insert.ensures.updates.1 in
    let same : (s : ℕ) → s ≢ x → contains nat_cmp now s ≡ contains nat_cmp c.loop-section.held s = λ s other. grind (arith, common_steps) in
    gone_over_more (IsHeld (shown c.args.index.now).sections) (λ s. IsTrue (contains nat_cmp c.loop-section.held s)) (λ s. IsTrue (contains nat_cmp now s)) x later here
    (λ s had. elim (cases_eq s x) [
      | inl is ↦ ap (contains nat_cmp now) is ∙ here
      | inr other ↦ same s other ∙ had
    ])
    (λ s other has. sym (same s other) ∙ has)
    (subst (λ (l : List ℕ). GoneOver (IsHeld (shown c.args.index.now).sections) (λ s. IsTrue (contains nat_cmp c.loop-section.held s)) l) step c.loop-section.invariant)

pub returns-clause-each : goal.returns-clause-each
returns-clause-each g c = gone_over_all (IsHeld (shown c.args.index.now).sections) (λ s. IsTrue (contains nat_cmp c.loop-section.held s)) c.loop-section.section-iterator c.in-None.ensures.steps.0 c.loop-section.invariant
