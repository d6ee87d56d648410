use Rattle.std.proofs.Common.{◌≡◌, ◌∙◌, ◌++◌, ◌∷◌, [], ◌↔◌, ℕ, List, sym, ap, subst}
use Rattle.std.specs.List.{Contains}
use Rattle.std.proofs.lemmas.List.{append-nil, append_assoc}
use Rattle.section_manager.specs.Sections.{IsHeld}
use Rattle.segments.specs.FixedShown.{shown}
use Rattle.paired.proofs.oversized.syncing.numbers.Goals as goal

pub loop-section-preserved : goal.loop-section-preserved
loop-section-preserved g c s =
    let items = c.loop-section.numbers.items in
    let x = c.in-Some.section in
    let later = c.next.new.self in
    let pushed : c.push.new.self.items ≡ items ++ x ∷ [] = c.in_ok-push.ensures.items in
    let step : c.loop-section.section-iterator ≡ x ∷ later = c.in-Some.ensures.steps in
    let same : items ++ c.loop-section.section-iterator ≡ c.push.new.self.items ++ later =
    ap (λ (l : List ℕ). items ++ l) step ∙ sym (append_assoc items (x ∷ []) later) ∙ ap (λ (l : List ℕ). l ++ later) (sym pushed) in
    subst (λ (l : List ℕ). Contains l s ↔ IsHeld (shown c.args.index.now).sections s) same (c.loop-section.invariant s)

pub returns-clause-each : goal.returns-clause-each
returns-clause-each g c s =
    let items = c.loop-section.numbers.items in
    let end : c.loop-section.section-iterator ≡ [] = c.in-None.ensures.steps.0 in
    subst (λ (l : List ℕ). Contains l s ↔ IsHeld (shown c.args.index.now).sections s) (ap (λ (l : List ℕ). items ++ l) end ∙ append-nil items) (c.loop-section.invariant s)

pub loop-section-init : goal.loop-section-init
loop-section-init g c s =
    let all = c.sections-section-items in
    let same : c.new-numbers.result.items ++ c.into_iter-section-iterator.result ≡ all.result =
    ap (λ (l : List ℕ). l ++ c.into_iter-section-iterator.result) c.new-numbers.ensures.items ∙ c.into_iter-section-iterator.ensures.into_iter_gives in
    subst (λ (l : List ℕ). Contains l s ↔ IsHeld (shown c.args.index.now).sections s) (sym same) (all.ensures.each s)
