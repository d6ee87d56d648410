use Rattle.std.proofs.Common.{◌≡◌, ◌∙◌, ◌++◌, ◌∷◌, [], ◌↔◌, ℕ, List, sym, ap, subst}
use Rattle.std.specs.List.{Contains}
use Rattle.std.specs.List.Sorted.{IsStrictlySortedBy}
use Rattle.std.specs.Ordering.{nat_cmp}
use Rattle.std.proofs.lemmas.List.{append-nil, append_assoc}
use Rattle.section_manager.specs.managing.Managed.{shown}
use Rattle.section_manager.specs.Sections.{IsHeld}
use Rattle.section_manager.proofs.manager.Manager.numbers.Goals as goal

pub loop-section-preserved : goal.loop-section-preserved
loop-section-preserved g c =
    let items = c.loop-section.numbers.items in
    let x = c.in-Some.section in
    let later = c.next.new.self in
    let pushed : c.push.new.self.items ≡ items ++ x ∷ [] = c.in_ok-push.ensures.items in
    let step : c.loop-section.section-iterator ≡ x ∷ later = c.in-Some.ensures.steps in
    let same : items ++ c.loop-section.section-iterator ≡ c.push.new.self.items ++ later =
    ap (λ (l : List ℕ). items ++ l) step ∙ sym (append_assoc items (x ∷ []) later) ∙ ap (λ (l : List ℕ). l ++ later) (sym pushed) in
    record {
      each = λ s. subst (λ (l : List ℕ). Contains l s ↔ IsHeld (shown c.args.self.now) s) same (c.loop-section.invariant.each s);
      ascending = subst (λ (l : List ℕ). IsStrictlySortedBy nat_cmp l) same c.loop-section.invariant.ascending;
    }

pub returns-clause-each : goal.returns-clause-each
returns-clause-each g c s =
    let items = c.loop-section.numbers.items in
    let end : c.loop-section.section-iterator ≡ [] = c.in-None.ensures.steps.0 in
    subst (λ (l : List ℕ). Contains l s ↔ IsHeld (shown c.args.self.now) s) (ap (λ (l : List ℕ). items ++ l) end ∙ append-nil items) (c.loop-section.invariant.each s)

pub returns-clause-ascending : goal.returns-clause-ascending
returns-clause-ascending g c =
    let items = c.loop-section.numbers.items in
    let end : c.loop-section.section-iterator ≡ [] = c.in-None.ensures.steps.0 in
    subst (λ (l : List ℕ). IsStrictlySortedBy nat_cmp l) (ap (λ (l : List ℕ). items ++ l) end ∙ append-nil items) c.loop-section.invariant.ascending
