use Rattle.std.proofs.Common.{ℕ, ◌≤◌, List, take, get_or, inl, inr, sym, subst}
use Rattle.std.specs.List.{Contains}
use Rattle.std.proofs.lemmas.List.{take_more, take_all}
use Rattle.std.proofs.lemmas.List.Elements.{Contains-push_cases}
use Rattle.section_manager.specs.lemmas.sections.Cut.{not_below}
use Rattle.section_manager.proofs.WalkLemmas.{none_pruned}
use Rattle.section_manager.proofs.manager.Manager.check_all.Goals as goal

pub loop-section-preserved : goal.loop-section-preserved
loop-section-preserved g c s named =
    let xs = c.args.sections.now in
    let i = c.loop-section.section-index in
    let floor = c.args.self.now.floor in
    let above : floor ≤ get_or xs i 0 = not_below (get_or xs i 0) floor (λ lt. absurd (cc (c.in_ok-prune_guard.ensures.guard.1 lt))) in
    elim (Contains-push_cases (take i xs) (get_or xs i 0) s (subst (λ (l : List ℕ). Contains l s) (take_more xs i 0 c.loop-section-test.true) named)) [
      | inl before ↦ c.loop-section.invariant s before
      | inr is ↦ subst (λ (k : ℕ). floor ≤ k) is above
    ]

pub returns-clause-guard : goal.returns-clause-guard
returns-clause-guard g c =
    let xs = c.args.sections.now in
    none_pruned tt (Contains xs) c.args.self.now.floor (λ s named. c.loop-section.invariant s (subst (λ (l : List ℕ). Contains l s) (sym (take_all c.loop-section.section-index xs c.loop-section-test.false)) named))
