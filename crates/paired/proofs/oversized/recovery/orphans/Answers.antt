use Rattle.std.proofs.Common.{◌≡◌, ◌∷◌, ℕ, List, true, false, sym, ◌∙◌, subst}
use Rattle.std.specs.BTreeSet.{contains}
use Rattle.std.specs.Ordering.{nat_cmp}
use Rattle.section_manager.specs.managing.Managed.{shown}
use Rattle.paired.proofs.ValuesRemoved.{AreAlone, alone_pass, alone_more, alone_all}
use Rattle.paired.proofs.oversized.recovery.orphans.Goals as goal

pub loop-section-preserved-in-Continue-1 : goal.loop-section-preserved-in-Continue-1
loop-section-preserved-in-Continue-1 g c =
    let m = shown c.args.values.now.manager in
    let has = contains nat_cmp c.args.held.now in
    let x = c.in-Some.section in
    let items = c.loop-section.orphans.items in
    let step : c.loop-section.section-iterator ≡ x ∷ c.next.new.self = c.in-Some.ensures.steps in
    let none : has x ≡ false = sym c.contains.ensures ∙ c.if-not-contains.true in
    subst (λ (l : List ℕ). AreAlone m has l c.next.new.self) (sym c.in_ok-push.ensures.items)
    (alone_more m has x items c.next.new.self none (subst (λ (l : List ℕ). AreAlone m has items l) step c.loop-section.invariant))

pub loop-section-preserved : goal.loop-section-preserved
loop-section-preserved g c =
    let m = shown c.args.values.now.manager in
    let has = contains nat_cmp c.args.held.now in
    let x = c.in-Some.section in
    let items = c.loop-section.orphans.items in
    let step : c.loop-section.section-iterator ≡ x ∷ c.next.new.self = c.in-Some.ensures.steps in
    let there : has x ≡ true = sym c.contains.ensures ∙ c.if-not-contains.false in
    alone_pass m has x items c.next.new.self there (subst (λ (l : List ℕ). AreAlone m has items l) step c.loop-section.invariant)

pub returns-clause-each : goal.returns-clause-each
returns-clause-each g c = alone_all (shown c.args.values.now.manager) (contains nat_cmp c.args.held.now) c.loop-section.orphans.items c.loop-section.section-iterator c.in-None.ensures.steps.0 c.loop-section.invariant
