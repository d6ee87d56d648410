use Rattle.std.proofs.Common.{◌≡◌, ◌∷◌, [], ◌+◌, ◌≤◌, Some, sym, ◌∙◌, ap, subst}
use Rattle.std.specs.Option.{option_copied}
use Rattle.std.proofs.lemmas.Map.Iter.{rest_more, rest_all}
use Rattle.section_manager.specs.declared.journal.Error.TheVariants.{Corruption}
use Rattle.section_manager.specs.managing.Managed as managed
use Rattle.segments.specs.FixedFloors as floors
use Rattle.paired.specs.glob.Sections.{section_size}
use Rattle.paired.specs.OpeningRefusing.{IsOutside}
use Rattle.paired.proofs.opening.StartCauses.{error_back}
use Rattle.paired.proofs.opening.Lemmas.{checking_all, checking_first, checking_more, checking_none}
use Rattle.paired.proofs.oversized.opening.check_values.Goals as goal
use Rattle.blob_device.proofs.general.Results.{err_of}

pub loop-section-init : goal.loop-section-init
loop-section-init g c = rw c.into_iter-section-iterator.ensures.into_iter_gives
    (checking_all (floors.preflight_shown c.args.found.now).boundary_of (λ s v. (g.I.Record.location v).0 + (g.I.Record.location v).1 ≤ section_size (managed.shown c.args.values.now.manager) s) c.boundaries-section-items.result c.boundaries-section-items.ensures.each)

pub loop-section-preserved : goal.loop-section-preserved
loop-section-preserved g c =
    let all = (floors.preflight_shown c.args.found.now).boundary_of in
    let step : c.loop-section.section-iterator ≡ (c.in-Some.section, option_copied c.in-Some.last) ∷ c.next.new.self = rest_more _ _ _ c.next.result (c.in-Some.section, c.in-Some.last) c.in-Some.is c.next.ensures.steps in
    checking_more all (λ s v. (g.I.Record.location v).0 + (g.I.Record.location v).1 ≤ section_size (managed.shown c.args.values.now.manager) s) c.in-Some.section (option_copied c.in-Some.last) c.next.new.self
    c.in_ok-check_value.ensures.within (rw step at c.loop-section.invariant)

pub returns-clause-within : goal.returns-clause-within
returns-clause-within g c =
    let none : c.loop-section.section-iterator ≡ [] = rest_all _ _ _ c.next.result c.in-None.is c.next.ensures.steps in
    checking_none (floors.preflight_shown c.args.found.now).boundary_of (λ s v. (g.I.Record.location v).0 + (g.I.Record.location v).1 ≤ section_size (managed.shown c.args.values.now.manager) s) c.loop-section.section-iterator none c.loop-section.invariant

pub returns-in_err-check_value-clause-damage : goal.returns-in_err-check_value-clause-damage
returns-in_err-check_value-clause-damage g c x is =
    let all = (floors.preflight_shown c.args.found.now).boundary_of in
    let r = c.from_residual.result in
    let e = c.in_err-check_value.field-0.0 in
    let w = c.in_err-check_value.ensures.damage x (error_back r e (err_of r e c.from_residual.ensures.1) (Corruption x) is) in
    let step : c.loop-section.section-iterator ≡ (c.in-Some.section, option_copied c.in-Some.last) ∷ c.next.new.self = rest_more _ _ _ c.next.result (c.in-Some.section, c.in-Some.last) c.in-Some.is c.next.ensures.steps in
    let here = checking_first all (λ s v. (g.I.Record.location v).0 + (g.I.Record.location v).1 ≤ section_size (managed.shown c.args.values.now.manager) s) c.in-Some.section (option_copied c.in-Some.last) c.next.new.self (rw step at c.loop-section.invariant) in (
      w.1.0,
      subst (λ s. all s ≡ Some (Some w.1.0)) (sym w.0) (here ∙ ap Some w.1.1),
      subst (λ s. IsOutside (g.I.Record.location w.1.0) (section_size (managed.shown c.args.values.now.manager) s) x) (sym w.0) w.1.2,
    )
