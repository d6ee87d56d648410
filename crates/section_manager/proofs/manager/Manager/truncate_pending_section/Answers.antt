use Rattle.section_manager.specs.managing.Managed.{shown}
use Rattle.section_manager.specs.lemmas.Seen.{err_same, err_seen}
use Rattle.section_manager.proofs.sections.CuttingEnds.{cut_above, cut_refused}
use Rattle.section_manager.specs.lemmas.sections.Sync.{BufferLaws}
use Rattle.section_manager.proofs.manager.Manager.truncate_pending_section.Goals as goal

pub returns-in_err-prune_guard : goal.returns-in_err-prune_guard
returns-in_err-prune_guard g c =
    let l = g.met.F.Buffer.SectionBuffer in
    let laws : BufferLaws g.F.Buffer.SectionBuffer = record { passes = l.passes; looser = l.looser; counted = l.counted; all_settled = l.all_settled; rested = l.rested; found_again = l.found_again } in
    let pruned = c.in_err-prune_guard.ensures.cause in
    cut_refused g.F.Buffer.SectionBuffer g.F.BufferFactory.gives g.D.Device laws (shown c.args.self) c.args.dev.now c.requires.over c.args.section c.args.size _
    _ _ (err_seen shown c.from_residual.result _ c.from_residual.ensures.1) (err_same pruned) (c.in_err-prune_guard.ensures.guard.0 pruned)

pub returns : goal.returns
returns g c = cut_above g.F.Buffer.SectionBuffer g.F.BufferFactory.gives g.D.Device (shown c.args.self) c.args.section c.args.size c.args.dev.now c.cut_one.new.dev _ _
    (λ below. absurd (cc (c.in_ok-prune_guard.ensures.guard.1 below))) c.cut_one.ensures
