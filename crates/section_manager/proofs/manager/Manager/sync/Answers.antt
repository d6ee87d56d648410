use Rattle.std.proofs.Common.{inl}
use Rattle.std.specs.List.{Contains}
use Rattle.section_manager.specs.managing.Managed.{shown}
use Rattle.section_manager.specs.managing.Settling.{IsAnyBelow}
use Rattle.section_manager.specs.lemmas.Seen.{err_same, err_seen}
use Rattle.section_manager.proofs.sections.SettlingEnds.{below_none, each_refused}
use Rattle.section_manager.specs.lemmas.sections.Sync.{BufferLaws}
use Rattle.section_manager.proofs.manager.Manager.sync.Goals as goal

pub returns-in_err-check_all : goal.returns-in_err-check_all
returns-in_err-check_all g c =
    let l = g.met.F.Buffer.SectionBuffer in
    let laws : BufferLaws g.F.Buffer.SectionBuffer = record { passes = l.passes; looser = l.looser; counted = l.counted; all_settled = l.all_settled; rested = l.rested; found_again = l.found_again } in
    let pruned = c.in_err-check_all.ensures.cause in
    let floor = c.args.self.floor in
    each_refused g.F.Buffer.SectionBuffer g.F.BufferFactory.gives g.D.Device laws (shown c.args.self) c.args.dev.now c.requires.over (Contains c.args.sections.now) (IsAnyBelow (Contains c.args.sections.now) floor)
    _ _ (err_seen shown c.from_residual.result _ c.from_residual.ensures.1) (λ is. c.in_err-check_all.ensures.guard.0 pruned) (λ below. err_same pruned) (inl (err_same pruned))

pub returns : goal.returns
returns g c = below_none g.F.Buffer.SectionBuffer g.F.BufferFactory.gives g.D.Device (shown c.args.self) c.args.dev.now c.sync_each.new.dev (Contains c.args.sections.now) _ _
    (λ below. absurd (cc (c.in_ok-check_all.ensures.guard.1 below))) c.sync_each.ensures
