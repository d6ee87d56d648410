use Rattle.section_manager.specs.managing.Managed.{shown}
use Rattle.section_manager.specs.lemmas.Seen.{err_same, err_seen}
use Rattle.section_manager.proofs.sections.CuttingEnds.{behind_cut, behind_failed, behind_refused, lifted_can, lifted_over}
use Rattle.section_manager.proofs.sections.OpenLemmas.{not_pruned}
use Rattle.section_manager.specs.lemmas.sections.Sync.{BufferLaws}
use Rattle.section_manager.proofs.manager.Manager.truncate_pending.Goals as goal

pub returns-in_err-prune_guard : goal.returns-in_err-prune_guard
returns-in_err-prune_guard g c =
    let l = g.met.F.Buffer.SectionBuffer in
    let laws : BufferLaws g.F.Buffer.SectionBuffer = record { passes = l.passes; looser = l.looser; counted = l.counted; all_settled = l.all_settled; rested = l.rested; found_again = l.found_again } in
    let pruned = c.in_err-prune_guard.ensures.cause in
    behind_refused g.F.Buffer.SectionBuffer g.F.BufferFactory.gives g.D.Device laws (shown c.args.self) c.args.dev.now c.requires.over c.args.section c.args.size c.ranges.section.fits
    _ _ (err_seen shown c.from_residual.result _ c.from_residual.ensures.1) (err_same pruned) (c.in_err-prune_guard.ensures.guard.0 pruned)

pub returns-in_err-this : goal.returns-in_err-this
returns-in_err-this g c =
    let l = g.met.F.Buffer.SectionBuffer in
    let laws : BufferLaws g.F.Buffer.SectionBuffer = record { passes = l.passes; looser = l.looser; counted = l.counted; all_settled = l.all_settled; rested = l.rested; found_again = l.found_again } in
    behind_failed g.F.Buffer.SectionBuffer g.F.BufferFactory.gives g.D.Device laws (shown c.args.self) c.args.dev.now c.requires.over c.args.section c.args.size c.ranges.section.fits
    (not_pruned c.in_ok-prune_guard.field-0 c.args.self.floor c.args.section c.in_ok-prune_guard.ensures.guard) c.remove_all.new.dev
    _ _ (err_seen shown c.from_residual-in_err-this.result _ c.from_residual-in_err-this.ensures.1) c.in_err-this.ensures

pub cut_one-requires : goal.cut_one-requires
cut_one-requires g c =
    let l = g.met.F.Buffer.SectionBuffer in
    let laws : BufferLaws g.F.Buffer.SectionBuffer = record { passes = l.passes; looser = l.looser; counted = l.counted; all_settled = l.all_settled; rested = l.rested; found_again = l.found_again } in
    let from = not_pruned c.in_ok-prune_guard.field-0 c.args.self.floor c.args.section c.in_ok-prune_guard.ensures.guard in
    record {
      over = lifted_over g.F.Buffer.SectionBuffer g.F.BufferFactory.gives g.D.Device laws (shown c.args.self) c.args.dev.now c.requires.over c.args.section c.args.size c.ranges.section.fits from c.remove_all.new.dev (shown c.in_ok-this.this) _ c.in_ok-this.ensures;
      can = lifted_can g.F.Buffer.SectionBuffer g.F.BufferFactory.gives g.D.Device laws (shown c.args.self) c.args.dev.now c.requires.over c.args.section c.args.size c.ranges.section.fits from c.remove_all.new.dev (shown c.in_ok-this.this) _ c.in_ok-this.ensures c.requires.can;
    }

pub returns : goal.returns
returns g c =
    let l = g.met.F.Buffer.SectionBuffer in
    let laws : BufferLaws g.F.Buffer.SectionBuffer = record { passes = l.passes; looser = l.looser; counted = l.counted; all_settled = l.all_settled; rested = l.rested; found_again = l.found_again } in
    behind_cut g.F.Buffer.SectionBuffer g.F.BufferFactory.gives g.D.Device laws (shown c.args.self) c.args.dev.now c.requires.over c.args.section c.args.size c.ranges.section.fits
    (not_pruned c.in_ok-prune_guard.field-0 c.args.self.floor c.args.section c.in_ok-prune_guard.ensures.guard)
    c.remove_all.new.dev (shown c.in_ok-this.this) _ c.in_ok-this.ensures c.cut_one.new.dev _ c.cut_one.ensures
