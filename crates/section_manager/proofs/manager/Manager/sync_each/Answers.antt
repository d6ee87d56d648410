use Rattle.std.proofs.Common.{ℕ, List, take, get_or, subst, arith}
use Rattle.std.specs.List.{Contains}
use Rattle.std.proofs.lemmas.List.{take_all}
use Rattle.section_manager.specs.managing.Managed.{shown}
use Rattle.section_manager.specs.lemmas.Seen.{err_seen}
use Rattle.section_manager.proofs.sections.SettlingEnds.{each_failed, each_settled, one_makes, one_tries}
use Rattle.section_manager.proofs.sections.SyncLemmas.{SyncWalked, sync_tried_start, sync_walked_start, sync_tried_more, sync_walked_more}
use Rattle.section_manager.proofs.manager.Manager.sync_each.Goals as goal
use Rattle.section_manager.specs.lemmas.sections.Sync.{BufferLaws}

pub loop-section-init : goal.loop-section-init
loop-section-init g c =
    let b = g.F.Buffer.SectionBuffer in
    let d = g.D.Device in
    let l = g.met.F.Buffer.SectionBuffer in
    let laws : BufferLaws b = record { passes = l.passes; looser = l.looser; counted = l.counted; all_settled = l.all_settled; rested = l.rested; found_again = l.found_again } in
    record {
      walked = sync_walked_start b g.F.BufferFactory.gives d.Tells d.time d.opened d.faults (Contains (take 0 c.args.sections.now)) (shown c.args.self) c.args.dev.now (λ s done. omega (arith, done.1)) c.requires.over;
      tried = sync_tried_start b g.F.BufferFactory.gives d.Tells d.time d.opened d.faults laws (shown c.args.self) (Contains c.args.sections.now) c.args.dev.now c.requires.over;
    }

pub loop-section-preserved : goal.loop-section-preserved
loop-section-preserved g c =
    let b = g.F.Buffer.SectionBuffer in
    let f = g.F.BufferFactory.gives in
    let d = g.D.Device in
    let l = g.met.F.Buffer.SectionBuffer in
    let laws : BufferLaws b = record { passes = l.passes; looser = l.looser; counted = l.counted; all_settled = l.all_settled; rested = l.rested; found_again = l.found_again } in
    let m = shown c.args.self in
    let now = shown c.loop-section.this in
    let i = c.loop-section.section-index in
    let s = get_or c.args.sections.now i 0 in
    let tries = one_tries b f d now s c.loop-section.dev c.sync_one.new.dev _ c.sync_one.ensures in
    let tried = sync_tried_more b f d.Tells d.time d.opened d.faults laws c.args.sections.now i c.loop-section-test.true m now c.args.dev.now c.loop-section.dev c.sync_one.new.dev
    c.requires.over c.loop-section.invariant.walked c.loop-section.invariant.tried tries in
    record {
      walked = sync_walked_more b f d.Tells d.time d.opened d.faults laws c.args.sections.now i c.loop-section-test.true m now c.args.dev.now c.loop-section.dev c.sync_one.new.dev
          c.requires.over c.loop-section.invariant.walked c.loop-section.invariant.tried tries (shown c.in_ok-this.this) (one_makes b f d now s c.loop-section.dev c.sync_one.new.dev _ c.in_ok-this.ensures);
      tried = tried;
    }

pub returns-in_err-this : goal.returns-in_err-this
returns-in_err-this g c =
    let b = g.F.Buffer.SectionBuffer in
    let f = g.F.BufferFactory.gives in
    let d = g.D.Device in
    let l = g.met.F.Buffer.SectionBuffer in
    let laws : BufferLaws b = record { passes = l.passes; looser = l.looser; counted = l.counted; all_settled = l.all_settled; rested = l.rested; found_again = l.found_again } in
    let m = shown c.args.self in
    let now = shown c.loop-section.this in
    let i = c.loop-section.section-index in
    each_failed b f d laws m c.args.dev.now c.requires.over (Contains c.args.sections.now) c.sync_one.new.dev
    (sync_tried_more b f d.Tells d.time d.opened d.faults laws c.args.sections.now i c.loop-section-test.true m now c.args.dev.now c.loop-section.dev c.sync_one.new.dev
    c.requires.over c.loop-section.invariant.walked c.loop-section.invariant.tried (one_tries b f d now (get_or c.args.sections.now i 0) c.loop-section.dev c.sync_one.new.dev _ c.sync_one.ensures))
    c.loop-section.dev _ _ (err_seen shown c.from_residual.result _ c.from_residual.ensures.1) c.loop-section.invariant.tried.faults c.in_err-this.ensures.cause

pub returns : goal.returns
returns g c =
    let b = g.F.Buffer.SectionBuffer in
    let f = g.F.BufferFactory.gives in
    let d = g.D.Device in
    let l = g.met.F.Buffer.SectionBuffer in
    let laws : BufferLaws b = record { passes = l.passes; looser = l.looser; counted = l.counted; all_settled = l.all_settled; rested = l.rested; found_again = l.found_again } in
    let m = shown c.args.self in
    each_settled b f d laws m c.args.dev.now c.requires.over (Contains c.args.sections.now) c.loop-section.dev c.loop-section.invariant.tried (shown c.loop-section.this)
    (subst (λ (ys : List ℕ). SyncWalked b f d.Tells d.time d.opened d.faults (Contains ys) m (shown c.loop-section.this) c.args.dev.now c.loop-section.dev)
    (take_all c.loop-section.section-index c.args.sections.now c.loop-section-test.false) c.loop-section.invariant.walked)
