use Rattle.std.proofs.Common.{◌∙◌, ap}
use Rattle.blob_device.specs.Timeline.{disk}
use Rattle.section_manager.specs.managing.Managed.{shown}
use Rattle.section_manager.specs.Sections.{section_key}
use Rattle.section_manager.specs.lemmas.Seen.{err_same, mem_of}
use Rattle.section_manager.proofs.sections.OpenLemmas.{not_held, not_pruned, all_same}
use Rattle.section_manager.proofs.sections.OpeningEnds.{hold_failed, hold_refused, hold_short, hold_unnoted, holds_held, holds_made, open_over}
use Rattle.section_manager.proofs.manager.Manager.hold.Goals as goal
use Rattle.blob_device.proofs.general.Results.{err_of}

pub returns-in_err-prune_guard : goal.returns-in_err-prune_guard
returns-in_err-prune_guard g c =
    let pruned = c.in_err-prune_guard.ensures.cause in
    hold_refused g.F.Buffer.SectionBuffer g.F.BufferFactory.gives g.D.Device (shown c.args.self.now) c.args.section c.args.dev.now c.requires.over
    _ _ (err_of c.from_residual.result _ c.from_residual.ensures.1) (err_same pruned) (c.in_err-prune_guard.ensures.guard.0 pruned)

pub returns-then-contains : goal.returns-then-contains
returns-then-contains g c = holds_held g.F.Buffer.SectionBuffer g.F.BufferFactory.gives g.D.Device (shown c.args.self.now) c.args.section c.args.dev.now c.requires.over _ (c.contains.ensures.0 c.if-contains.true)

pub returns-in_err-expect : goal.returns-in_err-expect
returns-in_err-expect g c =
    let m = shown c.args.self.now in
    let n = shown c.expect.new.self in
    let e = c.expect.ensures in
    hold_unnoted g.F.Buffer.SectionBuffer g.F.BufferFactory.gives g.D.Device m c.args.section c.args.dev.now c.requires.over (not_pruned c.in_ok-prune_guard.field-0 m.floor c.args.section c.in_ok-prune_guard.ensures.guard) n e.bounds
    (all_same m n c.args.section (record { held = e.held c.args.section; unopened = c.in_err-expect.ensures.refused }) (λ q other. record { held = e.held q; unopened = e.others q other }))
    _ (mem_of c.from_residual-in_err-expect.result _ (err_of c.from_residual-in_err-expect.result _ c.from_residual-in_err-expect.ensures.1) c.in_err-expect.ensures.cause)

pub returns-in_err-buffer : goal.returns-in_err-buffer
returns-in_err-buffer g c =
    let m = shown c.args.self.now in
    let e = c.expect.ensures in
    let none = not_held (m.held c.args.section) c.contains.result c.contains.ensures c.if-contains.false in
    hold_failed g.F.Buffer.SectionBuffer g.F.BufferFactory.gives g.D.Device m c.args.section c.args.dev.now c.requires.over c.ranges.section.fits (not_pruned c.in_ok-prune_guard.field-0 m.floor c.args.section c.in_ok-prune_guard.ensures.guard) none c.open.new.dev _ _
    (ap (λ p. section_key p c.args.section) e.bounds.place.partition) e.bounds.place.factory (shown c.expect.new.self) e.bounds (λ q other. record { held = e.held q; unopened = e.others q other })
    (e.held c.args.section ∙ none) c.in_ok-expect.ensures.known _ e.still_section c.in_err-buffer.ensures _ (err_of c.from_residual-in_err-buffer.result _ c.from_residual-in_err-buffer.ensures.1)

pub returns-in_err-put : goal.returns-in_err-put
returns-in_err-put g c =
    let m = shown c.args.self.now in
    let e = c.expect.ensures in
    let none = not_held (m.held c.args.section) c.contains.result c.contains.ensures c.if-contains.false in
    hold_short g.F.Buffer.SectionBuffer g.F.BufferFactory.gives g.D.Device m c.args.section c.args.dev.now c.requires.over c.ranges.section.fits (not_pruned c.in_ok-prune_guard.field-0 m.floor c.args.section c.in_ok-prune_guard.ensures.guard) none c.open.new.dev _ _
    (ap (λ p. section_key p c.args.section) e.bounds.place.partition) e.bounds.place.factory (shown c.expect.new.self) e.bounds (λ q other. record { held = e.held q; unopened = e.others q other })
    (e.held c.args.section ∙ none) c.in_ok-expect.ensures.known c.in_ok-buffer.buffer e.still_section c.in_ok-buffer.ensures (shown c.put.new.self) c.put.ensures.bounds c.in_err-put.ensures.refused
    _ (mem_of c.from_residual-in_err-put.result _ (err_of c.from_residual-in_err-put.result _ c.from_residual-in_err-put.ensures.1) c.in_err-put.ensures.cause)

pub returns : goal.returns
returns g c =
    let m = shown c.args.self.now in
    let e = c.expect.ensures in
    let none = not_held (m.held c.args.section) c.contains.result c.contains.ensures c.if-contains.false in
    let from = not_pruned c.in_ok-prune_guard.field-0 m.floor c.args.section c.in_ok-prune_guard.ensures.guard in
    let key = ap (λ p. section_key p c.args.section) e.bounds.place.partition in
    let mid = open_over g.F.Buffer.SectionBuffer g.F.BufferFactory.gives g.D.Device m c.args.section c.args.dev.now c.requires.over c.ranges.section.fits from none c.open.new.dev _ _
    key e.bounds.place.factory (shown c.expect.new.self) e.bounds (λ q other. record { held = e.held q; unopened = e.others q other })
    (e.held c.args.section ∙ none) c.in_ok-expect.ensures.known _ c.in_ok-buffer.ensures in
    holds_made g.F.Buffer.SectionBuffer g.F.BufferFactory.gives g.D.Device m c.args.section c.args.dev.now c.requires.over c.ranges.section.fits from none c.open.new.dev _ _
    key e.bounds.place.factory (shown c.expect.new.self) e.bounds (λ q other. record { held = e.held q; unopened = e.others q other })
    (e.held c.args.section ∙ none) c.in_ok-expect.ensures.known c.in_ok-buffer.buffer _ c.in_ok-buffer.ensures (shown c.put.new.self) c.in_ok-put.ensures.put (record {
      opened_list = c.in_ok-put.ensures.opened (g.D.Device.opened c.open.new.dev) mid.opened_list c.in_ok-buffer.ensures.setting c.in_ok-buffer.ensures.«open»;
      disk = λ t. c.in_ok-put.ensures.stands (disk (g.D.Device.time c.open.new.dev)) (mid.disk t) (c.in_ok-buffer.ensures.stands t);
    })
