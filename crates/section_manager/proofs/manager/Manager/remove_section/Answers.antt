use Rattle.std.proofs.Common.{IsSome}
use Rattle.section_manager.specs.managing.Managed.{flagged, shown}
use Rattle.section_manager.specs.lemmas.Seen.{err_same, err_seen}
use Rattle.section_manager.proofs.sections.OpenLemmas.{not_held, not_pruned}
use Rattle.section_manager.proofs.sections.RemovingEnds.{one_absent, one_goes, one_refused, one_stays}
use Rattle.section_manager.proofs.manager.Manager.remove_section.Goals as goal

pub returns-in_err-prune_guard : goal.returns-in_err-prune_guard
returns-in_err-prune_guard g c =
    let pruned = c.in_err-prune_guard.ensures.cause in
    one_refused g.F.Buffer.SectionBuffer g.F.BufferFactory.gives g.D.Device (shown c.args.self) c.args.dev.now c.args.section c.requires.over
    _ _ (err_seen flagged c.from_residual.result _ c.from_residual.ensures.1) (err_same pruned) (c.in_err-prune_guard.ensures.guard.0 pruned)

pub returns-then-not-contains : goal.returns-then-not-contains
returns-then-not-contains g c =
    let m = shown c.args.self in
    one_absent g.F.Buffer.SectionBuffer g.F.BufferFactory.gives g.D.Device m c.args.dev.now c.args.section c.requires.over (not_pruned c.in_ok-prune_guard.field-0 m.floor c.args.section c.in_ok-prune_guard.ensures.guard)
    (not_held (m.held c.args.section) c.contains.result c.contains.ensures c.if-not-contains.true)

pub returns-in_err-remove_known : goal.returns-in_err-remove_known
returns-in_err-remove_known g c =
    let m = shown c.args.self in
    one_stays g.F.Buffer.SectionBuffer g.F.BufferFactory.gives g.D.Device m c.args.dev.now c.args.section c.requires.over c.remove_known.new.dev (not_pruned c.in_ok-prune_guard.field-0 m.floor c.args.section c.in_ok-prune_guard.ensures.guard)
    (c.contains.ensures.0 (cc c.if-not-contains.false)) _ _ (err_seen flagged c.from_residual-in_err-remove_known.result _ c.from_residual-in_err-remove_known.ensures.1) c.in_err-remove_known.ensures.forgets

pub returns : goal.returns
returns g c =
    let m = shown c.args.self in
    let held : IsSome (m.held c.args.section) = c.contains.ensures.0 (cc c.if-not-contains.false) in
    one_goes g.F.Buffer.SectionBuffer g.F.BufferFactory.gives g.D.Device m c.args.dev.now c.args.section c.requires.over c.remove_known.new.dev (not_pruned c.in_ok-prune_guard.field-0 m.floor c.args.section c.in_ok-prune_guard.ensures.guard)
    held _ (c.requires.over.opened_list.apart c.args.section held) c.in_ok-remove_known.ensures.forgets
