use Rattle.std.proofs.Common.{refl, sym, ◌∙◌, ap, rules}
use Rattle.std.specs.BTreeMap.{is_at}
use Rattle.std.specs.Map.{lookup}
use Rattle.std.specs.Ordering.{nat_cmp}
use Rattle.section_manager.specs.managing.Managed.{shown}
use Rattle.section_manager.specs.lemmas.Seen.{err_same}
use Rattle.section_manager.proofs.sections.OpenLemmas.{not_pruned}
use Rattle.section_manager.proofs.sections.OpeningEnds.{take_refused, take_short, took_held}
use Rattle.section_manager.proofs.manager.Manager.take.Goals as goal
use Rattle.blob_device.proofs.general.Results.{err_of}

pub returns-in_err-prune_guard : goal.returns-in_err-prune_guard
returns-in_err-prune_guard g c =
    let pruned = c.in_err-prune_guard.ensures.cause in
    take_refused g.F.Buffer.SectionBuffer g.F.BufferFactory.gives g.D.Device (shown c.args.self.now) c.args.section c.args.dev.now c.requires.over
    _ _ (err_of c.from_residual.result _ c.from_residual.ensures.1) (err_same pruned) (c.in_err-prune_guard.ensures.guard.0 pruned)

pub returns-then-not-contains : goal.returns-then-not-contains
returns-then-not-contains g c = c.make.ensures

pub returns-in_err-insert : goal.returns-in_err-insert
returns-in_err-insert g c = take_short g.F.Buffer.SectionBuffer g.F.BufferFactory.gives g.D.Device (shown c.args.self.now) c.args.section c.args.dev.now c.requires.over
    (not_pruned c.in_ok-prune_guard.field-0 c.args.self.now.floor c.args.section c.in_ok-prune_guard.ensures.guard) _ (record { place = record { partition = refl; factory = refl }; floor = refl; ceiling = refl })
    (λ q. record { held = refl; unopened = ap (lookup (is_at (nat_cmp q))) c.in_err-insert.ensures.err }) _ (err_of c.from_residual-in_err-insert.result _ c.from_residual-in_err-insert.ensures.1)

pub returns : goal.returns
returns g c = took_held g.F.Buffer.SectionBuffer g.F.BufferFactory.gives g.D.Device (shown c.args.self.now) c.args.section c.args.dev.now c.requires.over c.unwrap.result _ c.ranges.section.fits
    (sym c.remove.ensures.value ∙ c.unwrap.ensures) c.remove.ensures.here (search rules) (λ q other. record { held = c.remove.ensures.others q other; unopened = search rules })
    (record { place = record { partition = refl; factory = refl }; floor = refl; ceiling = refl })
