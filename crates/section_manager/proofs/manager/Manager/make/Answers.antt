use Rattle.std.proofs.Common.{◌∙◌, ap, rules}
use Rattle.std.specs.Prelude.{is_some}
use Rattle.section_manager.specs.managing.Managed.{shown}
use Rattle.section_manager.specs.Sections.{section_key}
use Rattle.section_manager.specs.lemmas.Seen.{mem_of}
use Rattle.section_manager.proofs.sections.OpenLemmas.{all_same}
use Rattle.section_manager.proofs.sections.OpeningEnds.{made, make_failed, take_short}
use Rattle.section_manager.proofs.manager.Manager.make.Goals as goal
use Rattle.blob_device.proofs.general.Results.{err_of}

pub returns-in_err-expect : goal.returns-in_err-expect
returns-in_err-expect g c =
    let m = shown c.args.self.now in
    let n = shown c.expect.new.self in
    let e = c.expect.ensures in
    take_short g.F.Buffer.SectionBuffer g.F.BufferFactory.gives g.D.Device m c.args.section c.args.dev.now c.requires.over c.requires.floor n e.bounds
    (all_same m n c.args.section (record { held = e.held c.args.section; unopened = c.in_err-expect.ensures.refused }) (λ q other. record { held = e.held q; unopened = e.others q other }))
    _ (mem_of c.from_residual.result _ (err_of c.from_residual.result _ c.from_residual.ensures.1) c.in_err-expect.ensures.cause)

pub returns-in_err-buffer : goal.returns-in_err-buffer
returns-in_err-buffer g c =
    let e = c.expect.ensures in
    make_failed g.F.Buffer.SectionBuffer g.F.BufferFactory.gives g.D.Device (shown c.args.self.now) c.args.section c.args.dev.now c.requires.over c.ranges.section.fits c.requires.floor c.requires.absent c.open.new.dev _ _
    (ap (λ p. section_key p c.args.section) e.bounds.place.partition) e.bounds.place.factory (shown c.expect.new.self) e.bounds (λ q other. record { held = e.held q; unopened = e.others q other })
    (e.held c.args.section ∙ c.requires.absent) c.in_ok-expect.ensures.known _ e.still_section c.in_err-buffer.ensures _ (err_of c.from_residual-in_err-buffer.result _ c.from_residual-in_err-buffer.ensures.1)

pub returns-in_err-insert : goal.returns-in_err-insert
returns-in_err-insert g c = absurd (cc (ap is_some c.in_err-insert.ensures.absent, c.in_ok-expect.ensures.known))

pub returns : goal.returns
returns g c =
    let e = c.expect.ensures in
    made g.F.Buffer.SectionBuffer g.F.BufferFactory.gives g.D.Device (shown c.args.self.now) c.args.section c.args.dev.now c.requires.over c.ranges.section.fits c.requires.floor c.requires.absent c.open.new.dev _ _
    (ap (λ p. section_key p c.args.section) e.bounds.place.partition) e.bounds.place.factory _ (record { place = record { partition = e.bounds.place.partition; factory = e.bounds.place.factory }; floor = e.bounds.floor; ceiling = e.bounds.ceiling })
    (λ q other. record { held = e.held q; unopened = search rules }) (e.held c.args.section ∙ c.requires.absent) (search rules) (search rules) c.in_ok-buffer.buffer c.in_ok-buffer.ensures
