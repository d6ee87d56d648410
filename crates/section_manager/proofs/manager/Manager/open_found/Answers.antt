use Rattle.std.proofs.Common.{arith}
use Rattle.section_manager.specs.managing.Managed.{shown}
use Rattle.section_manager.specs.lemmas.Seen.{err_seen}
use Rattle.section_manager.proofs.sections.OpeningEnds.{next_above, next_failed, next_held}
use Rattle.section_manager.proofs.manager.Manager.open_found.Goals as goal

pub returns-then-section-this : goal.returns-then-section-this
returns-then-section-this g c = next_above g.F.Buffer.SectionBuffer g.F.BufferFactory.gives g.D.Device (shown c.args.self) c.args.section c.args.dev.now c.requires.over c.requires.floor (omega (arith, c.if-section-this.true))

pub returns-in_err-hold : goal.returns-in_err-hold
returns-in_err-hold g c = next_failed g.F.Buffer.SectionBuffer g.F.BufferFactory.gives g.D.Device (shown c.args.self) c.args.section c.args.dev.now c.requires.over c.requires.floor (omega (arith, c.if-section-this.false)) (shown c.hold.new.self) c.hold.new.dev _ c.in_err-hold.ensures
    _ (err_seen shown c.from_residual.result _ c.from_residual.ensures.1)

pub returns : goal.returns
returns g c = next_held g.F.Buffer.SectionBuffer g.F.BufferFactory.gives g.D.Device (shown c.args.self) c.args.section c.args.dev.now c.requires.over c.requires.floor (omega (arith, c.if-section-this.false)) (shown c.hold.new.self) c.hold.new.dev _ c.in_ok-hold.ensures
