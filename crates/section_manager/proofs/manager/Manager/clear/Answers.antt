use Rattle.section_manager.specs.managing.Managed.{shown}
use Rattle.section_manager.specs.lemmas.Seen.{err_seen}
use Rattle.section_manager.proofs.sections.RemovingEnds.{clear_failed, cleared}
use Rattle.section_manager.proofs.manager.Manager.clear.Goals as goal

pub returns-in_err-this : goal.returns-in_err-this
returns-in_err-this g c = clear_failed g.F.Buffer.SectionBuffer g.F.BufferFactory.gives g.D.Device (shown c.args.self) c.args.dev.now c.requires.over c.remove_all.new.dev
    _ _ (err_seen shown c.from_residual.result _ c.from_residual.ensures.1) c.in_err-this.ensures

pub returns : goal.returns
returns g c = cleared g.F.Buffer.SectionBuffer g.F.BufferFactory.gives g.D.Device (shown c.args.self) c.args.dev.now c.requires.over c.remove_all.new.dev (shown c.in_ok-this.this) _ c.in_ok-this.ensures
