use Rattle.std.proofs.Common.{sym, subst}
use Rattle.std.specs.List.{Contains}
use Rattle.section_manager.specs.managing.Managed.{shown}
use Rattle.section_manager.specs.managing.Settling.{IsAnyBelow, Settles}
use Rattle.section_manager.specs.lemmas.Seen.{err_seen}
use Rattle.section_manager.proofs.manager.Manager.start_sync.Goals as goal

pub returns-in_err-this : goal.returns-in_err-this
returns-in_err-this g c = subst (Settles g.F.Buffer.SectionBuffer g.F.BufferFactory.gives g.D.Device (shown c.args.self) (Contains c.args.sections.now) (IsAnyBelow (Contains c.args.sections.now) c.args.self.floor) c.args.dev.now c.sync.new.dev)
    (sym (err_seen (λ p. shown p.0) c.from_residual.result _ c.from_residual.ensures.1)) c.in_err-this.ensures

pub returns : goal.returns
returns g c = c.in_ok-this.ensures
