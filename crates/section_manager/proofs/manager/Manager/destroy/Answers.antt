use Rattle.section_manager.specs.managing.Managed.{shown}
use Rattle.section_manager.proofs.sections.RemovingEnds.{destroy_failed, destroyed}
use Rattle.section_manager.proofs.manager.Manager.destroy.Goals as goal
use Rattle.blob_device.proofs.general.Results.{err_of}

pub returns-in_err-clear : goal.returns-in_err-clear
returns-in_err-clear g c = destroy_failed g.F.Buffer.SectionBuffer g.F.BufferFactory.gives g.D.Device (shown c.args.self) c.args.dev.now c.clear.new.dev _ _ (err_of c.from_residual.result _ c.from_residual.ensures.1) c.in_err-clear.ensures

pub returns : goal.returns
returns g c = destroyed g.F.Buffer.SectionBuffer g.F.BufferFactory.gives g.D.Device (shown c.args.self) c.args.dev.now c.clear.new.dev _ _ c.in_ok-clear.ensures
