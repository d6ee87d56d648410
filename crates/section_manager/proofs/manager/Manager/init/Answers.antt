use Rattle.section_manager.proofs.manager.Manager.init.Goals as goal

pub returns : goal.returns
returns g c = c.init_bounded.ensures
