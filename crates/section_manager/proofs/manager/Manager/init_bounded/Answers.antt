use Rattle.std.specs.Prelude.{string_bytes}
use Rattle.section_manager.specs.managing.Finding.{finding}
use Rattle.section_manager.specs.managing.Managed.{shown}
use Rattle.section_manager.specs.lemmas.Seen.{err_seen}
use Rattle.section_manager.proofs.sections.InitEnds.{found_there, init_refused, inits_after}
use Rattle.section_manager.proofs.manager.Manager.init_bounded.Goals as goal

pub returns-in_err-found : goal.returns-in_err-found
returns-in_err-found g c = init_refused g.F.Buffer.SectionBuffer g.F.BufferFactory.gives g.D.Device (string_bytes c.args.cfg.partition) c.args.cfg.factory c.args.ceiling c.args.dev.now c.scan.new.dev
    _ _ (err_seen shown c.from_residual.result _ c.from_residual.ensures.1) c.in_err-found.ensures

pub open-requires : goal.open-requires
open-requires g c = record {
  there = found_there g.F.Buffer.SectionBuffer g.F.BufferFactory.gives g.D.Device (string_bytes c.args.cfg.partition) c.args.cfg.factory c.args.ceiling c.args.dev.now c.scan.new.dev (finding c.in_ok-found.found) c.in_ok-found.ensures;
}

pub returns : goal.returns
returns g c = inits_after g.F.Buffer.SectionBuffer g.F.BufferFactory.gives g.D.Device (string_bytes c.args.cfg.partition) c.args.cfg.factory c.args.ceiling c.args.dev.now c.scan.new.dev (finding c.in_ok-found.found) c.in_ok-found.ensures
    c.open.new.dev _ c.open.ensures
