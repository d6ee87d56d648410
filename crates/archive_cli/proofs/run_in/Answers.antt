use Rattle.std.proofs.Common.{subst, sym}
use Rattle.archive_program.specs.WordsSeen.{IsStatusFor}
use Rattle.archive_program.specs.lemmas.Words.{no_memory_in, status_in}
use Rattle.archive_cli.proofs.run_in.Goals as goal

pub returns-in_default : goal.returns-in_default
returns-in_default c = no_memory_in _ _ c.args.folder.now c.requires c.report.ensures

pub returns : goal.returns
returns c = status_in _ _ (subst (IsStatusFor _) (sym c.tell.ensures) c.run_on-ran.ensures)
