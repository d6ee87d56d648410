use Rattle.archive_program.specs.lemmas.Words.{status_in}
use Rattle.archive_cli.proofs.served.Goals as goal

pub returns-in-None : goal.returns-in-None
returns-in-None c = status_in _ _ c.run_in_memory.ensures

pub returns-in-Some : goal.returns-in-Some
returns-in-Some c = c.run_in.ensures
