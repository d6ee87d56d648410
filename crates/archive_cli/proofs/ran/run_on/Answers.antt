use Rattle.archive_program.specs.lemmas.Words.{status_for}
use Rattle.archive_cli.proofs.ran.run_on.Goals as goal

pub returns : goal.returns
returns g c = status_for _ _ c.run-ended.ensures.statuses c.run-ended.ensures.usage c.run-ended.ensures.form
