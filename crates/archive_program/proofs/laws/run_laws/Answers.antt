use Rattle.archive_service.specs.lemmas.Run.{laws_of_run}
use Rattle.archive_program.specs.Program.{program_filing}
use Rattle.archive_program.proofs.laws.run_laws.Goals as goal

pub returns : goal.returns
returns c settings items old new commands marks faults_old faults_new replies end served =
    laws_of_run (program_filing settings items) settings.write_buffer settings.write_buffer old new commands marks faults_old faults_new replies end served
