use Rattle.archive_service.specs.lemmas.Run.{laws_of_run}
use Rattle.archive_service.proofs.laws.run_laws.Goals as goal

pub returns : goal.returns
returns g c old new commands marks faults_old faults_new replies end served = laws_of_run _ _ _ old new commands marks faults_old faults_new replies end served
