use Rattle.archive_service.specs.declared.replies.End.TheVariants.{Done, Failed}
use Rattle.archive_program.proofs.ServedLemmas.{ends_at}
use Rattle.archive_program.proofs.answer.answer_at.Goals as goal

pub returns-in-Done : goal.returns-in-Done
returns-in-Done c = ends_at _ _ _ _ _ Done (cc) c.answered.ensures

pub returns-in-Failed : goal.returns-in-Failed
returns-in-Failed c = ends_at _ _ _ _ _ (Failed c.in-Failed.error) (cc) c.stopped.ensures
