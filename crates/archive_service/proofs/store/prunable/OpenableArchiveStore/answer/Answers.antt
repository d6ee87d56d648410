use Rattle.archive_service.proofs.StoreLemmas.{answers_of}
use Rattle.archive_service.proofs.store.prunable.OpenableArchiveStore.answer.Goals as goal

pub returns-in-Open : goal.returns-in-Open
returns-in-Open g c = answers_of _ g.D.Device _ _ _ _ _ _ c.in-Open.is c.carry_out.ensures

pub returns-in-Closed : goal.returns-in-Closed
returns-in-Closed g c = answers_of _ g.D.Device _ _ _ _ _ _ c.in-Closed.is c.answer_closed.ensures
