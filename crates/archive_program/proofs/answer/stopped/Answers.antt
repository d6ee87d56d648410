use Rattle.archive_program.proofs.ServedLemmas.{ends_for_memory, ends_stopped}
use Rattle.archive_program.proofs.answer.stopped.Goals as goal

pub returns-in-Mem : goal.returns-in-Mem
returns-in-Mem c = ends_for_memory _ _ _ _ _ (cc) c.no_memory.ensures.status c.no_memory.ensures.marks c.no_memory.ensures.error c.no_memory.ensures.text

pub returns-in_default : goal.returns-in_default
returns-in_default c = ends_stopped _ _ _ _ _ c.in_default.not-Mem c.failed.ensures
