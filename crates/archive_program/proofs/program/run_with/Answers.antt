use Rattle.std.proofs.Common.{refl, arith}
use Rattle.archive_program.specs.WordsSeen.{job_seen}
use Rattle.archive_program.proofs.ProgramLemmas.{in_full, in_part, runs_short_of_memory, runs_unanswered, runs_usage, runs_write_fault, runs_written}
use Rattle.archive_program.proofs.WordsLemmas.{may_be_done}
use Rattle.archive_program.proofs.program.run_with.Goals as goal

pub answer_to-requires-clause-job : goal.answer_to-requires-clause-job
answer_to-requires-clause-job g c = may_be_done _ (job_seen c.in-Some.job) c.in-Some.ensures

-- ---- there is no answer

pub returns-in_default : goal.returns-in_default
returns-in_default g c = runs_usage _ _ _ g.D.Device _ _ g.S.Source _ _ g.W.Sink _ _
    (record { untouched = refl; marks = c.unserved.ensures.marks; error = c.unserved.ensures.error }) refl (omega arith) c.unserved.ensures.status c.in_default.ensures refl

pub returns-in-Err : goal.returns-in-Err
returns-in-Err g c = runs_unanswered _ _ _ g.D.Device _ _ g.S.Source _ _ g.W.Sink _ _ (job_seen c.in-Some.job) c.in-Some.ensures c.in-Err.status c.in-Err.ensures c.unserved-in-Err.ensures refl

-- ---- there is one, and its text is written

pub returns-in-Ok-write_output : goal.returns-in-Ok-write_output
returns-in-Ok-write_output g c = runs_written _ _ _ g.D.Device _ _ g.S.Source _ _ g.W.Sink _ _
    (job_seen c.in-Some.job) c.in-Some.ensures _ _ _ c.in-Ok.answer.ended refl refl c.in-Ok.ensures.0.answer c.as_slice.ensures.value c.in-Ok.ensures.0.read c.in-Ok.ensures.1
    refl (λ t. in_full _ _ _ _ (c.in-Ok-write_output.ensures.told t)) (λ nil. (c.in-Ok-write_output.ensures.nothing nil).1)

pub returns-in-Err-Fault : goal.returns-in-Err-Fault
returns-in-Err-Fault g c = runs_write_fault _ _ _ g.D.Device _ _ g.S.Source _ _ g.W.Sink _ _
    (job_seen c.in-Some.job) c.in-Some.ensures _ _ _ c.in-Ok.answer.ended refl refl c.in-Ok.ensures.0.answer c.as_slice.ensures.value c.in-Ok.ensures.0.read c.in-Ok.ensures.1
    (λ t. in_part _ _ _ _ (c.in-Err-Fault.ensures.told t)) (λ nil. cc (c.in-Err-Fault.ensures.nothing nil).0) refl (c.in-Err-Fault.ensures.cause (cc))

pub returns : goal.returns
returns g c = runs_short_of_memory _ _ _ g.D.Device _ _ g.S.Source _ _ g.W.Sink _ _
    (job_seen c.in-Some.job) c.in-Some.ensures _ _ _ c.in-Ok.answer.ended refl refl c.in-Ok.ensures.0.answer c.as_slice.ensures.value c.in-Ok.ensures.0.read c.in-Ok.ensures.1
    (λ t. in_part _ _ _ _ (c.in-Err-Mem.ensures.told t)) (λ nil. cc (c.in-Err-Mem.ensures.nothing nil).0) refl
