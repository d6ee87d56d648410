-- By the job: its input is read and answered, or not read; or its script is generated.
use Rattle.std.proofs.Common.{Ok, Err, refl}
use Rattle.archive_program.specs.declared.input.InputError.TheVariants as why
use Rattle.archive_program.specs.declared.words.Job.TheVariants as job
use Rattle.archive_program.proofs.AnsweringLemmas.{answers_as, made_answers, read_answers, status_for, unread_answers}
use Rattle.archive_program.proofs.program.answer_to.Goals as goal

pub answer_of-requires-clause-items : goal.answer_of-requires-clause-items
answer_of-requires-clause-items g c = rw c.in-Script.is at c.requires.job

pub answer_made-requires-clause-items : goal.answer_made-requires-clause-items
answer_made-requires-clause-items g c = rw c.in-Make.is at c.requires.job

pub returns-in-Ok : goal.returns-in-Ok
returns-in-Ok g c = answers_as c.args.settings.now g.D.Device c.args.dev.now c.answer_of.new.dev g.S.Source c.args.input.now c.read_input.new.input c.args.job (job.Script c.in-Script.items) (Ok (c.answer_of.result.ended, c.answer_of.result.text.items)) (cc)
    (read_answers c.args.settings.now g.D.Device c.args.dev.now c.answer_of.new.dev g.S.Source c.args.input.now c.read_input.new.input c.in-Script.items _ _ _ _ c.as_slice.ensures.value c.in-Ok.ensures c.answer_of.ensures)

pub returns-in-Err-Fault : goal.returns-in-Err-Fault
returns-in-Err-Fault g c = answers_as c.args.settings.now g.D.Device c.args.dev.now c.args.dev.now g.S.Source c.args.input.now c.read_input.new.input c.args.job (job.Script c.in-Script.items) (Err (status_for why.Fault)) (cc)
    (unread_answers c.args.settings.now g.D.Device c.args.dev.now c.args.dev.now g.S.Source c.args.input.now c.read_input.new.input c.in-Script.items _ why.Fault c.in-Err-Fault.field-0-is refl c.in-Err-Fault.ensures)

pub returns-in-Err-TooLong : goal.returns-in-Err-TooLong
returns-in-Err-TooLong g c = answers_as c.args.settings.now g.D.Device c.args.dev.now c.args.dev.now g.S.Source c.args.input.now c.read_input.new.input c.args.job (job.Script c.in-Script.items) (Err (status_for why.TooLong)) (cc)
    (unread_answers c.args.settings.now g.D.Device c.args.dev.now c.args.dev.now g.S.Source c.args.input.now c.read_input.new.input c.in-Script.items _ why.TooLong c.in-Err-TooLong.field-0-is refl c.in-Err-TooLong.ensures)

pub returns-in-Err-Mem : goal.returns-in-Err-Mem
returns-in-Err-Mem g c = answers_as c.args.settings.now g.D.Device c.args.dev.now c.args.dev.now g.S.Source c.args.input.now c.read_input.new.input c.args.job (job.Script c.in-Script.items) (Err (status_for why.Mem)) (cc)
    (unread_answers c.args.settings.now g.D.Device c.args.dev.now c.args.dev.now g.S.Source c.args.input.now c.read_input.new.input c.in-Script.items _ why.Mem c.in-Err-Mem.field-0-is refl c.in-Err-Mem.ensures)

pub returns-in-Make : goal.returns-in-Make
returns-in-Make g c = answers_as c.args.settings.now g.D.Device c.args.dev.now c.answer_made.new.dev g.S.Source c.args.input.now c.args.input.now c.args.job (job.Make c.in-Make.items c.in-Make.count) (Ok (c.answer_made.result.ended, c.answer_made.result.text.items)) (cc)
    (made_answers c.args.settings.now g.D.Device c.args.dev.now c.answer_made.new.dev g.S.Source c.args.input.now c.args.input.now c.in-Make.items c.in-Make.count _ _ refl c.answer_made.ensures)
