use Rattle.std.proofs.Common.{refl, rules}
use Rattle.archive_program.specs.Words.{Script}
use Rattle.archive_program.proofs.ServedLemmas.{commands_answered, line_named, not_answered}
use Rattle.archive_program.proofs.answer.answer_of.Goals as goal

pub returns-in-Ok : goal.returns-in-Ok
returns-in-Ok g c = commands_answered c.args.settings.now (Script c.args.items) g.D.Device c.args.dev.now _ _ _ c.args.input.now c.in-Ok.script c.in-Ok.ensures c.served.ensures

pub returns-in-Err-Line : goal.returns-in-Err-Line
returns-in-Err-Line g c = line_named c.args.settings.now (Script c.args.items) g.D.Device c.args.dev.now _ _ _ refl c.args.input.now c.in-Err-Line.number
    (rw c.in-Err-Line.field-0-is at c.in-Err-Line.ensures) c.bad_line.ensures

pub returns-in-Err-Mem : goal.returns-in-Err-Mem
returns-in-Err-Mem g c = not_answered c.args.settings.now (Script c.args.items) g.D.Device c.args.dev.now _ _ _ refl c.args.input.now
    (record { status = search rules; marks = cc; error = search rules; nothing = search rules })
