use Rattle.std.proofs.Common.{ap, map, rules}
use Rattle.archives.specs.Machine.{replied}
use Rattle.archive_program.specs.Words.{Script}
use Rattle.archive_program.proofs.ServedLemmas.{not_served, run_answered}
use Rattle.archive_program.proofs.answer.served.Goals as goal

pub returns-in-Some : goal.returns-in-Some
returns-in-Some g c = run_answered c.args.settings.now (Script c.args.items) g.D.Device c.args.dev.now _ _ _ c.args.script.now _ _ _ _
    (ap (map (replied (λ v. v))) c.as_slice.ensures) c.in-Some.ensures c.answer_at.ensures

pub returns-in-None : goal.returns-in-None
returns-in-None g c = not_served c.args.settings.now (Script c.args.items) g.D.Device c.args.dev.now _ _ _ c.in-None.ensures c.args.script.now
    (record { status = search rules; marks = cc; error = search rules; nothing = search rules })
