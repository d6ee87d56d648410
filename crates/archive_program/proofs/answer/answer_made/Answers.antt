-- The script is generated, and served as any other.
use Rattle.std.proofs.Common.{[], refl, sym, subst, rules, arith}
use Rattle.std.specs.List.{AllByRecursion}
use Rattle.archive_service.specs.Script.{CanBeSaid}
use Rattle.archive_service.specs.lemmas.Made.{made_said}
use Rattle.archive_program.specs.Words.{Make}
use Rattle.archive_program.proofs.ServedLemmas.{commands_answered, not_answered, run_answered}
use Rattle.archive_program.proofs.answer.answer_made.Goals as goal

pub run_of-requires-clause-values : goal.run_of-requires-clause-values
run_of-requires-clause-values g c =
    subst (AllByRecursion (CanBeSaid c.args.settings.now.max_value)) (sym c.in-Ok.ensures) (made_said c.args.settings.now.max_value c.args.count c.requires.settings.some_value (omega arith))

pub returns-in_default : goal.returns-in_default
returns-in_default g c = not_answered c.args.settings.now (Make c.args.items c.args.count) g.D.Device c.args.dev.now _ _ _ refl []
    (record { status = search rules; marks = cc; error = search rules; nothing = search rules })

pub returns-in-Some : goal.returns-in-Some
returns-in-Some g c =
    let answers = run_answered c.args.settings.now (Make c.args.items c.args.count) g.D.Device c.args.dev.now _ _ _ c.in-Ok.script _ _ _ _ refl c.in-Some.ensures c.summed_at.ensures in
    commands_answered c.args.settings.now (Make c.args.items c.args.count) g.D.Device c.args.dev.now _ _ _ [] c.in-Ok.script c.in-Ok.ensures answers

pub returns : goal.returns
returns g c = not_answered c.args.settings.now (Make c.args.items c.args.count) g.D.Device c.args.dev.now _ _ _ c.in-None.ensures []
    (record { status = search rules; marks = cc; error = search rules; nothing = search rules })
