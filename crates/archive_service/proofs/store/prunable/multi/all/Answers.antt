use Rattle.std.proofs.Common.{refl}
use Rattle.archives.specs.Machine.{replied}
use Rattle.archives.specs.declared.commands.Reply.TheVariants.{Values}
use Rattle.archive_service.specs.declared.store.openable.Openable.TheVariants.{Open}
use Rattle.archive_service.proofs.LookAnswers.{all_answers}
use Rattle.archive_service.proofs.StoreLemmas.{given_by, seen_so}
use Rattle.archive_service.proofs.store.prunable.multi.all.Goals as goal
use Rattle.archive_service.specs.lemmas.Store.{answers_with}

pub returns : goal.returns
returns g c =
    answers_with _ g.D.Device (Open c.args.archive) _ _ _ _ _ (seen_so (λ r. (r.0, replied g.V.Codec.spelling r.1)) (λ r. (Open c.args.archive, Values r)) c.get_all-answer.result c.listed.result c.listed.ensures)
    (all_answers _ _ _ g.D.Device _ _ (given_by _ (λ u. refl) g.D.Device c.args._cfg.now c.args.archive c.args.dev.now c.requires.usable c.crash_laws.ensures)
    c.args.index c.get_all-answer.new.dev c.get_all-answer.result c.get_all-answer.ensures)
