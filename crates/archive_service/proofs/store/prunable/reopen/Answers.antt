use Rattle.std.proofs.Common.{refl, arith}
use Rattle.archives.specs.Machine.{replied}
use Rattle.archives.specs.declared.commands.Reply.TheVariants.{Done}
use Rattle.archive_service.specs.declared.store.openable.Openable.TheVariants.{Open}
use Rattle.archive_service.proofs.OpeningAnswers.{reopen_answers}
use Rattle.archive_service.proofs.StoreLemmas.{given_by, seen_so}
use Rattle.archive_service.proofs.store.prunable.reopen.Goals as goal
use Rattle.archive_service.specs.lemmas.Store.{answers_with}

pub returns : goal.returns
returns g c =
    answers_with _ g.D.Device (Open c.args.archive) _ _ _ _ _ (seen_so (λ r. (r.0, replied g.V.Codec.spelling r.1)) (λ r. (Open r, Done)) c.init.result c.done.result c.done.ensures)
    (reopen_answers _ _ _ g.D.Device c.args.dev.now c.init.new.dev (omega arith) (λ t q. g.met.D.Device.as_read t c.args.dev.now q) c.init.result c.init.ensures
    c.args.archive (given_by _ (λ u. refl) g.D.Device c.args.cfg.now c.args.archive c.args.dev.now c.requires.usable c.crash_laws.ensures))
