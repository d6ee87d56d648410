use Rattle.std.proofs.Common.{refl}
use Rattle.archives.specs.Machine.{replied}
use Rattle.archives.specs.Putting.{Once}
use Rattle.archives.specs.declared.commands.Reply.TheVariants.{Done}
use Rattle.archive_service.specs.declared.store.openable.Openable.TheVariants.{Open}
use Rattle.archive_service.proofs.PutAnswers.{put_answers}
use Rattle.archive_service.proofs.StoreLemmas.{given_by, seen_so}
use Rattle.archive_service.proofs.store.prunable.put.Goals as goal
use Rattle.archive_service.specs.lemmas.Store.{answers_with}

pub returns : goal.returns
returns g c =
    answers_with _ g.D.Device (Open c.args.archive) _ _ _ _ _ (seen_so (λ r. (r.0, replied g.V.Codec.spelling r.1)) (λ r. (Open r, Done)) c.put.result c.done.result c.done.ensures)
    (put_answers _ _ _ g.D.Device _ _ (given_by _ (λ u. refl) g.D.Device c.args._cfg.now c.args.archive c.args.dev.now c.requires.usable c.crash_laws.ensures)
    Once c.args.put.0 (g.K.Key.key_bytes c.args.put.1) (g.V.Codec.spelling c.args.put.2.now) c.put.new.dev c.put.result c.put.ensures)
