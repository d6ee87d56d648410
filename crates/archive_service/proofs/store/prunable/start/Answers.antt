use Rattle.std.proofs.Common.{refl}
use Rattle.archives.specs.Changes.{outcome}
use Rattle.archives.specs.Machine.{replied}
use Rattle.archives.specs.Replies as reply
use Rattle.archives.specs.declared.commands.Reply.TheVariants.{Done}
use Rattle.archive_service.specs.declared.store.openable.Openable.TheVariants.{Open}
use Rattle.archive_service.proofs.SyncAnswers.{start_answers}
use Rattle.archive_service.proofs.StoreLemmas.{given_by, seen_first}
use Rattle.archive_service.proofs.store.prunable.start.Goals as goal
use Rattle.archive_service.specs.lemmas.Store.{answers_with}

pub returns : goal.returns
returns g c =
    answers_with _ g.D.Device (Open c.args.archive) _ _ _ _ _ (seen_first (λ r. (r.0, replied g.V.Codec.spelling r.1)) (λ r. (Open r.0, Done)) (λ r. r.0) (λ r. (Open r, reply.Done)) c.start_sync.result c.started.result c.started.ensures (λ r. refl))
    (start_answers _ _ _ g.D.Device _ _ (given_by _ (λ u. refl) g.D.Device c.args._cfg.now c.args.archive c.args.dev.now c.requires.usable c.crash_laws.ensures)
    c.start_sync.new.dev (outcome (λ r. r.0) c.start_sync.result) c.start_sync.ensures)
