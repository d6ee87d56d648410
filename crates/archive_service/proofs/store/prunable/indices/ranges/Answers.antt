use Rattle.std.proofs.Common.{refl}
use Rattle.archives.specs.Commands.{Ranges}
use Rattle.archives.specs.Machine.{replied}
use Rattle.archives.specs.Replies as reply
use Rattle.archives.specs.declared.commands.Reply.TheVariants as said
use Rattle.ordinal_store.specs.Numbers.{AreRuns}
use Rattle.archive_service.specs.declared.store.openable.Openable.TheVariants.{Open}
use Rattle.archive_service.proofs.LookAnswers.{indices_given, one_given}
use Rattle.archive_service.proofs.StoreLemmas.{given_by, seen_so}
use Rattle.archive_service.proofs.store.prunable.indices.ranges.Goals as goal
use Rattle.archive_service.specs.lemmas.Store.{answers_with}

pub returns : goal.returns
returns g c =
    answers_with _ g.D.Device (Open c.args.archive) _ _ _ _ _ (seen_so (λ r. (r.0, replied g.V.Codec.spelling r.1)) (λ list. (Open c.args.archive, said.Ranges list)) c.runs_of-runs.result c.ranged.result c.ranged.ensures)
    (indices_given _ _ _ g.D.Device _ _ (given_by _ (λ u. refl) g.D.Device c.args._cfg.now c.args.archive c.args.dev.now c.requires.usable c.crash_laws.ensures)
    Ranges tt reply.Ranges AreRuns (λ runs are. (are, refl)) c.runs_of-runs.result
    (one_given (AreRuns _) c.ranges-2.result c.ranges-2.ensures c.runs_of-runs.result c.runs_of-runs.ensures.runs c.runs_of-runs.ensures.memory))
