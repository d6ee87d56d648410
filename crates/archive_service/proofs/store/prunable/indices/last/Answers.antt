use Rattle.std.proofs.Common.{refl}
use Rattle.archives.specs.Commands.{Last}
use Rattle.archives.specs.Replies as reply
use Rattle.ordinal_store.specs.Numbers.{IsGreatest}
use Rattle.archive_service.proofs.LookAnswers.{indices_told}
use Rattle.archive_service.proofs.StoreLemmas.{given_by}
use Rattle.archive_service.proofs.store.prunable.indices.last.Goals as goal

pub returns : goal.returns
returns g c =
    indices_told _ _ _ g.D.Device _ _ (given_by _ (λ u. refl) g.D.Device c.args._cfg.now c.args.archive c.args.dev.now c.requires.usable c.crash_laws.ensures)
    Last tt reply.Index IsGreatest (λ index is. (is, refl)) c.last_index-index.result c.last_index-index.ensures
