use Rattle.std.proofs.Common.{refl}
use Rattle.archives.specs.Commands.{First}
use Rattle.archives.specs.Replies as reply
use Rattle.ordinal_store.specs.Numbers.{IsLeast}
use Rattle.archive_service.proofs.LookAnswers.{indices_told}
use Rattle.archive_service.proofs.StoreLemmas.{given_by}
use Rattle.archive_service.proofs.store.prunable.indices.first.Goals as goal

pub returns : goal.returns
returns g c =
    indices_told _ _ _ g.D.Device _ _ (given_by _ (λ u. refl) g.D.Device c.args._cfg.now c.args.archive c.args.dev.now c.requires.usable c.crash_laws.ensures)
    First tt reply.Index IsLeast (λ index is. (is, refl)) c.first_index-index.result c.first_index-index.ensures
