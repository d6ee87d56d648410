use Rattle.std.proofs.Common.{refl}
use Rattle.archives.specs.Commands.{Gap}
use Rattle.archives.specs.Replies as reply
use Rattle.archives.specs.Indices.{IsGap}
use Rattle.archive_service.proofs.LookAnswers.{indices_told}
use Rattle.archive_service.proofs.StoreLemmas.{given_by}
use Rattle.archive_service.proofs.store.prunable.indices.gap.Goals as goal

pub returns : goal.returns
returns g c =
    indices_told _ _ _ g.D.Device _ _ (given_by _ (λ u. refl) g.D.Device c.args._cfg.now c.args.archive c.args.dev.now c.requires.usable c.crash_laws.ensures)
    (Gap c.args.index) tt (λ gap. reply.Gap gap.0 gap.1) (λ set gap. IsGap set c.args.index gap) (λ gap is. (is.end, is.next, refl)) c.next_gap-end.result c.next_gap-end.ensures
