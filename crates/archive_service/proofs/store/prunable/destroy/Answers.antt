use Rattle.std.proofs.Common.{refl, ◌∙◌, ap, ℕ}
use Rattle.archives.specs.Changes.{outcome}
use Rattle.archives.specs.Machine.{replied}
use Rattle.archives.specs.declared.commands.Reply.TheVariants.{Done}
use Rattle.archive_service.specs.declared.store.openable.Openable.TheVariants.{Closed, Open}
use Rattle.archive_service.proofs.OpenableLemmas.{destroy_answers}
use Rattle.archive_service.proofs.StoreLemmas.{given_by, seen_so}
use Rattle.archive_service.proofs.store.prunable.destroy.Goals as goal
use Rattle.archive_service.specs.lemmas.Store.{answers_with}

pub returns : goal.returns
returns g c =
    answers_with _ g.D.Device (Open c.args.archive) _ _ _ _ _ (seen_so (λ r. (r.0, replied g.V.Codec.spelling r.1)) (λ gone. (Closed c.args.archive.floor, Done)) c.destroy.result c.closed.result
    (c.closed.ensures ∙ ap (λ (floor : ℕ). outcome (λ gone. (Closed floor, Done)) c.destroy.result) c.floor-floor.ensures))
    (destroy_answers _ _ _ g.D.Device _ _ (given_by _ (λ u. refl) g.D.Device c.args._cfg.now c.args.archive c.args.dev.now c.requires.usable c.crash_laws.ensures) c.destroy.new.dev c.destroy.result c.destroy.ensures)
