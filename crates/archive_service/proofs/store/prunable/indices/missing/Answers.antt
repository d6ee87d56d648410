use Rattle.std.proofs.Common.{refl, Ok, subst, sym}
use Rattle.archives.specs.Commands.{Missing}
use Rattle.archives.specs.Machine.{replied}
use Rattle.archives.specs.Replies as reply
use Rattle.archives.specs.declared.commands.Reply.TheVariants as said
use Rattle.ordinal_store.specs.Numbers.{AreMissing}
use Rattle.archive_service.specs.declared.store.openable.Openable.TheVariants.{Open}
use Rattle.archive_service.proofs.LookAnswers.{indices_given, missing_given, none_missing}
use Rattle.archive_service.proofs.StoreLemmas.{given_by, seen_so}
use Rattle.archive_service.proofs.store.prunable.indices.missing.Goals as goal
use Rattle.archive_service.specs.lemmas.Store.{answers_with}

-- none were asked for
pub returns-then-count-eq0 : goal.returns-then-count-eq0
returns-then-count-eq0 g c =
    answers_with _ g.D.Device (Open c.args.archive) _ _ _ _ _ (seen_so (λ r. (r.0, replied g.V.Codec.spelling r.1)) (λ list. (Open c.args.archive, said.Items list)) (Ok c.new.result) c.listed.result c.listed.ensures)
    (indices_given _ _ _ g.D.Device _ _ (given_by _ (λ u. refl) g.D.Device c.args._cfg.now c.args.archive c.args.dev.now c.requires.usable c.crash_laws.ensures)
    (Missing c.args.wanted.0 c.args.wanted.1) tt reply.Items (λ set numbers. AreMissing set c.args.wanted.0 c.args.wanted.1 numbers) (λ numbers are. (are, refl)) (Ok c.new.result)
    (subst (AreMissing _ c.args.wanted.0 c.args.wanted.1) (sym c.new.ensures) (none_missing _ c.args.wanted.0 c.args.wanted.1 c.if-count-eq0.true)))

pub returns : goal.returns
returns g c =
    answers_with _ g.D.Device (Open c.args.archive) _ _ _ _ _ (seen_so (λ r. (r.0, replied g.V.Codec.spelling r.1)) (λ list. (Open c.args.archive, said.Items list)) c.missing_items-missing.result c.listed-2.result c.listed-2.ensures)
    (indices_given _ _ _ g.D.Device _ _ (given_by _ (λ u. refl) g.D.Device c.args._cfg.now c.args.archive c.args.dev.now c.requires.usable c.crash_laws.ensures)
    (Missing c.args.wanted.0 c.args.wanted.1) tt reply.Items (λ set numbers. AreMissing set c.args.wanted.0 c.args.wanted.1 numbers) (λ numbers are. (are, refl)) c.missing_items-missing.result
    (missing_given _ c.args.wanted.0 c.args.wanted.1 c.missing_items-missing.result c.missing_items-missing.ensures))
