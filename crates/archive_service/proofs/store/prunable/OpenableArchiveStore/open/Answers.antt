use Rattle.std.proofs.Common.{arith}
use Rattle.archives.specs.Config.{IsValid}
use Rattle.archives.specs.Shown.{setup_for}
use Rattle.paired.specs.lemmas.reconcile.Entries.{markers_readable}
use Rattle.archive_service.proofs.OpeningAnswers.{open_answers}
use Rattle.archive_service.proofs.StoreLemmas.{opens_with}
use Rattle.archive_service.proofs.store.prunable.OpenableArchiveStore.open.Goals as goal

pub returns : goal.returns
returns g c =
    opens_with _ g.D.Device _ _ _ _ c.opened.ensures
    (open_answers _ (setup_for g.K.Key.SIZE g.S.Seal g.V.Codec g.T.Translator.word_of g.T.Word.PartialEq.eq c.args.cfg.now) (IsValid c.args.cfg.now) g.D.Device
    c.args.dev.now c.init.new.dev (markers_readable g.S.Seal) (omega arith) c.start_laws.ensures c.init.result c.init.ensures)
