use Rattle.std.proofs.Common.{arith, ap}
use Rattle.archives.specs.Commands.{Reopen}
use Rattle.archives.specs.Config.{IsValid}
use Rattle.archives.specs.Machine.{asked, replied}
use Rattle.archives.specs.Shown.{setup_for}
use Rattle.archives.specs.declared.commands.Reply.TheVariants.{Done}
use Rattle.archive_service.specs.declared.store.openable.Openable.TheVariants.{Closed, Open}
use Rattle.archive_service.proofs.OpenableLemmas.{closed_answers, not_so, one_of}
use Rattle.archive_service.proofs.OpeningAnswers.{closed_reopens}
use Rattle.archive_service.proofs.StoreLemmas.{seen_so}
use Rattle.archive_service.proofs.store.prunable.answer_closed.Goals as goal
use Rattle.archive_service.specs.lemmas.Store.{answers_to, answers_with}

-- it is opened
pub returns-in-Reopen : goal.returns-in-Reopen
returns-in-Reopen g c =
    answers_to _ g.D.Device (Closed c.args.floor) _ _ _ _ _ (ap (asked g.K.Key.key_bytes g.V.Codec.spelling) c.in-Reopen.is)
    (answers_with _ g.D.Device (Closed c.args.floor) _ _ _ _ _ (seen_so (λ r. (r.0, replied g.V.Codec.spelling r.1)) (λ r. (Open r, Done)) c.init.result c.done.result c.done.ensures)
    (closed_reopens _ (setup_for g.K.Key.SIZE g.S.Seal g.V.Codec g.T.Translator.word_of g.T.Word.PartialEq.eq c.args.cfg.now) (IsValid c.args.cfg.now) g.D.Device c.args.dev.now c.init.new.dev
    (omega arith) (λ t q. g.met.D.Device.as_read t c.args.dev.now q) c.init.result c.init.ensures c.args.floor))

-- nothing else is done: it is none of the others
pub returns-in-Put : goal.returns-in-Put
returns-in-Put g c = closed_answers _ _ _ g.D.Device c.args.floor c.args.dev.now (asked g.K.Key.key_bytes g.V.Codec.spelling c.args.command.now) (λ is.
    let none = not_so g.K.Key.key_bytes g.V.Codec.spelling c.args.command.now Reopen is in
    one_of c.in-Put.is (λ it. none _ it.3 (λ e. cc e)) (λ rest.
    one_of rest (λ it. none _ it.3 (λ e. cc e)) (λ rest.
    one_of rest (λ it. none _ it.3 (λ e. cc e)) (λ rest.
    one_of rest (λ it. none _ it.3 (λ e. cc e)) (λ rest.
    one_of rest (λ it. none _ it.3 (λ e. cc e)) (λ rest.
    one_of rest (λ it. none _ it.3 (λ e. cc e)) (λ rest.
    one_of rest (λ it. none _ it.1 (λ e. cc e)) (λ rest.
    one_of rest (λ it. none _ it.1 (λ e. cc e)) (λ rest.
    one_of rest (λ it. none _ it.1 (λ e. cc e)) (λ rest.
    one_of rest (λ it. none _ it.1 (λ e. cc e)) (λ rest.
    one_of rest (λ it. none _ it.2 (λ e. cc e)) (λ rest.
    one_of rest (λ it. none _ it.1 (λ e. cc e)) (λ rest.
    one_of rest (λ it. none _ it.1 (λ e. cc e)) (λ rest.
    one_of rest (λ it. none _ it.2 (λ e. cc e)) (λ rest.
    one_of rest (λ it. none _ it (λ e. cc e)) (λ rest.
    one_of rest (λ it. none _ it.1 (λ e. cc e)) (λ rest.
    one_of rest (λ it. none _ it (λ e. cc e)) (λ rest.
    one_of rest (λ it. none _ it (λ e. cc e)) (λ rest.
    one_of rest (λ it. none _ it (λ e. cc e)) (λ rest.
    one_of rest (λ it. none _ it (λ e. cc e)) (λ rest.
    one_of rest (λ it. none _ it.1 (λ e. cc e)) (λ rest.
    none _ rest (λ e. cc e)))))))))))))))))))))))
