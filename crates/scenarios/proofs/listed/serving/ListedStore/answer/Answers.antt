use Rattle.std.proofs.Common.{ap, subst, ℕ}
use Rattle.value_codec.specs.Keys.{key8_bytes}
use Rattle.archives.specs.Commands.{Reopen}
use Rattle.archives.specs.Machine.{Step, asked, replied}
use Rattle.archives.specs.plain.Machine.{state_of}
use Rattle.archives.specs.Replies as reply
use Rattle.archive_service.specs.lemmas.Store.{answers_to}
use Rattle.scenarios.specs.ListedKind.{listed_serving}
use Rattle.scenarios.proofs.ListedLemmas.{listed_answers, listed_step}
use Rattle.scenarios.proofs.listed.serving.ListedStore.answer.Goals as goal

pub returns-in-Reopen : goal.returns-in-Reopen
returns-in-Reopen g c =
    answers_to listed_serving g.D.Device c.args.self _ _ _ _ _ (ap (asked key8_bytes (λ v. v)) c.in-Reopen.is)
    (listed_answers g.D.Device c.args._dev.now c.args.self Reopen c.empty.result reply.Done c.empty.ensures)

pub returns-in_ok-reply-in_default : goal.returns-in_ok-reply-in_default
returns-in_ok-reply-in_default g c =
    let given = replied (λ v. v) c.in_ok-reply-in_default.reply in
    listed_answers g.D.Device c.args._dev.now c.args.self (asked key8_bytes (λ v. v) c.args.command.now) _ given
    (listed_step c.args.command.now given (state_of key8_bytes c.args.self.machine) (state_of key8_bytes c.step.new.self) c.in_default.not-Reopen
    (subst (λ (n : ℕ). Step n (state_of key8_bytes c.args.self.machine) (asked key8_bytes (λ v. v) c.args.command.now) given (state_of key8_bytes c.step.new.self)) c.args.self.has_one c.in_ok-reply-in_default.ensures.step))
