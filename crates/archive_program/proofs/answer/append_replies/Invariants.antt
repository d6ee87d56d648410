use Rattle.std.proofs.Common.{◌≡◌, ◌++◌, map, take}
use Rattle.archives.specs.Machine.{replied}
use Rattle.archive_service.specs.Texts.{replies_text}
use Rattle.archive_program.proofs.answer.append_replies.Given as goal

abbrev pub invariant-loop-reply : goal.invariant-loop-reply
invariant-loop-reply l = l.text.items ≡ l.initial.text.items ++ replies_text (map (replied (λ v. v)) (take l.reply-index l.replies))
