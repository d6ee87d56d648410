use Rattle.std.proofs.Common.{◌≡◌, ◌++◌, take}
use Rattle.std.specs.Fmt.{decimal}
use Rattle.archive_service.specs.Texts.{words_text}
use Rattle.archive_service.proofs.text.append_items.Given as goal

-- the words of the numbers so far were appended
abbrev pub invariant-loop-number : goal.invariant-loop-number
invariant-loop-number l = l.out.items ≡ l.initial.out.items ++ words_text decimal (take l.number-index l.numbers)
