use Rattle.std.proofs.Common.{◌≡◌, ◌++◌, take}
use Rattle.archive_service.specs.Texts.{value_text, words_text}
use Rattle.archive_service.proofs.text.append_values.Given as goal

-- the words of the values so far were appended
abbrev pub invariant-loop-value : goal.invariant-loop-value
invariant-loop-value l = l.out.items ≡ l.initial.out.items ++ words_text value_text (take l.value-index l.values)
