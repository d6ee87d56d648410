use Rattle.std.proofs.Common.{◌≡◌, ◌++◌, take}
use Rattle.archive_service.specs.Texts.{run_text, words_text}
use Rattle.archive_service.proofs.text.append_ranges.Given as goal

-- the words of the runs so far were appended
abbrev pub invariant-loop-first : goal.invariant-loop-first
invariant-loop-first l = l.out.items ≡ l.initial.out.items ++ words_text run_text (take l.first-index l.runs)
