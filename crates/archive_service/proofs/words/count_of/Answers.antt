-- A number within the limit is the index that the word spells; so where that is too great no other number is spelled.
use Rattle.std.proofs.Common.{subst, sym}
use Rattle.std.specs.Fmt.{decimal}
use Rattle.archive_service.specs.Script.{IsCount}
use Rattle.archive_service.specs.Reading.{IsReading}
use Rattle.archive_service.proofs.WordLemmas.{count_beyond, count_reading, no_count}
use Rattle.archive_service.proofs.words.count_of.Goals as goal

pub returns-in_err-count : goal.returns-in_err-count
returns-in_err-count c = subst (IsReading IsCount decimal c.args.word.now) (sym c.from_residual.ensures) (no_count c.args.word.now c.in_err-count.ensures)

pub returns-then-count-gt-COUNT_LIMIT : goal.returns-then-count-gt-COUNT_LIMIT
returns-then-count-gt-COUNT_LIMIT c = count_beyond c.args.word.now c.in_ok-count.count c.in_ok-count.ensures c.if-count-gt-COUNT_LIMIT.true

pub returns : goal.returns
returns c = count_reading c.args.word.now c.in_ok-count.count c.in_ok-count.ensures c.if-count-gt-COUNT_LIMIT.false
