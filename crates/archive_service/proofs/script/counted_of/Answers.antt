-- Two words, an index and a number, or none of both.
use Rattle.std.proofs.Common.{subst, sym}
use Rattle.archive_service.specs.Reading.{IsCounted, IsReading, counted_text}
use Rattle.archive_service.proofs.RecordLemmas.{count_uncounted, counted_reading, index_uncounted, one_word_uncounted}
use Rattle.archive_service.proofs.script.counted_of.Goals as goal

-- there is no space
pub returns-in_err-index : goal.returns-in_err-index
returns-in_err-index c = subst (IsReading IsCounted counted_text c.args.words.now) (sym c.from_residual.ensures) (one_word_uncounted c.args.words.now c.in_err-index.ensures)

-- the first word is no index
pub returns-in_err-index_of : goal.returns-in_err-index_of
returns-in_err-index_of c =
    subst (IsReading IsCounted counted_text c.args.words.now) (sym c.from_residual-in_err-index_of.ensures)
    (index_uncounted c.args.words.now c.in_ok-index.index.now c.in_ok-index.count.now c.in_ok-index.ensures c.in_err-index_of.ensures)

-- the second one is no number of indices
pub returns-in_err-count_of : goal.returns-in_err-count_of
returns-in_err-count_of c =
    subst (IsReading IsCounted counted_text c.args.words.now) (sym c.from_residual-in_err-count_of.ensures)
    (count_uncounted c.args.words.now c.in_ok-index.index.now c.in_ok-index.count.now c.in_ok-index.ensures c.in_err-count_of.ensures)

pub returns : goal.returns
returns c =
    counted_reading c.args.words.now c.in_ok-index.index.now c.in_ok-index.count.now c.in_ok-index.ensures
    c.in_ok-index_of.field-0 c.in_ok-count_of.field-0 c.in_ok-index_of.ensures c.in_ok-count_of.ensures
