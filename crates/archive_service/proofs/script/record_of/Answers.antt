-- Each word that is wanting or does not read leaves no record.
use Rattle.std.proofs.Common.{None}
use Rattle.value_codec.specs.Keys.{key8_bytes}
use Rattle.archive_service.proofs.RecordLemmas.{index_refused, key_refused, one_word_refused, record_reading, two_words_refused}
use Rattle.archive_service.proofs.script.record_of.Goals as goal

pub returns-in_default : goal.returns-in_default
returns-in_default c = one_word_refused c.args.max_value c.args.words.now c.in_default.ensures

pub returns-in_default-cut : goal.returns-in_default-cut
returns-in_default-cut c = two_words_refused c.args.max_value c.args.words.now c.in-Some.index.now c.in-Some.words.now c.in-Some.ensures c.in_default-cut.ensures

pub returns-in_default-index_of : goal.returns-in_default-index_of
returns-in_default-index_of c = index_refused c.args.max_value c.args.words.now c.in-Some.index.now c.in-Some.words.now c.in-Some.ensures c.in_default-index_of.ensures

pub returns-in_default-key_of : goal.returns-in_default-key_of
returns-in_default-key_of c =
    key_refused c.args.max_value c.args.words.now c.in-Some.index.now c.in-Some.words.now c.in-Some.ensures
    c.in-Some-cut.key.now c.in-Some-cut.value.now c.in-Some-cut.ensures c.in_default-key_of.ensures

pub returns-in_default-2 : goal.returns-in_default-2
returns-in_default-2 c =
    record_reading c.args.max_value c.args.words.now c.in-Some.index.now c.in-Some.words.now c.in-Some.ensures
    c.in-Some-cut.key.now c.in-Some-cut.value.now c.in-Some-cut.ensures
    c.in-Some-index_of.index (key8_bytes c.in-Some-key_of.key) None c.in-Some-index_of.ensures c.in-Some-key_of.ensures
    (rw c.in_default-2.is at c.in_ok-value.ensures)
