-- Two words, an index and a key, or none of both.
use Rattle.std.proofs.Common.{Option, List, subst, sym, ℕ}
use Rattle.std.specs.Option.{option_map}
use Rattle.value_codec.specs.Keys.{key8_bytes}
use Rattle.value_codec.specs.declared.key.Key8.{Key8}
use Rattle.archive_service.specs.Reading.{IsKeyed, IsReading, keyed_text}
use Rattle.archive_service.proofs.RecordLemmas.{index_unkeyed, key_unkeyed, keyed_reading, one_word_unkeyed}
use Rattle.archive_service.proofs.script.keyed_of.Goals as goal

-- what the words read as
abbrev ReadsAs : List ℕ → Option (ℕ × Key8) → Type 0
ReadsAs words found = IsReading IsKeyed keyed_text words (option_map (λ r. (r.0, key8_bytes r.1)) found)

-- there is no space
pub returns-in_err-index : goal.returns-in_err-index
returns-in_err-index c = subst (ReadsAs c.args.words.now) (sym c.from_residual.ensures) (one_word_unkeyed c.args.words.now c.in_err-index.ensures)

-- the first word is no index
pub returns-in_err-index_of : goal.returns-in_err-index_of
returns-in_err-index_of c =
    subst (ReadsAs c.args.words.now) (sym c.from_residual-in_err-index_of.ensures)
    (index_unkeyed c.args.words.now c.in_ok-index.index.now c.in_ok-index.key.now c.in_ok-index.ensures c.in_err-index_of.ensures)

-- the second one is no key
pub returns-in_err-key_of : goal.returns-in_err-key_of
returns-in_err-key_of c =
    subst (ReadsAs c.args.words.now) (sym c.from_residual-in_err-key_of.ensures)
    (key_unkeyed c.args.words.now c.in_ok-index.index.now c.in_ok-index.key.now c.in_ok-index.ensures c.in_err-key_of.ensures)

pub returns : goal.returns
returns c =
    keyed_reading c.args.words.now c.in_ok-index.index.now c.in_ok-index.key.now c.in_ok-index.ensures
    c.in_ok-index_of.field-0 (key8_bytes c.in_ok-key_of.field-0) c.in_ok-index_of.ensures c.in_ok-key_of.ensures
