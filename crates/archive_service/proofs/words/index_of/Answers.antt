-- A word that is not decimal spells no number, and the parse of one that is decides the rest.
use Rattle.std.proofs.Common.{subst, sym}
use Rattle.std.specs.Fmt.{decimal}
use Rattle.std.specs.Str.Parse.{ParsesUnsigned}
use Rattle.std.proofs.lemmas.Str.{IsUtf8-from_ascii}
use Rattle.archive_service.specs.Script.{IsIndex}
use Rattle.archive_service.specs.Reading.{IsReading}
use Rattle.archive_service.specs.Words.{IsDecimal}
use Rattle.archive_service.proofs.WordLemmas.{decimal_ascii, decimal_is_decimal, index_reading}
use Rattle.archive_service.proofs.words.index_of.Goals as goal

pub returns-then-not-is_decimal : goal.returns-then-not-is_decimal
returns-then-not-is_decimal c = λ n h e.
    let is : IsDecimal c.args.word.now = subst IsDecimal (sym e) (decimal_is_decimal n h) in
    let yes = c.is_decimal.ensures.1 is in
    cc

pub returns-in-Ok : goal.returns-in-Ok
returns-in-Ok c =
    let is : IsDecimal c.args.word.now = c.is_decimal.ensures.0 c.if-not-is_decimal.false in
    let parses = subst (λ w. ParsesUnsigned 64 10 w c.parse.result) c.in-Ok.ensures.cases.0 c.parse.ensures.value.0 in
    subst (IsReading IsIndex decimal c.args.word.now) (sym c.ok.ensures.value) (index_reading c.args.word.now c.parse.result is parses)

pub returns-in-Err : goal.returns-in-Err
returns-in-Err c =
    let is : IsDecimal c.args.word.now = c.is_decimal.ensures.0 c.if-not-is_decimal.false in
    absurd (c.in-Err.ensures.cases.0 (IsUtf8-from_ascii c.args.word.now (decimal_ascii c.args.word.now is)))
