-- Tested digits decode to the value that they are the text of, and a value's text is a dash or such digits.
use Rattle.std.proofs.Common.{◌≡◌, subst, sym, ◌∙◌, codes, ◌≢◌}
use Rattle.std.proofs.lemmas.Slice.Eq.{bytes_eq-Decides}
use Rattle.archive_service.specs.Script.{IsValue}
use Rattle.archive_service.specs.Texts.{value_text}
use Rattle.archive_service.proofs.WordLemmas.{value_digits, value_read}
use Rattle.archive_service.proofs.words.value_of.Goals as goal

pub returns-then-not-is_value_text : goal.returns-then-not-is_value_text
returns-then-not-is_value_text c = λ value h e.
    let other : c.args.word.now ≢ codes "-" = λ dash.
    let same = (bytes_eq-Decides c.args.word.now c.as_slice.result.now).1 (dash ∙ sym c.as_slice.ensures) in
    cc in
    let yes = c.is_value_text.ensures.1 (value_digits c.args.max_value c.args.word.now value h e other) in
    cc

pub returns-in_ok-copied-in-Ok : goal.returns-in_ok-copied-in-Ok
returns-in_ok-copied-in-Ok c =
    let read = value_read c.args.max_value c.args.word.now c.in-Ok.bytes.items (c.is_value_text.ensures.0 c.if-not-is_value_text.false) c.in-Ok.ensures.ok in
    let same = c.in_ok-copied-in-Ok.ensures ∙ c.as_slice-in-Ok.ensures.value in
    subst (λ v. IsValue c.args.max_value v × (c.args.word.now ≡ value_text v)) (sym same) read
