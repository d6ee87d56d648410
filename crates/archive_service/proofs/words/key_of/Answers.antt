-- Sixteen tested digits are a key's, and a key's are sixteen such digits.
use Rattle.std.proofs.Common.{subst, sym}
use Rattle.archive_service.specs.Words.{IsHexText}
use Rattle.archive_service.proofs.WordLemmas.{encode_is_hex_text, key_reading, key_refused}
use Rattle.archive_service.proofs.words.key_of.Goals as goal

pub returns-then-not-is_hex_text : goal.returns-then-not-is_hex_text
returns-then-not-is_hex_text c = λ key h e.
    let is : IsHexText c.args.word.now = subst IsHexText (sym e) (encode_is_hex_text key h.1) in
    let yes = c.is_hex_text.ensures.1 is in
    cc

pub returns-in-Ok : goal.returns-in-Ok
returns-in-Ok c =
    let is : IsHexText c.args.word.now = c.is_hex_text.ensures.0 c.if-not-is_hex_text.false in
    key_reading c.args.word.now c.decode_to_slice.new.out c.decode_to_slice.result c.from_bytes.result is c.decode_to_slice.ensures.value c.in-Ok.is
    c.from_bytes.ensures.found c.from_bytes.ensures.same

pub returns-in-Err : goal.returns-in-Err
returns-in-Err c = λ key h e.
    key_refused c.args.word.now c.decode_to_slice.new.out key c.decode_to_slice.result c.in-Err.field-0 c.decode_to_slice.ensures.value c.in-Err.is h e
