use Rattle.std.proofs.Common.{get_or}
use Rattle.std.proofs.lemmas.List.{get_or_default}
use Rattle.record_tables_tests.specs.Told.{word_of}
use Rattle.record_tables_tests.proofs.both.Both.places.Goals as goal

-- Each handle of the word has a place.
pub place-requires : goal.place-requires
place-requires c =
    let handles = c.candidates-handle-items.result.now in
    let n = c.loop-handle.handle-index in
    let h = get_or handles n (record { bits = 0 }) in
    (c.candidates-handle-items.ensures word_of c.requires.words).placed h
    (n, c.loop-handle-test.true, get_or_default handles n h (record { bits = 0 }) c.loop-handle-test.true)
