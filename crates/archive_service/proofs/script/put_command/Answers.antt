-- The name is that of a way to put, and the words are those of a record.
use Rattle.value_codec.specs.Keys.{key8_bytes}
use Rattle.archive_service.proofs.LineLemmas.{long_found, long_refused, long_unnamed}
use Rattle.archive_service.proofs.script.put_command.Goals as goal

-- the name is that of no put
pub returns-in_default-clause-none : goal.returns-in_default-clause-none
returns-in_default-clause-none c = λ lacks. long_unnamed c.args.max_value c.args.name.now c.args.words.now lacks c.in_default.ensures.none

-- the words are those of a record
pub returns-in-Some-2-clause-found : goal.returns-in-Some-2-clause-found
returns-in-Some-2-clause-found c =
    let reading = rw c.in-Some-2.is at c.in_ok-index.ensures in
    long_found c.args.max_value c.in-Some.make c.args.name.now c.args.words.now c.in-Some.ensures.found
    (c.in-Some-2.index, key8_bytes c.in-Some-2.key, c.in-Some-2.value) reading.0 reading.1 _ c.command.ensures

-- they are not
pub returns-in-None-clause-none : goal.returns-in-None-clause-none
returns-in-None-clause-none c = λ lacks. long_refused c.args.max_value c.args.name.now c.args.words.now lacks (rw c.in-None.is at c.in_ok-index.ensures)
