-- A line is one word, or a name and words.
use Rattle.archives.specs.Machine.{asked}
use Rattle.value_codec.specs.Keys.{key8_bytes}
use Rattle.archive_service.proofs.LineLemmas.{double_reading, lone_reading, long_result, short_reading}
use Rattle.archive_service.proofs.script.command_of.Goals as goal

-- no space is in the line
pub returns-in_default : goal.returns-in_default
returns-in_default c =
    lone_reading (asked key8_bytes (λ v. v)) c.args.max_value c.args.line.now c.in_default.ensures c.lone_command.result c.lone_command.ensures.found c.lone_command.ensures.none

-- the words are of a command of two
pub returns-in-Some-short_command : goal.returns-in-Some-short_command
returns-in-Some-short_command c =
    short_reading (asked key8_bytes (λ v. v)) c.args.max_value c.args.line.now c.in-Some.name.now c.in-Some.words.now c.in-Some.ensures.0
    c.in-Some-short_command.command c.in-Some-short_command.ensures.found

-- or of three
pub returns-in-Some-double_command : goal.returns-in-Some-double_command
returns-in-Some-double_command c =
    double_reading (asked key8_bytes (λ v. v)) c.args.max_value c.args.line.now c.in-Some.name.now c.in-Some.words.now c.in-Some.ensures.0
    c.in-Some-double_command.command c.in-Some-double_command.ensures.found

-- or of four, or of none
pub returns : goal.returns
returns c =
    long_result (asked key8_bytes (λ v. v)) c.args.max_value c.args.line.now c.in-Some.name.now c.in-Some.words.now c.in-Some.ensures.0
    c.in_default-short_command.ensures.none (c.in_default-double_command.ensures.none c.in-Some.ensures.1)
    c.put_command.result c.put_command.ensures.found (c.put_command.ensures.none c.in-Some.ensures.1)
