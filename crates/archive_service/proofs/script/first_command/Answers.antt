-- The text is cut at its first LF, and what stands before it is read as a line.
use Rattle.std.proofs.Common.{Some, None}
use Rattle.archives.specs.Machine.{asked}
use Rattle.value_codec.specs.Keys.{key8_bytes}
use Rattle.archive_service.proofs.ScriptLemmas.{first_reading, first_refused}
use Rattle.archive_service.proofs.script.first_command.Goals as goal

pub returns-in_default : goal.returns-in_default
returns-in_default c = first_refused c.args.max_value c.args.text.now c.in_default.ensures

pub returns : goal.returns
returns c =
    first_reading c.args.max_value c.args.text.now c.in-Some.line.now c.in-Some.rest.now (Some (asked key8_bytes (λ v. v) c.in-Some-2.command)) c.in-Some.ensures
    (rw c.in-Some-2.is at c.in_ok-command.ensures)

pub returns-in_default-2 : goal.returns-in_default-2
returns-in_default-2 c =
    first_reading c.args.max_value c.args.text.now c.in-Some.line.now c.in-Some.rest.now None c.in-Some.ensures
    (rw c.in_default-2.is at c.in_ok-command.ensures)
