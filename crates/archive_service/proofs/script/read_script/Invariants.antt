-- What was read so far, and what is left.
use Rattle.std.proofs.Common.{length, map}
use Rattle.archives.specs.Machine.{asked}
use Rattle.value_codec.specs.Keys.{key8_bytes}
use Rattle.archive_service.proofs.ScriptLemmas.{IsReadSoFar}
use Rattle.archive_service.proofs.script.read_script.Given as goal

abbrev pub invariant-loop-rest : goal.invariant-loop-rest
invariant-loop-rest l = IsReadSoFar l.max_value l.fn.bytes (map (asked key8_bytes (λ v. v)) l.commands.items) l.rest

abbrev pub decreases-loop-rest : goal.decreases-loop-rest
decreases-loop-rest l = length l.rest
