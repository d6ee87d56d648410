use Rattle.archive_service.proofs.ScriptLemmas.{one_first_bad}
use Rattle.archive_service.proofs.script.reading_is_exact.Goals as goal
use Rattle.archive_service.specs.lemmas.Script.{good_or_bad, one_script}

pub returns : goal.returns
returns c = record { one_script = one_script; good_or_bad = good_or_bad; one_first = one_first_bad }
