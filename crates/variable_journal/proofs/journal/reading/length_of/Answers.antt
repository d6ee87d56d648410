use Rattle.variable_journal.proofs.LengthLemmas.{measured_bad}
use Rattle.variable_journal.proofs.journal.reading.length_of.Goals as goal

pub returns-in-Err-2 : goal.returns-in-Err-2
returns-in-Err-2 c rest all = rw c.from.ensures (measured_bad c.args.prefix.now rest all c.in-Err.field-0 c.if-prefix-lt-LONGEST.false c.in-Err.ensures.refused)
