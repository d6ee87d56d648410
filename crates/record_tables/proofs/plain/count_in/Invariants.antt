use Rattle.std.proofs.Common.{◌≡◌, length, take}
use Rattle.record_tables.specs.Plain.{rows_among}
use Rattle.record_tables.proofs.plain.count_in.Given as goal

abbrev pub invariant-loop-row : goal.invariant-loop-row
invariant-loop-row g l = l.count ≡ length (rows_among l.section (take l.row-index l.rows))
