use Rattle.std.proofs.Common.{◌≡◌, length, take}
use Rattle.record_tables.specs.Plain.{rows_among}
use Rattle.record_tables.specs.Rows.{ArePositions}
use Rattle.record_tables.proofs.plain.Lists.positions_at.Given as goal

abbrev pub invariant-loop-row : goal.invariant-loop-row
invariant-loop-row g l = record {
  count : l.position ≡ length (rows_among l.section (take l.row-index l.self.rows.items));
  found : ArePositions (rows_among l.section (take l.row-index l.self.rows.items)) l.index l.positions.items;
}
