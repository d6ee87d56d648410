use Rattle.ordinal_store.specs.Ranges.{set_of}
use Rattle.record_tables.proofs.IndexLemmas.{AreFound, AreOfRows}
use Rattle.record_tables.proofs.tables.Tables.indices.Given as goal

-- An index of a row is in the set, or in a table that comes later; and what is in the set is the index of a row.
abbrev pub invariant-loop-section : goal.invariant-loop-section
invariant-loop-section g l = record {
  found : AreFound l.self (set_of l.indices) l.section-iterator;
  only : AreOfRows l.self (set_of l.indices);
}
