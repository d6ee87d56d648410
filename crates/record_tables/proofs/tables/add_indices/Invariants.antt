use Rattle.ordinal_store.specs.Ranges.{set_of}
use Rattle.record_tables.specs.Positions.{positions_of}
use Rattle.record_tables.proofs.IndexLemmas.{AddsBelow}
use Rattle.record_tables.proofs.tables.add_indices.Given as goal

-- the indices of the offsets so far were added
abbrev pub invariant-loop-offset : goal.invariant-loop-offset
invariant-loop-offset l = AddsBelow l.section (positions_of l.positions) l.offset (set_of l.initial.indices) (set_of l.indices)
