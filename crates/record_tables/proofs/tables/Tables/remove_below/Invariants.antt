use Rattle.std.specs.BTreeMap.{btree_map_len}
use Rattle.record_tables.proofs.DropLemmas.{HasDropped}
use Rattle.record_tables.proofs.tables.Tables.remove_below.Given as goal

abbrev pub invariant-loop-first : goal.invariant-loop-first
invariant-loop-first g l = HasDropped g.W.PartialEq.eq l.bound l.fn.self l.self

abbrev pub decreases-loop-first : goal.decreases-loop-first
decreases-loop-first g l = btree_map_len l.self.tables
