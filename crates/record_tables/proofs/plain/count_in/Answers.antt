use Rattle.std.proofs.Common.{◌∙◌, arith}
use Rattle.record_tables.proofs.PlainLemmas.{count_beside, count_here, count_within}
use Rattle.record_tables.proofs.plain.count_in.Goals as goal
use Rattle.record_tables.proofs.plain.count_in.Goals.{else-row-section, then-row-section}

pub overflow_add-count : goal.overflow_add-count
overflow_add-count g c =
    let within = count_within c.args.section c.loop-row.row-index c.loop-row.count c.args.rows.now c.loop-row.invariant in
    omega (arith, within)

pub loop-row-preserved : goal.loop-row-preserved
loop-row-preserved g c = elim c.if-row-section.branch [
  | then-row-section w ↦ w.count-is ∙ count_here c.args.rows.now c.loop-row.row-index c.row-item.result c.loop-row-test.true c.row-item.is c.args.section c.loop-row.count c.loop-row.invariant w.if-row-section.true
  | else-row-section w ↦ w.count-is ∙ count_beside c.args.rows.now c.loop-row.row-index c.row-item.result c.loop-row-test.true c.row-item.is c.args.section c.loop-row.count c.loop-row.invariant w.if-row-section.false
]
