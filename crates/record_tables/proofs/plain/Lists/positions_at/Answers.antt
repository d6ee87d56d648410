use Rattle.std.proofs.Common.{◌∙◌, refl, sym, ap, subst, ℕ, take, arith}
use Rattle.std.specs.Global.{Vec}
use Rattle.record_tables.specs.Plain.{rows_among}
use Rattle.record_tables.specs.Rows.{ArePositions}
use Rattle.record_tables.proofs.PlainLemmas.{all_found, count_beside, count_here, count_within, found_beside, found_here, item_in, none_found, within}
use Rattle.record_tables.proofs.plain.Lists.positions_at.Goals as goal
use Rattle.record_tables.proofs.plain.Lists.positions_at.Goals.{else-row-section, then-row-section+in_ok-push_if}

pub overflow_add-position : goal.overflow_add-position
overflow_add-position g c =
    let few = count_within c.args.section c.loop-row.row-index c.loop-row.position c.args.self.now.rows.items c.loop-row.invariant.count in
    omega (arith, few, c.deref-row-items.type_inv.0)

pub loop-row-init : goal.loop-row-init
loop-row-init g c = record { count = refl; found = none_found c.args.section c.args.index c.args.self.now.rows.items c.new-positions.result.items c.new-positions.ensures.items }

pub loop-row-preserved : goal.loop-row-preserved
loop-row-preserved g c =
    let rows = c.args.self.now.rows.items in
    let at = c.loop-row.row-index in
    let lt = within c.deref-row-items.result.now rows at c.deref-row-items.ensures.value c.loop-row-test.true in
    let is = item_in c.deref-row-items.result.now rows at c.row-item.result c.deref-row-items.ensures.value c.row-item.is in
    elim c.if-row-section.branch [
      | then-row-section+in_ok-push_if w ↦ record {
        count = w.position-is ∙ count_here rows at c.row-item.result lt is c.args.section c.loop-row.position c.loop-row.invariant.count w.if-row-section.true;
        found = found_here rows at c.row-item.result lt is c.args.section c.args.index c.loop-row.position c.loop-row.positions.items c.if-row-section.positions.items c.loop-row.invariant.found c.loop-row.invariant.count w.if-row-section.true
            (ap (λ (v : Vec ℕ). v.items) w.positions-is ∙ w.in_ok-push_if.ensures);
      }
      | else-row-section w ↦ record {
        count = w.position-is ∙ count_beside rows at c.row-item.result lt is c.args.section c.loop-row.position c.loop-row.invariant.count w.if-row-section.false;
        found = found_beside rows at c.row-item.result lt is c.args.section c.args.index c.if-row-section.positions.items
            (subst (λ (v : Vec ℕ). ArePositions (rows_among c.args.section (take at rows)) c.args.index v.items) (sym w.positions-is) c.loop-row.invariant.found) w.if-row-section.false;
      }
    ]

pub returns : goal.returns
returns g c = all_found c.args.section c.args.index c.deref-row-items.result.now c.args.self.now.rows.items c.loop-row.row-index c.loop-row.positions.items c.deref-row-items.ensures.value c.loop-row-test.false c.loop-row.invariant.found
