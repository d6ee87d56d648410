use Rattle.record_tables.proofs.PlainLemmas.{all_placed, item_in, none_placed, placed, within}
use Rattle.record_tables.proofs.plain.Lists.candidates.Goals as goal

pub loop-at-init : goal.loop-at-init
loop-at-init g c = none_placed g.W.PartialEq.eq c.args.word.now c.args.self.now.rows.items c.new-places.result.items c.new-places.ensures.items

pub loop-at-preserved : goal.loop-at-preserved
loop-at-preserved g c =
    let rows = c.args.self.now.rows.items in
    let at = c.loop-at.at in
    let lt = within c.deref-row-items.result.now rows at c.deref-row-items.ensures.value c.loop-at-test.true in
    let is = item_in c.deref-row-items.result.now rows at c.row-item.result c.deref-row-items.ensures.value c.row-item.is in
    placed rows at c.row-item.result lt is g.W.PartialEq.eq c.args.word.now c.deref.result.now c.count_in-position.result c.eq.result c.loop-at.places.items c.push_if.new.found.items
    c.loop-at.invariant c.deref.ensures.value c.count_in-position.ensures c.eq.ensures c.in_ok-push_if.ensures

pub returns : goal.returns
returns g c = all_placed g.W.PartialEq.eq c.args.word.now c.deref-row-items.result.now c.args.self.now.rows.items c.loop-at.at c.loop-at.places.items c.deref-row-items.ensures.value c.loop-at-test.false c.loop-at.invariant
