use Rattle.record_tables.proofs.DropLemmas.{all_forgotten, turn_forgotten}
use Rattle.record_tables.proofs.WordLemmas.{none_removed}
use Rattle.record_tables.proofs.tables.forget.Goals as goal

pub loop-entry-init : goal.loop-entry-init
loop-entry-init g c = none_removed g.W.PartialEq.eq c.args.slot c.args.words.now

pub loop-entry-preserved : goal.loop-entry-preserved
loop-entry-preserved g c =
    turn_forgotten g.W.PartialEq.eq c.args.slot c.args.words.now c.args.entries.now c.loop-entry.entry-index
    c.entry-item.result c.loop-entry.words c.remove.new.self c.loop-entry-test.true c.entry-item.is c.loop-entry.invariant c.remove.ensures

pub returns : goal.returns
returns g c =
    all_forgotten g.W.PartialEq.eq c.args.slot c.args.words.now c.args.entries.now c.loop-entry.entry-index
    c.loop-entry.words c.loop-entry-test.false c.loop-entry.invariant
