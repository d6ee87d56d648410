use Rattle.record_tables.proofs.DropLemmas.{all_dropped, none_dropped, one_dropped}
use Rattle.record_tables.proofs.tables.Tables.remove_below.Goals as goal

pub loop-first-init : goal.loop-first-init
loop-first-init g c = none_dropped g.W.PartialEq.eq c.args.bound c.args.self.now c.requires

pub remove-requires : goal.remove-requires
remove-requires g c = record { order = c.loop-first.invariant.order; there = c.in-Some.ensures.some.1 }

pub loop-first-preserved : goal.loop-first-preserved
loop-first-preserved g c =
    one_dropped g.W.PartialEq.eq c.args.bound c.args.self.now c.in-Some.first _ _ c.in-Some.ensures.some.0 c.loop-first.invariant c.remove.ensures.drops

pub returns : goal.returns
returns g c = all_dropped g.W.PartialEq.eq c.args.bound c.args.self.now _ c.loop-first.invariant (c.first_below.ensures.none c.in_default.is)
