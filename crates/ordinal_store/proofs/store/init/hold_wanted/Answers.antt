use Rattle.std.proofs.Common.{◌+◌, ◌*◌, sym, subst, arith}
use Rattle.std.specs.Prelude.{OnOk}
use Rattle.ordinal_store.specs.Numbers.{AddsNumber}
use Rattle.ordinal_store.specs.Ranges.{set_of}
use Rattle.ordinal_store.proofs.HoldLemmas.{held_all, held_on, held_past, held_start}
use Rattle.ordinal_store.proofs.store.init.hold_wanted.Goals as goal

pub loop-position-init : goal.loop-position-init
loop-position-init c = record {
  ranges = λ are. are;
  held = held_start c.args.items c.args.marks.now (c.args.section * c.args.items) (set_of c.args.held.now);
}

pub loop-position-preserved-then-not-is_wanted : goal.loop-position-preserved-then-not-is_wanted
loop-position-preserved-then-not-is_wanted c = record {
  ranges = c.loop-position.invariant.ranges;
  held = held_past c.args.items c.args.marks.now (c.args.section * c.args.items) (set_of c.args.held.now) c.loop-position.position (set_of c.loop-position.held) (sym c.if-not-is_wanted.ensures) c.loop-position.invariant.held;
}

pub loop-position-preserved : goal.loop-position-preserved
loop-position-preserved c = record {
  ranges = λ are. c.insert.ensures.ranges;
  held = held_on c.args.items c.args.marks.now (c.args.section * c.args.items) (set_of c.args.held.now) c.loop-position.position (set_of c.loop-position.held) (set_of c.insert.new.self) (sym c.if-not-is_wanted.ensures) (subst (λ (r : _). OnOk r (AddsNumber (set_of c.loop-position.held) (set_of c.insert.new.self) (c.args.section * c.args.items + c.loop-position.position))) c.in_ok-noted.ensures.ok c.insert.ensures.ok) c.loop-position.invariant.held;
}

pub returns : goal.returns
returns c = record {
  ranges = c.loop-position.invariant.ranges;
  held = held_all c.args.items c.args.marks.now (c.args.section * c.args.items) (set_of c.args.held.now) c.loop-position.position (set_of c.loop-position.held) (λ p wanted. omega (arith, c.wanted_end-position-end.ensures p wanted, c.loop-position-test.false)) c.loop-position.invariant.held;
  cause = tt;
}
