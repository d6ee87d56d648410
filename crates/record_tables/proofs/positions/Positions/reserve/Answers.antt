use Rattle.std.proofs.Common.{refl, slice_get}
use Rattle.std.specs.BTreeMap.{get}
use Rattle.std.specs.Ordering.{nat_cmp}
use Rattle.std.proofs.lemmas.Result.{on_ok_weaker}
use Rattle.record_tables.specs.Firsts.{first_of, further_of}
use Rattle.record_tables.proofs.FirstLemmas.{room_for_first, room_for_further, same_positions, still_first, tested_none, tested_some}
use Rattle.record_tables.proofs.positions.Positions.reserve.Goals as goal

pub invariant_of-self : goal.invariant_of-self
invariant_of-self c = record {
  first_before = still_first c.args.self.now.firsts.items c.reserve_first.new.firsts.items c.args.self.now.further c.args.self.now.further c.args.self.now.first_before c.reserve_first.ensures.same (λ o. refl);
}

pub returns-then-is_none : goal.returns-then-is_none
returns-then-is_none c =
    let old = c.args.self.now in
    let first = first_of (slice_get old.firsts.items c.args.offset) in
    let none = tested_none first c.first.result (further_of (get nat_cmp old.further c.args.offset)) c.is_none.result c.first.ensures c.is_none.ensures c.if-is_none.true in
    record {
      same = same_positions old.firsts.items c.reserve_first.new.firsts.items c.reserve_first.ensures.same old.further old.further (λ o. refl);
      room = on_ok_weaker c.reserve_first.result (λ lt. room_for_first old.firsts.items c.reserve_first.new.firsts.items c.reserve_first.ensures.same old.further c.args.offset none lt) c.reserve_first.ensures.room;
    }

pub invariant_of-self-else-is_none : goal.invariant_of-self-else-is_none
invariant_of-self-else-is_none c = record {
  first_before = still_first c.args.self.now.firsts.items c.args.self.now.firsts.items c.args.self.now.further c.reserve_further.new.further c.args.self.now.first_before (λ o. refl) c.reserve_further.ensures.same;
}

pub returns-else-is_none : goal.returns-else-is_none
returns-else-is_none c =
    let old = c.args.self.now in
    let first = first_of (slice_get old.firsts.items c.args.offset) in
    let some = tested_some first c.first.result (further_of (get nat_cmp old.further c.args.offset)) c.is_none.result c.first.ensures c.is_none.ensures c.if-is_none.false in
    record {
      same = same_positions old.firsts.items old.firsts.items (λ o. refl) old.further c.reserve_further.new.further c.reserve_further.ensures.same;
      room = on_ok_weaker c.reserve_further.result (λ spare. room_for_further old.firsts.items c.reserve_further.new.further c.args.offset some spare) c.reserve_further.ensures.room;
    }
