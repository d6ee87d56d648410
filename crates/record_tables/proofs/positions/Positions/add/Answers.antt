use Rattle.std.proofs.Common.{refl, slice_get, arith}
use Rattle.std.specs.BTreeMap.{get}
use Rattle.std.specs.Ordering.{nat_cmp}
use Rattle.record_tables.specs.Firsts.{first_of, further_of}
use Rattle.record_tables.proofs.FirstLemmas.{added_first, added_further, first_kept, first_room, further_kept, further_room, tested_none, tested_some}
use Rattle.record_tables.proofs.positions.Positions.add.Goals as goal

pub index_mut-requires : goal.index_mut-requires
index_mut-requires c =
    let first = first_of (slice_get c.args.self.now.firsts.items c.args.offset) in
    let none = tested_none first c.first.result (further_of (get nat_cmp c.args.self.now.further c.args.offset)) c.is_none.result c.first.ensures c.is_none.ensures c.if-is_none.true in
    omega (arith, first_room c.args.self.now c.args.offset none c.requires.room, c.args.self.now.firsts.ok.0)

pub add_further-requires : goal.add_further-requires
add_further-requires c =
    let first = first_of (slice_get c.args.self.now.firsts.items c.args.offset) in
    let some = tested_some first c.first.result (further_of (get nat_cmp c.args.self.now.further c.args.offset)) c.is_none.result c.first.ensures c.is_none.ensures c.if-is_none.false in
    further_room c.args.self.now c.args.offset some c.requires.room

pub invariant_of-self : goal.invariant_of-self
invariant_of-self c =
    let first = first_of (slice_get c.args.self.now.firsts.items c.args.offset) in
    let none = tested_none first c.first.result (further_of (get nat_cmp c.args.self.now.further c.args.offset)) c.is_none.result c.first.ensures c.is_none.ensures c.if-is_none.true in
    record {
      first_before = first_kept c.args.self.now.firsts.items c.args.offset c.args.position (first_room c.args.self.now c.args.offset none c.requires.room) c.requires.position c.args.self.now.further c.args.self.now.first_before;
    }

pub returns-then-is_none : goal.returns-then-is_none
returns-then-is_none c =
    let first = first_of (slice_get c.args.self.now.firsts.items c.args.offset) in
    let none = tested_none first c.first.result (further_of (get nat_cmp c.args.self.now.further c.args.offset)) c.is_none.result c.first.ensures c.is_none.ensures c.if-is_none.true in
    added_first c.args.self.now _ c.args.offset c.args.position none (first_room c.args.self.now c.args.offset none c.requires.room) c.requires.position c.args.self.now.first_before refl (λ q. refl)

pub invariant_of-self-else-is_none : goal.invariant_of-self-else-is_none
invariant_of-self-else-is_none c =
    let first = first_of (slice_get c.args.self.now.firsts.items c.args.offset) in
    let some = tested_some first c.first.result (further_of (get nat_cmp c.args.self.now.further c.args.offset)) c.is_none.result c.first.ensures c.is_none.ensures c.if-is_none.false in
    record {
      first_before = further_kept c.args.offset c.args.position c.args.self.now.further c.add_further.new.further c.add_further.ensures.here c.add_further.ensures.others c.args.self.now.firsts.items some c.args.self.now.first_before;
    }

pub returns-else-is_none : goal.returns-else-is_none
returns-else-is_none c =
    let first = first_of (slice_get c.args.self.now.firsts.items c.args.offset) in
    let some = tested_some first c.first.result (further_of (get nat_cmp c.args.self.now.further c.args.offset)) c.is_none.result c.first.ensures c.is_none.ensures c.if-is_none.false in
    added_further c.args.self.now _ c.args.offset c.args.position some refl c.add_further.ensures.here c.add_further.ensures.others
