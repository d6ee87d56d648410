use Rattle.std.proofs.Common.{rules, ◌≡◌, Some, refl, sym, ◌∙◌, arith}
use Rattle.std.specs.BTreeMap.{get}
use Rattle.std.specs.Ordering.{nat_cmp}
use Rattle.record_tables.proofs.PushLemmas.{pushed, spare_at}
use Rattle.record_tables.proofs.RoomLemmas.{beside, slot_fits}
use Rattle.record_tables.proofs.tables.Tables.push.Goals as goal

pub add-position-requires-clause-room : goal.add-position-requires-clause-room
add-position-requires-clause-room g c =
    let table = c.unwrap-table.result.now in
    let here : get nat_cmp c.args.self.now.tables c.args.section ≡ Some table = search rules in
    (spare_at g.W.PartialEq.eq c.args.section c.args.index c.args.word c.args.self.now table c.requires.spare here).0

pub add-position-requires-clause-short : goal.add-position-requires-clause-short
add-position-requires-clause-short g c =
    let table = c.unwrap-table.result.now in
    let here : get nat_cmp c.args.self.now.tables c.args.section ≡ Some table = search rules in
    (spare_at g.W.PartialEq.eq c.args.section c.args.index c.args.word c.args.self.now table c.requires.spare here).1

pub new-handle-requires-clause-slot : goal.new-handle-requires-clause-slot
new-handle-requires-clause-slot g c =
    let table = c.unwrap-table.result.now in
    let here : get nat_cmp c.args.self.now.tables c.args.section ≡ Some table = search rules in
    omega (arith, slot_fits (λ s. s ≡ c.args.section) c.args.self.now c.requires.order c.args.section table here, c.add-position.ensures.adds.slot)

pub new-handle-requires-clause-position : goal.new-handle-requires-clause-position
new-handle-requires-clause-position g c =
    let table = c.unwrap-table.result.now in
    let here : get nat_cmp c.args.self.now.tables c.args.section ≡ Some table = search rules in
    omega (arith, (spare_at g.W.PartialEq.eq c.args.section c.args.index c.args.word c.args.self.now table c.requires.spare here).1, c.add-position.ensures.position)

pub add-requires : goal.add-requires
add-requires g c = c.requires.spare.handle

pub returns : goal.returns
returns g c =
    let eq = g.W.PartialEq.eq in
    let old = c.args.self.now in
    let section = c.args.section in
    let table = c.unwrap-table.result.now in
    let grown = c.add-position.new.self in
    let more = c.get_mut.follows.lender grown in
    let holds = c.get_mut.follows.holds grown in
    let here : get nat_cmp old.tables section ≡ Some table = search rules in
    let updates = holds.3 (search rules) in
    let adds = c.add-position.ensures.adds in
    let short = (spare_at eq section c.args.index c.args.word old table c.requires.spare here).1 in
    pushed section c.args.index c.args.word c.args.key.now old _ table grown _
    (record {
      low = c.requires.index;
      fits = omega (arith, c.ranges.index);
      here = here;
      after = updates.1;
      others = beside section old.tables more (Some grown) updates;
      count = holds.2;
      slot = adds.slot;
      entries = adds.entries;
      its_word = refl;
      its_index = c.of.ensures;
      its_key = c.of-2.ensures;
      positions = adds.positions;
      slots = refl;
    })
    eq (λ x y is. sym (g.met.W.Eq.laws.symm x y) ∙ is) c.requires.order short c.add-position.result _ c.add-position.ensures.position c.new-handle.ensures c.add.ensures
