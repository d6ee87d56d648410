use Rattle.std.proofs.Common.{◌≡◌, ◌+◌, None, Some, List, sym, ◌∙◌, subst, arith, rules}
use Rattle.std.specs.BTreeMap.{btree_map_len, get}
use Rattle.std.specs.Ordering.{nat_cmp}
use Rattle.record_tables.specs.Tables.{has_word}
use Rattle.record_tables.specs.Words.{RemovesSlot}
use Rattle.record_tables.specs.declared.tables.Entry.{Entry}
use Rattle.record_tables.proofs.DropLemmas.{section_dropped}
use Rattle.record_tables.proofs.RoomLemmas.{beside}
use Rattle.record_tables.proofs.tables.Tables.remove.Goals as goal

pub free-requires-clause-slots : goal.free-requires-clause-slots
free-requires-clause-slots g c = c.requires.order.slots

pub free-requires-clause-taken : goal.free-requires-clause-taken
free-requires-clause-taken g c =
    let table = c.unwrap-table.result in
    let here : get nat_cmp c.args.self.now.tables c.args.section ≡ Some table = search rules in
    (c.args.section, c.requires.order.own c.args.section table here)

pub free-requires-clause-some : goal.free-requires-clause-some
free-requires-clause-some g c =
    let count : btree_map_len c.remove.new.self + 1 ≡ btree_map_len c.args.self.now.tables = search rules in
    omega (arith, count, c.requires.order.counted)

pub returns-clause-drops : goal.returns-clause-drops
returns-clause-drops g c =
    let old = c.args.self.now in
    let section = c.args.section in
    let table = c.unwrap-table.result in
    let here : get nat_cmp old.tables section ≡ Some table = search rules in
    let count : btree_map_len c.remove.new.self + 1 ≡ btree_map_len old.tables = search rules in
    section_dropped section old _ table
    (record {
      here = here;
      gone = c.remove.ensures.updates.1;
      others = beside section old.tables c.remove.new.self None c.remove.ensures.updates;
      count = count;
      slots = c.free.ensures;
    })
    c.requires.order g.W.PartialEq.eq (λ x y is. sym (g.met.W.Eq.laws.symm x y) ∙ is)
    (subst (λ (es : List (Entry g.row.W.Denot g.row.K.Denot)). RemovesSlot g.W.PartialEq.eq (has_word g.W.PartialEq.eq es) table.slot old.words c.forget.new.words) c.deref.ensures.value c.forget.ensures)

pub returns-clause-fewer : goal.returns-clause-fewer
returns-clause-fewer g c =
    let count : btree_map_len c.remove.new.self + 1 ≡ btree_map_len c.args.self.now.tables = search rules in
    omega (arith, count)
