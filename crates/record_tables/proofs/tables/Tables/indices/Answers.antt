use Rattle.std.proofs.Common.{◌≡◌, Some}
use Rattle.std.specs.BTreeMap.{get}
use Rattle.std.specs.Cmp.{nat_cmp_total}
use Rattle.std.specs.Map.Iter.{deref_pair}
use Rattle.std.specs.Ordering.{nat_cmp}
use Rattle.std.proofs.lemmas.Map.Iter.{btree_map_turn, rest_all, rest_more}
use Rattle.ordinal_store.specs.Ranges.{set_of}
use Rattle.record_tables.proofs.IndexLemmas.{all_ahead, all_found, fits, none_yet, turn_found, turn_only}
use Rattle.record_tables.proofs.tables.Tables.indices.Given as given
use Rattle.record_tables.proofs.tables.Tables.indices.Goals as goal
use Rattle.record_tables.proofs.tables.Tables.indices.Goals.{In-Some}

-- at the beginning no index is in the set, and all tables come
pub loop-section-init : goal.loop-section-init
loop-section-init g c = record {
  found = all_ahead c.args.self.now (set_of c.new-indices.result) c.into_iter-section-iterator.result c.into_iter-section-iterator.ensures.into_iter_gives.0;
  only = none_yet c.args.self.now c.new-indices.result c.new-indices.ensures;
}

-- the next table is that of its section
here : (g : given.Over) (c : In-Some g) → get nat_cmp c.args.self.now.tables c.in-Some.section.now ≡ Some c.in-Some.table.now
here g c = (btree_map_turn deref_pair c.loop-section.yielded c.into_iter-section-iterator.result c.loop-section.section-iterator c.next.new.self c.next.result (c.in-Some.section, c.in-Some.table)
    c.loop-section.yielded_by c.in-Some.is c.next.ensures.steps nat_cmp_total c.args.self.now.tables
    c.into_iter-section-iterator.ensures.into_iter_gives.0 c.into_iter-section-iterator.ensures.into_iter_gives.5).1

pub add_indices-requires : goal.add_indices-requires
add_indices-requires g c =
    fits c.args.self.now c.requires c.in-Some.section.now c.in-Some.table.now (here g (goal.at.add_indices-requires g c).In-Some)

-- one table more: its rows have just the indices that were added
pub loop-section-preserved : goal.loop-section-preserved
loop-section-preserved g c =
    let t = c.args.self.now in
    let section = c.in-Some.section.now in
    let table = c.in-Some.table.now in
    let old = set_of c.loop-section.indices in
    let new = set_of c.add_indices.new.indices in
    let there = here g (goal.at.loop-section-preserved g c).In-Some in
    let next = rest_more deref_pair c.loop-section.section-iterator c.next.new.self c.next.result (c.in-Some.section, c.in-Some.table) c.in-Some.is c.next.ensures.steps in
    record {
      found = turn_found t c.requires section table there old new c.in_ok-add_indices.ensures c.loop-section.section-iterator c.next.new.self next c.loop-section.invariant.found;
      only = turn_only t c.requires section table there old new c.in_ok-add_indices.ensures c.loop-section.invariant.only;
    }

-- no table comes any more, so each index is in the set
pub returns : goal.returns
returns g c =
    all_found c.args.self.now (set_of c.loop-section.indices) c.loop-section.section-iterator
    (rest_all deref_pair c.loop-section.section-iterator c.next.new.self c.next.result c.in-None.is c.next.ensures.steps)
    c.loop-section.invariant.found c.loop-section.invariant.only
