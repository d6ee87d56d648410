use Rattle.std.proofs.Common.{rules, ◌≡◌, None, Some}
use Rattle.std.specs.BTreeMap.{get}
use Rattle.std.specs.Ordering.{nat_cmp}
use Rattle.record_tables.proofs.IndexLemmas.{positions_found, positions_none}
use Rattle.record_tables.proofs.tables.Tables.positions_at.Goals as goal

pub returns-in-Some : goal.returns-in-Some
returns-in-Some g c =
    let there : get nat_cmp c.args.self.now.tables c.args.section ≡ Some c.in-Some.table.now = search rules in
    positions_found c.args.self.now c.args.section c.args.index c.requires.order c.requires.index c.in-Some.table.now there _ c.all.ensures

pub returns-in-None : goal.returns-in-None
returns-in-None g c =
    let none : get nat_cmp c.args.self.now.tables c.args.section ≡ None = search rules in
    positions_none c.args.self.now c.args.section c.args.index none c.new.result c.new.ensures.items
