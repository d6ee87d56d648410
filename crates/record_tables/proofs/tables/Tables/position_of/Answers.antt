use Rattle.std.proofs.Common.{rules, ◌≡◌, None, Some}
use Rattle.std.specs.BTreeMap.{get}
use Rattle.std.specs.Ordering.{nat_cmp}
use Rattle.record_tables.proofs.IndexLemmas.{first_found, first_none}
use Rattle.record_tables.proofs.tables.Tables.position_of.Goals as goal

pub returns-in_err-get : goal.returns-in_err-get
returns-in_err-get g c =
    let none : get nat_cmp c.args.self.now.tables c.args.section ≡ None = search rules in
    rw c.from_residual.ensures (first_none c.args.self.now c.args.section c.args.index none)

pub returns : goal.returns
returns g c =
    let there : get nat_cmp c.args.self.now.tables c.args.section ≡ Some c.in_ok-get.field-0.now = search rules in
    first_found c.args.self.now c.args.section c.args.index c.requires.order c.requires.index c.in_ok-get.field-0.now there _ c.first.ensures
