use Rattle.std.proofs.Common.{rules, ◌≡◌, None}
use Rattle.std.specs.BTreeMap.{get}
use Rattle.std.specs.Ordering.{nat_cmp}
use Rattle.record_tables.proofs.RoomLemmas.{room_for_first}
use Rattle.record_tables.proofs.tables.Tables.has_room.Goals as goal

pub returns-in-None : goal.returns-in-None
returns-in-None g c =
    let none : get nat_cmp c.args.self.now.tables c.args.section ≡ None = search rules in
    room_for_first c.args.self.now c.args.section c.len-in-None.result c.from.result c.args.per_section c.args.sections
    c.len-in-None.ensures.ordered c.requires.filled none c.len-in-None.ensures.len c.from.ensures
