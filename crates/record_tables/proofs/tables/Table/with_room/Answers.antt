use Rattle.std.proofs.Common.{◌∙◌}
use Rattle.record_tables.proofs.tables.Table.with_room.Goals as goal

pub returns : goal.returns
returns g c =
    let same = c.in_ok-reserve.ensures.same in
    record {
      entries = same.entries ∙ c.new.ensures.items;
      positions = λ o. same.positions o ∙ c.new-2.ensures o;
      room = c.in_ok-reserve.ensures.room;
    }
