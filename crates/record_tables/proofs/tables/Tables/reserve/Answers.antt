use Rattle.record_tables.proofs.ReserveLemmas.{not_reserved, reserved}
use Rattle.record_tables.proofs.tables.Tables.reserve.Goals as goal

pub returns-in_err-reserve_table : goal.returns-in_err-reserve_table
returns-in_err-reserve_table g c =
    not_reserved g.W.PartialEq.eq c.args.section c.args.index c.args.word c.args.self.now _ _ _ _ c.from_residual.ensures.1 c.in_err-reserve_table.ensures

pub returns : goal.returns
returns g c =
    reserved g.W.PartialEq.eq c.args.section c.args.index c.args.word c.args.self.now c.reserve_table.new.self c.in_ok-reserve_table.ensures c.reserve.new.self
    c.reserve.ensures.same c.reserve.ensures.others c.reserve.result c.reserve.ensures.room
