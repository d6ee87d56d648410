use Rattle.std.proofs.Common.{arith}
use Rattle.record_tables.proofs.positions.Positions.end.Goals as goal

pub returns : goal.returns
returns c = omega (arith, c.len.ensures, c.args.self.now.firsts.ok.0)
