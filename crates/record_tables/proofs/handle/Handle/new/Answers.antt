use Rattle.std.proofs.Common.{arith}
use Rattle.record_tables.proofs.HandleLemmas.{is_handle}
use Rattle.record_tables.proofs.handle.Handle.new.Goals as goal

pub returns : goal.returns
returns c = is_handle c.args.slot c.args.position _ (omega (arith, c.from.ensures)) c.requires.position
