use Rattle.std.proofs.Common.{refl}
use Rattle.variable_journal.proofs.FrameLemmas.{prefix_split}
use Rattle.variable_journal.proofs.plain.split_prefix.Goals as goal

pub returns-else-size-behind-clause-frame : goal.returns-else-size-behind-clause-frame
returns-else-size-behind-clause-frame c = prefix_split c.args.bytes.now _ c.in-Ok.size c.in-Ok.header refl c.in-Ok.ensures.found c.if-size-behind.false
