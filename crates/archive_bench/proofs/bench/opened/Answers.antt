use Rattle.std.proofs.Common.{arith}
use Rattle.archive_bench.proofs.bench.opened.Goals as goal

pub returns-clause-usable : goal.returns-clause-usable
returns-clause-usable g c = c.in_ok-init.ensures.ends.over

pub returns-clause-accepts : goal.returns-clause-accepts
returns-clause-accepts g c v small = (c.in_ok-init.ensures.ends.accepts v).1 (omega (arith, small, c.requires.values))
