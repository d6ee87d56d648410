use Rattle.archive_bench.proofs.bench.put_one.Goals as goal

pub returns-clause-usable : goal.returns-clause-usable
returns-clause-usable g c = c.in_ok-archive.ensures.ends.over

pub returns-clause-accepts : goal.returns-clause-accepts
returns-clause-accepts g c v small = c.in_ok-archive.ensures.ends.alike.accepts v (c.requires.accepts v small)
