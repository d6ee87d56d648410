use Rattle.std.proofs.Common.{◌≤◌, length}
use Rattle.archive_bench.proofs.PhaseLemmas.{still_usable}
use Rattle.archive_bench.proofs.bench.oldest_pruned.Goals as goal

pub pruned-requires : goal.pruned-requires
pruned-requires g c = record { usable = still_usable g.A.Archive.meaning g.D.Device _ _ _ c.turn.ensures.time c.turn.ensures.opened c.requires.usable }

pub returns-clause-usable : goal.returns-clause-usable
returns-clause-usable g c = still_usable g.A.Archive.meaning g.D.Device _ _ _ c.turn-2.ensures.time c.turn-2.ensures.opened c.in_ok-pruned.ensures.usable

pub returns-clause-accepts : goal.returns-clause-accepts
returns-clause-accepts g c v small = c.in_ok-pruned.ensures.accepts v (c.requires.accepts v small)
