use Rattle.archive_bench.proofs.PhaseLemmas.{still_accepts}
use Rattle.archive_bench.proofs.bench.MeasuredPrunable.pruned.Goals as goal

pub returns-clause-accepts : goal.returns-clause-accepts
returns-clause-accepts g c = still_accepts _ _ _ _ _ _ c.prune.result c.prune.ensures.changes.ends
