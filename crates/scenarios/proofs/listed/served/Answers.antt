use Rattle.scenarios.proofs.ListedLemmas.{all_any}
use Rattle.scenarios.proofs.listed.served.Goals as goal

pub serve_from-replies-requires-clause-values : goal.serve_from-replies-requires-clause-values
serve_from-replies-requires-clause-values c = all_any c.as_slice-2.result.now
