use Rattle.cache_store.specs.Shown.{shown}
use Rattle.cache_store.proofs.AskLemmas.{says_gap}
use Rattle.cache_store.proofs.cache.Cache.next_gap.Goals as goal

pub returns : goal.returns
returns g c = says_gap (shown g.V.Codec.refusal c.args.self.now) c.args.index c.next_gap.result c.next_gap.ensures
