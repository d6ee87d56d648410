use Rattle.cache_store.specs.Shown.{shown}
use Rattle.cache_store.proofs.AskLemmas.{says_first}
use Rattle.cache_store.proofs.cache.Cache.first.Goals as goal

pub returns : goal.returns
returns g c = says_first (shown g.V.Codec.refusal c.args.self.now) c.first.result c.first.ensures
