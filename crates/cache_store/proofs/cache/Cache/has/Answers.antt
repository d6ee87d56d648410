use Rattle.cache_store.specs.Shown.{shown}
use Rattle.cache_store.proofs.AskLemmas.{says_has}
use Rattle.cache_store.proofs.cache.Cache.has.Goals as goal

pub returns : goal.returns
returns g c = says_has (shown g.V.Codec.refusal c.args.self.now) c.args.index _ c.has.ensures
