use Rattle.cache_store.specs.Shown.{shown}
use Rattle.cache_store.proofs.AskLemmas.{says_items}
use Rattle.cache_store.proofs.cache.Cache.missing_items.Goals as goal

pub returns : goal.returns
returns g c = says_items (shown g.V.Codec.refusal c.args.self.now) c.args.start c.args.max c.missing_items.result c.missing_items.ensures
