use Rattle.std.proofs.Common.{refl}
use Rattle.cache_store.specs.Shown.{shown}
use Rattle.cache_store.proofs.RemovalLemmas.{destroyed}
use Rattle.cache_store.proofs.cache.Cache.destroy.Goals as goal

pub returns : goal.returns
returns g c = destroyed _ _ (λ u. refl) g.D.Device (shown g.V.Codec.refusal c.args.self) c.args.dev.now c.destroy.new.dev c.requires.over c.destroy.result c.destroy.ensures
