use Rattle.cache_store.specs.Standing.{wanted_of}
use Rattle.cache_store.proofs.RecoveringLemmas.{recovered}
use Rattle.cache_store.proofs.laws.crash_law.Goals as goal

pub returns : goal.returns
returns g c cfg st under_way = recovered _ _ g.D.Device g.S.Seal.seal_of g.V.Codec.refusal cfg (wanted_of cfg.items_per_blob st under_way)
