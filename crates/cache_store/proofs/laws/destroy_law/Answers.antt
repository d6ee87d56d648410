use Rattle.cache_store.specs.Standing.{wanted_at_destroy}
use Rattle.cache_store.proofs.RecoveringLemmas.{recovered}
use Rattle.cache_store.proofs.laws.destroy_law.Goals as goal

pub returns : goal.returns
returns g c cfg st = recovered _ _ g.D.Device g.S.Seal.seal_of g.V.Codec.refusal cfg (wanted_at_destroy st)
