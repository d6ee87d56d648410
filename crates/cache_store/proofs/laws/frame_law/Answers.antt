use Rattle.cache_store.proofs.ElsewhereLemmas.{goes_on}
use Rattle.cache_store.proofs.laws.frame_law.Goals as goal

pub returns : goal.returns
returns g c cache old new spared over = goes_on _ _ g.D.Device cache old new spared over
