use Rattle.blob_device.specs.Timeline.{disk}
use Rattle.cache_store.proofs.ElsewhereLemmas.{opens_there}
use Rattle.cache_store.proofs.laws.spared_law.Goals as goal

pub returns : goal.returns
returns g c l st old d t same may = opens_there l (disk (g.D.Device.time old)) d (λ q. g.met.D.Device.as_read t old q) same st may
