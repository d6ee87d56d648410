use Rattle.ordinal_store.proofs.FrameLemmas.{framed}
use Rattle.ordinal_store.proofs.laws.frame_law.Goals as goal

pub returns : goal.returns
returns g c o a b d e entries blobs usable = framed g.D.Device.Tells o a b d e entries blobs usable
