use Rattle.ordinal_store.specs.Shown.{shown}
use Rattle.ordinal_store.proofs.DurableLemmas.{outlasting}
use Rattle.ordinal_store.proofs.laws.outlasting_law.Goals as goal

pub returns : goal.returns
returns g c l map capacity result old new d image tells opening crash reads = outlasting (shown g.A.CodecFixed.SIZE g.S.Seal.seal_of g.A.Codec.refusal) g.D.Device.Tells l map capacity result old new opening tells d image crash reads
