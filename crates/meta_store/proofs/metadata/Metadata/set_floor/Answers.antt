use Rattle.meta_store.specs.Format.{format_of}
use Rattle.meta_store.specs.Store.{seen}
use Rattle.meta_store.proofs.StagingLemmas.{sets_floor}
use Rattle.meta_store.proofs.metadata.Metadata.set_floor.Goals as goal

pub returns : goal.returns
returns g c = sets_floor (format_of g.K.Ord.cmp g.K.Key.key_bytes g.V.Codec g.S.Seal) (seen c.args.self.now) c.args.floor
