use Rattle.ordinal_store.specs.Stores.{sight}
use Rattle.ordinal_store.specs.Shown.{shown}
use Rattle.ordinal_store.proofs.PrunedLemmas.{pruned}
use Rattle.ordinal_store.proofs.store.Ordinal.prune.Goals as goal

pub returns : goal.returns
returns g c =
    let show = shown g.A.CodecFixed.SIZE g.S.Seal.seal_of g.A.Codec.refusal in
    pruned show g.D.Device.Tells (show c.args.self) c.args.min c.ranges.min.fits (sight g.D.Device c.args.dev.now) (sight g.D.Device c.remove_below.new.dev) c.requires.usable c.remove_below.result c.remove_below.ensures
