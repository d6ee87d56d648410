use Rattle.ordinal_store.specs.Stores.{sight}
use Rattle.ordinal_store.specs.Shown.{shown}
use Rattle.ordinal_store.proofs.PrunedLemmas.{destroy_failed, destroyed}
use Rattle.ordinal_store.proofs.store.Ordinal.destroy.Goals as goal
use Rattle.ordinal_store.proofs.store.Ordinal.destroy.Given.{Over}
use Rattle.ordinal_store.specs.declared.store.Ordinal.{Ordinal}
use Rattle.ordinal_store.specs.Stores.{Store}

-- what a store shows
abbrev show : (g : Over) → Ordinal g.row.A.Denot g.row.S.Denot → Store
show g = shown g.A.CodecFixed.SIZE g.S.Seal.seal_of g.A.Codec.refusal

pub returns-in_err-remove_below : goal.returns-in_err-remove_below
returns-in_err-remove_below g c =
    destroy_failed (show g) g.D.Device.Tells (show g c.args.self) (sight g.D.Device c.args.dev.now) (sight g.D.Device c.remove_below.new.dev) c.requires.usable
    c.from_residual.result c.in_err-remove_below.field-0.0 c.from_residual.ensures.1 c.in_err-remove_below.ensures

pub returns : goal.returns
returns g c =
    destroyed (show g) g.D.Device.Tells (show g c.args.self) (sight g.D.Device c.args.dev.now) (sight g.D.Device c.remove_below.new.dev) c.requires.usable
    c.in_ok-remove_below.field-0 c.in_ok-remove_below.ensures
