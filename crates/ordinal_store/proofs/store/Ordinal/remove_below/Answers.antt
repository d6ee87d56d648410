use Rattle.ordinal_store.specs.Stores.{sight}
use Rattle.ordinal_store.specs.Shown.{shown}
use Rattle.ordinal_store.proofs.RemovalLemmas.{goes_start, left_start, goes_on, left_on, removing_failed}
use Rattle.ordinal_store.proofs.store.Ordinal.remove_below.Goals as goal
use Rattle.ordinal_store.proofs.store.Ordinal.remove_below.Given.{Over}
use Rattle.ordinal_store.specs.declared.store.Ordinal.{Ordinal}
use Rattle.ordinal_store.specs.Stores.{Store}

-- what a store shows
abbrev show : (g : Over) → Ordinal g.row.A.Denot g.row.S.Denot → Store
show g = shown g.A.CodecFixed.SIZE g.S.Seal.seal_of g.A.Codec.refusal

pub loop-section-init : goal.loop-section-init
loop-section-init g c =
    let o = shown g.A.CodecFixed.SIZE g.S.Seal.seal_of g.A.Codec.refusal c.args.self in
    record {
      goes = goes_start o c.args.bound g.D.Device.Tells (sight g.D.Device c.args.dev.now);
      left = left_start o c.args.bound g.D.Device.Tells (sight g.D.Device c.args.dev.now) c.requires.usable;
    }

pub returns-in_err-this : goal.returns-in_err-this
returns-in_err-this g c =
    removing_failed (show g) g.D.Device.Tells (show g c.args.self) c.args.bound (sight g.D.Device c.args.dev.now) (sight g.D.Device c.loop-section.dev) (sight g.D.Device c.remove_first.new.dev) c.loop-section.invariant.goes.faults
    (goes_on (show g c.args.self) c.args.bound g.D.Device.Tells (show g c.loop-section.this) (sight g.D.Device c.args.dev.now) (sight g.D.Device c.loop-section.dev) (sight g.D.Device c.remove_first.new.dev) c.in-Some.section c.requires.usable.number c.loop-section.invariant.goes c.loop-section.invariant.left c.in-Some.ensures.0 c.in-Some.ensures.1 c.remove_first.ensures.dropping.goes)
    c.from_residual.result c.in_err-this.field-0.0 c.from_residual.ensures.1 c.in_err-this.ensures.dropping.cause

pub loop-section-preserved : goal.loop-section-preserved
loop-section-preserved g c =
    let done = c.in_ok-this.ensures.dropping in
    record {
      goes = goes_on (show g c.args.self) c.args.bound g.D.Device.Tells (show g c.loop-section.this) (sight g.D.Device c.args.dev.now) (sight g.D.Device c.loop-section.dev) (sight g.D.Device c.remove_first.new.dev) c.in-Some.section c.requires.usable.number c.loop-section.invariant.goes c.loop-section.invariant.left c.in-Some.ensures.0 c.in-Some.ensures.1 done.goes;
      left = left_on (show g c.args.self) c.args.bound g.D.Device.Tells (show g c.loop-section.this) (sight g.D.Device c.args.dev.now) (sight g.D.Device c.loop-section.dev) (sight g.D.Device c.remove_first.new.dev) c.in-Some.section c.requires.usable.number c.loop-section.invariant.goes c.loop-section.invariant.left c.in-Some.ensures.0 c.in-Some.ensures.1 done.goes
          (show g c.in_ok-this.this) done.usable done.without done.gone done.closed;
    }

pub returns : goal.returns
returns g c = record { goes = c.loop-section.invariant.goes; left = c.loop-section.invariant.left; all = c.in_default.ensures; cause = tt }
