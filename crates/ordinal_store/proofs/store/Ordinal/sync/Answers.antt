use Rattle.ordinal_store.specs.Stores.{sight}
use Rattle.ordinal_store.specs.Shown.{shown}
use Rattle.ordinal_store.proofs.SyncedLemmas.{sync_done, sync_refused, synced_on, synced_start, trail_on}
use Rattle.ordinal_store.proofs.store.Ordinal.sync.Goals as goal
use Rattle.ordinal_store.proofs.store.Ordinal.sync.Given.{Over}
use Rattle.ordinal_store.specs.declared.store.Ordinal.{Ordinal}
use Rattle.ordinal_store.specs.Stores.{Store}

-- what a store shows
abbrev show : (g : Over) → Ordinal g.row.A.Denot g.row.S.Denot → Store
show g = shown g.A.CodecFixed.SIZE g.S.Seal.seal_of g.A.Codec.refusal

pub loop-section-init : goal.loop-section-init
loop-section-init g c = synced_start g.D.Device.Tells (shown g.A.CodecFixed.SIZE g.S.Seal.seal_of g.A.Codec.refusal c.args.self) (sight g.D.Device c.args.dev.now) c.requires.usable

pub returns-in_err-this : goal.returns-in_err-this
returns-in_err-this g c =
    sync_refused (show g) g.D.Device.Tells (show g c.args.self) (sight g.D.Device c.args.dev.now) (sight g.D.Device c.sync_one.new.dev) (sight g.D.Device c.loop-section.dev) c.from_residual.result c.in_err-this.field-0.0 c.from_residual.ensures.1
    (trail_on g.D.Device.Tells (show g c.args.self) (show g) (sight g.D.Device c.args.dev.now) (sight g.D.Device c.loop-section.dev) (sight g.D.Device c.sync_one.new.dev) (show g c.loop-section.this) c.loop-section.invariant c.in-Some.section c.in-Some.ensures c.sync_one.result c.sync_one.ensures.stepping)
    c.loop-section.invariant.trail.faults c.in_err-this.ensures.stepping.cause

pub loop-section-preserved : goal.loop-section-preserved
loop-section-preserved g c =
    synced_on g.D.Device.Tells (show g c.args.self) (show g) (sight g.D.Device c.args.dev.now) (sight g.D.Device c.loop-section.dev) (sight g.D.Device c.sync_one.new.dev) (show g c.loop-section.this) c.loop-section.invariant c.in-Some.section c.in-Some.ensures c.sync_one.result c.sync_one.ensures.stepping
    (show g c.in_ok-this.this) c.in_ok-this.ensures.stepping.kept c.in_ok-this.ensures.domain c.in_ok-this.ensures.written

pub loop-section-smaller : goal.loop-section-smaller
loop-section-smaller g c = c.in_ok-this.ensures.fewer c.in-Some.ensures

pub returns : goal.returns
returns g c =
    sync_done (show g) g.D.Device.Tells (show g c.args.self) (sight g.D.Device c.args.dev.now) (sight g.D.Device c.loop-section.dev) c.loop-section.this c.loop-section.invariant c.in_default.ensures
