use Rattle.std.proofs.Common.{◌∙◌, length, refl, ap, arith}
use Rattle.meta_store.specs.Format.{format_of}
use Rattle.meta_store.specs.Store.{seen, shown}
use Rattle.meta_store.proofs.Failing.{err_memory, err_seen}
use Rattle.meta_store.proofs.OpenedSides.{grew_at, grew_opened, opened_at}
use Rattle.meta_store.proofs.SyncsLemmas.{all_synced, full_syncs, idle_syncs, settle_failed, short_syncs, write_failed}
use Rattle.meta_store.proofs.metadata.Metadata.sync.Goals as goal

pub returns-then-not-self : goal.returns-then-not-self
returns-then-not-self g c = idle_syncs g.D.Device (format_of g.K.Ord.cmp g.K.Key.key_bytes g.V.Codec g.S.Seal) (seen c.args.self) c.args.dev.now c.requires.opened c.if-not-self.true

pub returns-then-self : goal.returns-then-self
returns-then-self g c = full_syncs g.D.Device (format_of g.K.Ord.cmp g.K.Key.key_bytes g.V.Codec g.S.Seal) (seen c.args.self) c.args.dev.now c.requires.opened c.if-not-self.false (omega (arith, c.if-self.true))

pub returns-in_err-copy : goal.returns-in_err-copy
returns-in_err-copy g c =
    short_syncs g.D.Device (format_of g.K.Ord.cmp g.K.Key.key_bytes g.V.Codec g.S.Seal) (seen c.args.self) c.args.dev.now c.requires.opened c.if-not-self.false (omega (arith, c.if-self.false, c.well_formed)) _
    (err_memory seen c.from_residual.result _ c.from_residual.ensures.1 c.in_err-copy.ensures.memory)

pub returns-in_err-write_at : goal.returns-in_err-write_at
returns-in_err-write_at g c =
    write_failed g.D.Device (format_of g.K.Ord.cmp g.K.Key.key_bytes g.V.Codec g.S.Seal) (seen c.args.self) c.args.dev.now c.requires.opened c.if-not-self.false (omega (arith, c.if-self.false, c.well_formed))
    g.met.S.Seal.fits (omega (arith, c.well_formed)) (omega (arith, ap length c.in_ok-copy.ensures.copy, c.in_ok-copy.copy.small)) c.in_ok-copy.ensures.map
    c.write_at.new.self _ c.deref.result.now (λ i. (c.as_str.ensures.value i, c.name.ensures i)) (c.deref.ensures.value ∙ c.in_ok-copy.ensures.copy)
    c.in_err-write_at.field-0.0 c.in_err-write_at.ensures.told c.in_err-write_at.ensures.counts c.in_err-write_at.ensures.opened_err _
    (err_seen seen c.from_residual-in_err-write_at.result _ c.from_residual-in_err-write_at.ensures.1)

pub sync-requires : goal.sync-requires
sync-requires g c =
    let u = shown c.args.self in
    opened_at u.partition (g.D.Device.opened c.write_at.new.self) u.older _ (λ i. (c.as_str-2.ensures.value i, c.name-2.ensures i)) (grew_opened u.partition u.older (g.D.Device.opened c.args.dev.now) (g.D.Device.opened c.write_at.new.self) (grew_at u.partition u.older _ (g.D.Device.opened c.args.dev.now) (g.D.Device.opened c.write_at.new.self) _ (λ i. (c.as_str.ensures.value i, c.name.ensures i)) c.in_ok-write_at.ensures.opened (λ o. refl)) c.requires.opened)

pub returns-in_err-sync : goal.returns-in_err-sync
returns-in_err-sync g c =
    settle_failed g.D.Device (format_of g.K.Ord.cmp g.K.Key.key_bytes g.V.Codec g.S.Seal) (seen c.args.self) c.args.dev.now c.requires.opened c.if-not-self.false (omega (arith, c.if-self.false, c.well_formed))
    g.met.S.Seal.fits (omega (arith, c.well_formed)) (omega (arith, ap length c.in_ok-copy.ensures.copy, c.in_ok-copy.copy.small)) c.in_ok-copy.ensures.map
    c.write_at.new.self _ c.deref.result.now (λ i. (c.as_str.ensures.value i, c.name.ensures i)) (c.deref.ensures.value ∙ c.in_ok-copy.ensures.copy)
    c.in_ok-write_at.field-0 c.sync.new.self _ (λ i. (c.as_str-2.ensures.value i, c.name-2.ensures i))
    c.in_ok-write_at.ensures.told c.in_ok-write_at.ensures.counts c.in_ok-write_at.ensures.opened
    c.in_err-sync.field-0.0 c.in_err-sync.ensures.told c.in_err-sync.ensures.counts c.sync.ensures.opened _
    (err_seen seen c.from_residual-in_err-sync.result _ c.from_residual-in_err-sync.ensures.1)

pub returns : goal.returns
returns g c =
    all_synced g.D.Device (format_of g.K.Ord.cmp g.K.Key.key_bytes g.V.Codec g.S.Seal) (seen c.args.self) c.args.dev.now c.requires.opened c.if-not-self.false (omega (arith, c.if-self.false, c.well_formed))
    g.met.S.Seal.fits (omega (arith, c.well_formed)) (omega (arith, ap length c.in_ok-copy.ensures.copy, c.in_ok-copy.copy.small)) c.in_ok-copy.ensures.map
    c.write_at.new.self _ c.deref.result.now (λ i. (c.as_str.ensures.value i, c.name.ensures i)) (c.deref.ensures.value ∙ c.in_ok-copy.ensures.copy)
    c.in_ok-write_at.field-0 c.sync.new.self _ (λ i. (c.as_str-2.ensures.value i, c.name-2.ensures i))
    c.in_ok-write_at.ensures.told c.in_ok-write_at.ensures.counts c.in_ok-write_at.ensures.opened
    c.in_ok-sync.field-0 c.in_ok-sync.ensures.told c.in_ok-sync.ensures.counts c.sync.ensures.opened c.other-this.result c.other-this.ensures
