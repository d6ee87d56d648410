use Rattle.ordinal_store.specs.Reopening.{Checking, IsHolding}
use Rattle.ordinal_store.specs.Stores.{key_of, sight}
use Rattle.ordinal_store.specs.Shown.{shown}
use Rattle.std.proofs.Common.{subst}
use Rattle.std.specs.Prelude.{Ok, Err}
use Rattle.blob_device.specs.Disk.{Key}
use Rattle.ordinal_store.proofs.MendLemmas.{ready_own}
use Rattle.ordinal_store.proofs.RestoringLemmas.{held_cases, restore_done, restore_faulty, restore_refused}
use Rattle.ordinal_store.proofs.store.Ordinal.restored.Goals as goal
use Rattle.ordinal_store.proofs.store.Ordinal.restored.Given.{Over}
use Rattle.ordinal_store.specs.declared.store.Ordinal.{Ordinal}
use Rattle.ordinal_store.specs.Stores.{Store}

-- what a store shows
abbrev show : (g : Over) → Ordinal g.row.A.Denot g.row.S.Denot → Store
show g = shown g.A.CodecFixed.SIZE g.S.Seal.seal_of g.A.Codec.refusal

pub returns-in_err-buffer : goal.returns-in_err-buffer
returns-in_err-buffer g c =
    restore_refused (show g) g.D.Device.Tells (show g c.args.self) c.args.section c.args.marks.now (sight g.D.Device c.args.dev.now) (sight g.D.Device c.reopened.new.dev) c.from_residual.result c.in_err-buffer.field-0.0 c.from_residual.ensures.1 c.in_err-buffer.ensures

pub check_section-requires : goal.check_section-requires
check_section-requires g c = record {
  items = c.requires.items;
  fits = c.requires.fits;
  kept = c.requires.kept;
  ready = ready_own g.D.Device.Tells (key_of (shown g.A.CodecFixed.SIZE g.S.Seal.seal_of g.A.Codec.refusal c.args.self) c.args.section) c.args.self.capacity (sight g.D.Device c.reopened.new.dev) c.in_ok-buffer.buffer c.in_ok-buffer.ensures.ready;
}

pub returns-in_err-check_section : goal.returns-in_err-check_section
returns-in_err-check_section g c =
    let o = shown g.A.CodecFixed.SIZE g.S.Seal.seal_of g.A.Codec.refusal c.args.self in
    let mid = sight g.D.Device c.reopened.new.dev in
    let new = sight g.D.Device c.check_section.new.dev in
    let u = c.in_ok-buffer.buffer in
    restore_faulty (shown g.A.CodecFixed.SIZE g.S.Seal.seal_of g.A.Codec.refusal) g.D.Device.Tells o c.args.section c.args.marks.now (sight g.D.Device c.args.dev.now) mid u c.in_ok-buffer.ensures new
    c.from_residual-in_err-check_section.result c.in_err-check_section.field-0.0 c.from_residual-in_err-check_section.ensures.1
    (subst (λ (k : Key). Checking g.D.Device.Tells o.layout c.args.section c.args.marks.now k u (Err c.in_err-check_section.field-0.0) mid new) c.in_ok-buffer.ensures.ready.rested.key_is c.in_err-check_section.ensures)

pub holding-requires : goal.holding-requires
holding-requires g c = record {
  items = c.requires.items;
  inside = λ p wanted. ((c.in_ok-check_section.ensures.room p wanted).0, c.requires.fits p wanted);
}

pub returns : goal.returns
returns g c =
    let kept = c.in_ok-buffer.ensures in
    let later = sight g.D.Device c.check_section.new.dev in
    restore_done (show g) g.D.Device.Tells (show g c.args.self) c.args.section c.args.marks.now (sight g.D.Device c.args.dev.now) (sight g.D.Device c.reopened.new.dev) c.in_ok-buffer.buffer kept later c.holding.result
    (subst (λ (k : Key). Checking g.D.Device.Tells (show g c.args.self).layout c.args.section c.args.marks.now k c.in_ok-buffer.buffer (Ok tt) (sight g.D.Device c.reopened.new.dev) later) kept.ready.rested.key_is c.in_ok-check_section.ensures)
    (held_cases (λ x. IsHolding (show g c.args.self) c.args.section c.in_ok-buffer.buffer c.args.marks.now (show g x)) c.holding.result c.holding.ensures.holding c.holding.ensures.cause)
