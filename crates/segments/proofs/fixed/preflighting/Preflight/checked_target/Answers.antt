use Rattle.std.proofs.Common.{◌≡◌, ◌∙◌, ◌/◌, sym, ap, subst, arith}
use Rattle.blob_device.specs.Timeline.{disk}
use Rattle.sealed_pages.specs.declared.page_blob.PageBlob.{PageBlob}
use Rattle.section_manager.specs.Sections.{Sections, IsOver}
use Rattle.section_manager.specs.Setting.{Setting}
use Rattle.section_manager.specs.contracts.sealed.PageBlobSectionBuffer.TheImpl.{ghosts}
use Rattle.section_manager.specs.declared.sealed.AppendFactory.{AppendFactory}
use Rattle.segments.specs.FixedFloors.{preflight_shown, journal_of}
use Rattle.segments.proofs.checkpoint.Checking.{looks_err, count_as}
use Rattle.segments.proofs.checkpoint.Targets.{no_target, target_err, prefix_err, target_found}
use Rattle.segments.proofs.fixed.preflighting.Preflight.checked_target.Given.{Over}
use Rattle.segments.proofs.fixed.preflighting.Preflight.checked_target.Goals as goal
use Rattle.blob_device.proofs.general.Results.{err_of}

abbrev Held : Over → Type 0
Held g = Sections (AppendFactory g.row.S.Denot) (PageBlob g.row.S.Denot g.S.Seal)

pub returns-then-size-eq0 : goal.returns-then-size-eq0
returns-then-size-eq0 g c =
    let m = (journal_of c.args.self).sections in
    let f = c.with_floor.ensures in
    no_target g.S.Seal.seal_of m.factory.pages.page_size g.A.CodecFixed.SIZE c.args.section c.args.size g.A.Codec.spelling g.A.Codec.accepted g.A.Codec.refusal g.D.Device _ _ m
    preflight_shown (λ r. (journal_of r).sections) (preflight_shown c.args.self) c.args.dev.now c.requires.earlier c.with_floor.result c.if-size-eq0.true c.requires.ready.over
    f.floor f.boundary f.floors f.boundaries f.sections f.target f.cause

pub check_prefix-requires-clause-floor : goal.check_prefix-requires-clause-floor
check_prefix-requires-clause-floor g c = ap (λ (m : Held g). m.floor) c.in_ok-this.ensures.sections ∙ c.requires.ready.floor

pub check_prefix-requires-clause-over : goal.check_prefix-requires-clause-over
check_prefix-requires-clause-over g c = subst (λ (m : Held g). IsOver (ghosts g.row.S g.S.Seal g.S.Seal-dict) (λ (f : AppendFactory g.row.S.Denot). record { page_size = f.pages.page_size; capacity = f.write_buffer; cache_pages = f.pages.cache_pages }) g.D.Device.Tells m (g.D.Device.opened c.checked.new.dev)
    (disk (g.D.Device.time c.checked.new.dev))) (sym c.in_ok-this.ensures.sections) c.in_ok-this.ensures.over

pub returns-in_err-this : goal.returns-in_err-this
returns-in_err-this g c =
    let m = (journal_of c.args.self).sections in
    let f = c.in_err-this.ensures in
    let e = c.in_err-this.field-0.0 in
    looks_err g.S.Seal.seal_of m.factory.pages.page_size g.A.CodecFixed.SIZE m.partition c.args.section c.args.size g.A.Codec.spelling g.A.Codec.accepted g.A.Codec.refusal g.D.Device _ _ m
    c.from_residual.result e c.args.dev.now c.checked.new.dev _ (λ r. journal_of r ≡ journal_of r) (err_of c.from_residual.result e c.from_residual.ensures.1)
    (target_err g.S.Seal.seal_of m.factory.pages.page_size g.A.CodecFixed.SIZE c.args.section c.args.size g.A.Codec.spelling g.A.Codec.accepted g.A.Codec.refusal g.D.Device _ _ m
    preflight_shown (λ r. (journal_of r).sections) (preflight_shown c.args.self) c.args.dev.now c.requires.earlier (c.args.size / c.SIZE.result) (count_as c.args.size c.SIZE.result g.A.CodecFixed.SIZE c.SIZE.ensures g.met.A.CodecFixed.fixed.at_least c.requires.whole) c.ranges.size.fits g.met.A.CodecFixed.fixed.at_least (omega (arith, c.if-size-eq0.false)) e c.checked.new.dev _ f)

pub returns-in_err-check_prefix : goal.returns-in_err-check_prefix
returns-in_err-check_prefix g c =
    let m = (journal_of c.args.self).sections in
    let p = c.in_err-check_prefix.ensures in
    let e = c.in_err-check_prefix.field-0.0 in
    prefix_err g.S.Seal.seal_of m.factory.pages.page_size g.A.CodecFixed.SIZE c.args.section c.args.size g.A.Codec.spelling g.A.Codec.accepted g.A.Codec.refusal g.D.Device _ _ m
    preflight_shown (λ r. (journal_of r).sections) (preflight_shown c.args.self) c.args.dev.now c.requires.earlier (c.args.size / c.SIZE.result) (count_as c.args.size c.SIZE.result g.A.CodecFixed.SIZE c.SIZE.ensures g.met.A.CodecFixed.fixed.at_least c.requires.whole) c.ranges.size.fits g.met.A.CodecFixed.fixed.at_least (omega (arith, c.if-size-eq0.false)) c.in_ok-this.this c.checked.new.dev c.check_prefix.new.dev c.in_ok-this.ensures (journal_of c.in_ok-this.this).sections c.in_ok-this.ensures.sections p.unchanged p.entries p.faults (λ u held. ap (λ (x : Setting). x.page_size) (c.requires.ready.over.opened_list.setting c.args.section u held))
    c.from_residual-in_err-check_prefix.result e _ (err_of c.from_residual-in_err-check_prefix.result e c.from_residual-in_err-check_prefix.ensures.1) p.damage p.cause

pub returns : goal.returns
returns g c =
    let m = (journal_of c.args.self).sections in
    let p = c.in_ok-check_prefix.ensures in
    target_found g.S.Seal.seal_of m.factory.pages.page_size g.A.CodecFixed.SIZE c.args.section c.args.size g.A.Codec.spelling g.A.Codec.accepted g.A.Codec.refusal g.D.Device _ _ m
    preflight_shown (λ r. (journal_of r).sections) (preflight_shown c.args.self) c.args.dev.now c.requires.earlier (c.args.size / c.SIZE.result) (count_as c.args.size c.SIZE.result g.A.CodecFixed.SIZE c.SIZE.ensures g.met.A.CodecFixed.fixed.at_least c.requires.whole) c.ranges.size.fits g.met.A.CodecFixed.fixed.at_least (omega (arith, c.if-size-eq0.false)) c.in_ok-this.this c.checked.new.dev c.check_prefix.new.dev c.in_ok-this.ensures (journal_of c.in_ok-this.this).sections c.in_ok-this.ensures.sections p.unchanged p.entries p.faults (λ u held. ap (λ (x : Setting). x.page_size) (c.requires.ready.over.opened_list.setting c.args.section u held))
    c.in_ok-this.ensures.target p.sealed c.requires.ready.adopted (λ t there. (c.requires.ready.held t c.args.section c.ranges.section.fits).1 (there, c.requires.bounded))
