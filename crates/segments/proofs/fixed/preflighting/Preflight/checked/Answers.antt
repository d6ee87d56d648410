-- A marker is refused at once, or takes no read, or its last item is read.
use Rattle.std.proofs.Common.{◌∙◌, refl, sym, ap, subst, arith}
use Rattle.std.specs.Option.{option_copied}
use Rattle.blob_device.specs.Disk.{Key}
use Rattle.blob_device.specs.Timeline.{disk}
use Rattle.segments.specs.FixedFloors.{Floors, IsAdoptedOver, journal_of, preflight_shown}
use Rattle.segments.proofs.checkpoint.ChecksEnds.{looks_own, marker_empty, marker_long, marker_missing, marker_refuses, marker_takes}
use Rattle.segments.proofs.opened.FloorLemmas.{whole_items}
use Rattle.segments.specs.lemmas.adding.Write.{are_pages}
use Rattle.segments.specs.lemmas.held.Sections.{is_held}
use Rattle.segments.proofs.fixed.preflighting.Preflight.checked.Goals as goal
use Rattle.blob_device.proofs.general.Results.{err_of}

pub returns-in_err-floor : goal.returns-in_err-floor
returns-in_err-floor g c =
    marker_long _ _ _ _ _ _ _ _ _ _ _ _ _ _ _ _ _ c.requires.ready _ _ (err_of c.from_residual.result _ c.from_residual.ensures.1) c.in_err-floor.ensures.damage c.in_err-floor.ensures.cause

pub returns-in_err-buffer : goal.returns-in_err-buffer
returns-in_err-buffer g c = absurd (omega (arith, c.in_err-buffer.ensures.guard.0 c.in_err-buffer.ensures.cause, c.requires.ready.floor))

pub returns-in_default : goal.returns-in_default
returns-in_default g c =
    marker_missing _ _ _ _ _ _ _ _ _ _ _ _ _ _ _ _ _ c.requires.ready _ c.ranges.section.fits c.requires.bounded (sym c.in_ok-buffer.ensures.held ∙ ap option_copied c.in_default.is) c.in_ok-floor.ensures.bytes

pub returns-then-items-eq0 : goal.returns-then-items-eq0
returns-then-items-eq0 g c =
    marker_empty _ _ _ _ _ _ _ _ _ _ _ _ _ _ _ _ _ c.requires.ready _ _ c.if-items-eq0.true (is_held (journal_of c.args.self).sections c.args.section c.in-Some.buffer.now (sym c.in_ok-buffer.ensures.held ∙ ap option_copied c.in-Some.is))
    c.ranges.section.fits c.in_ok-floor.ensures.bytes c.with_floor.ensures

pub last_below-requires-clause-adopted : goal.last_below-requires-clause-adopted
last_below-requires-clause-adopted g c t =
    subst (λ (k : Key). IsAdoptedOver g.S.Seal.seal_of c.in-Some.buffer.now (disk (g.D.Device.time c.args.dev.now) k)) (sym (c.requires.ready.over.opened_list.key c.args.section c.in-Some.buffer.now (sym c.in_ok-buffer.ensures.held ∙ ap option_copied c.in-Some.is)))
    (c.requires.ready.adopted t c.args.section c.in-Some.buffer.now (sym c.in_ok-buffer.ensures.held ∙ ap option_copied c.in-Some.is))

pub returns-in_err-item : goal.returns-in_err-item
returns-in_err-item g c =
    marker_refuses _ _ _ _ _ _ _ _ _ _ _ _ _ _ _ _ _ c.requires.ready (are_pages g.row.S g.S.Seal g.S.Seal-dict) (λ f. refl) (λ u. refl) c.in-Some.buffer.now (sym c.in_ok-buffer.ensures.held ∙ ap option_copied c.in-Some.is) _ _
    (looks_own (λ (f : Floors g.row.A.Denot). f) (λ f. (journal_of c.args.self).sections) (preflight_shown c.args.self).floor_of (preflight_shown c.args.self).boundary_of (preflight_shown c.args.self).target _ _ _ _ _ _ _ _ _ _ _ _ c.requires.ready (are_pages g.row.S g.S.Seal g.S.Seal-dict) (λ f. refl) (λ u. refl) c.in-Some.buffer.now (sym c.in_ok-buffer.ensures.held ∙ ap option_copied c.in-Some.is) _ _ c.in_err-item.ensures)
    _ _ (err_of c.from_residual-in_err-item.result _ c.from_residual-in_err-item.ensures.1) refl

pub with_floor-requires-2-clause-whole : goal.with_floor-requires-2-clause-whole
with_floor-requires-2-clause-whole g c = whole_items c.args.items g.A.CodecFixed.SIZE c.in_ok-floor.floor c.in_ok-floor.ensures.bytes.0

pub returns : goal.returns
returns g c =
    marker_takes _ _ _ _ _ _ _ _ _ _ _ _ _ _ _ _ _ c.requires.ready (are_pages g.row.S g.S.Seal g.S.Seal-dict) (λ f. refl) (λ u. refl) c.in-Some.buffer.now (sym c.in_ok-buffer.ensures.held ∙ ap option_copied c.in-Some.is) _ _
    (looks_own (λ (f : Floors g.row.A.Denot). f) (λ f. (journal_of c.args.self).sections) (preflight_shown c.args.self).floor_of (preflight_shown c.args.self).boundary_of (preflight_shown c.args.self).target _ _ _ _ _ _ _ _ _ _ _ _ c.requires.ready (are_pages g.row.S g.S.Seal g.S.Seal-dict) (λ f. refl) (λ u. refl) c.in-Some.buffer.now (sym c.in_ok-buffer.ensures.held ∙ ap option_copied c.in-Some.is) _ _ c.in_ok-item.ensures)
    _ _ _ refl (omega (arith, c.if-items-eq0.false)) (is_held (journal_of c.args.self).sections c.args.section c.in-Some.buffer.now (sym c.in_ok-buffer.ensures.held ∙ ap option_copied c.in-Some.is)) c.ranges.section.fits c.in_ok-floor.ensures.bytes c.with_floor-2.ensures
