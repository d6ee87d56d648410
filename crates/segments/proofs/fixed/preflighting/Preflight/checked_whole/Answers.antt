use Rattle.std.proofs.Common.{◌≡◌, ◌∙◌, ◌/◌, ◌*◌, ◌<◌, ℕ, inr, refl, sym, ap, arith}
use Rattle.blob_device.specs.Timeline.{disk}
use Rattle.segments.specs.FixedBounds.{whole_of}
use Rattle.segments.specs.FixedFloors.{preflight_shown, journal_of}
use Rattle.segments.specs.FixedLists.{section_size}
use Rattle.segments.proofs.opened.BoundLemmas.{size_is}
use Rattle.segments.proofs.checkpoint.Checking.{looks_partial, whole_looks, adopted_here, named_below, passes_below, boundary_earlier, whole_count, size_small}
use Rattle.segments.specs.lemmas.adding.Write.{are_pages}
use Rattle.segments.proofs.fixed.preflighting.Preflight.checked_whole.Goals as goal
use Rattle.blob_device.proofs.general.Results.{err_of}

pub returns-in_err-size : goal.returns-in_err-size
returns-in_err-size g c at bytes done less named had = absurd (omega (arith, c.in_err-size.ensures.guard.0 c.in_err-size.ensures.cause, c.requires.ready.floor))

pub returns-in_err-check_whole : goal.returns-in_err-check_whole
returns-in_err-check_whole g c at bytes done less named had =
    let m = (journal_of c.args.self).sections in
    let s = c.args.section in
    let n = c.in_ok-size.size in
    let small : c.args.section < 18446744073709551616 = c.ranges.section.fits in
    let here = size_is (m.held s) n c.in_ok-size.ensures.size in
    let e = c.in_err-check_whole.field-0.0 in
    looks_partial g.S.Seal.seal_of m.factory.pages.page_size g.A.CodecFixed.SIZE m.partition at bytes g.A.Codec.spelling g.A.Codec.accepted g.A.Codec.refusal g.D.Device _ _ m
    c.from_residual-in_err-check_whole.result e c.args.dev.now _ s n (whole_of g.A.CodecFixed.SIZE c.in_ok-size.size) (err_of c.from_residual-in_err-check_whole.result e c.from_residual-in_err-check_whole.ensures.1)
    c.in_err-check_whole.ensures.damage refl c.in_err-check_whole.ensures.partial
    (λ t. boundary_earlier g.S.Seal.seal_of m.factory.pages.page_size g.A.CodecFixed.SIZE m.partition at bytes (disk (g.D.Device.time c.args.dev.now)) s less
    ∙ adopted_here g.S.Seal.seal_of _ _ (are_pages g.row.S g.S.Seal g.S.Seal-dict) g.D.Device.Tells m (g.D.Device.opened c.args.dev.now) (disk (g.D.Device.time c.args.dev.now)) c.requires.ready.over (c.requires.ready.adopted t) s c.requires.is_held ∙ sym here)
    (λ t. inr (less, ((c.requires.ready.held t s small).0 c.requires.is_held).0))
    (λ t. passes_below g.S.Seal.seal_of m.factory.pages.page_size g.A.CodecFixed.SIZE m.partition at bytes g.A.Codec.spelling g.A.Codec.accepted g.D.Device.Tells (preflight_shown c.args.self) (disk (g.D.Device.time c.args.dev.now)) s
    (named_below g.S.Seal.seal_of _ _ (are_pages g.row.S g.S.Seal g.S.Seal-dict) g.D.Device.Tells m (g.D.Device.opened c.args.dev.now) (disk (g.D.Device.time c.args.dev.now)) c.requires.ready.over
    m.factory.pages.page_size g.A.CodecFixed.SIZE at bytes m.ceiling s done less (c.requires.ready.over.opened_list.to_ceiling s c.requires.is_held) small (c.requires.ready.held t) named) t had.checked)
    c.requires.ready.over

pub returns : goal.returns
returns g c at bytes done less named had =
    let m = (journal_of c.args.self).sections in
    let s = c.args.section in
    let n = c.in_ok-size.size in
    let f = c.checked.ensures in
    let small : c.args.section < 18446744073709551616 = c.ranges.section.fits in
    let here : c.in_ok-size.size ≡ section_size (journal_of c.args.self).sections c.args.section = size_is (m.held s) n c.in_ok-size.ensures.size in
    let count : c.in_ok-size.size / c.SIZE.result * g.A.CodecFixed.SIZE ≡ c.in_ok-size.size =
    ap (λ (k : ℕ). c.in_ok-size.size / k * g.A.CodecFixed.SIZE) c.SIZE.ensures ∙ whole_count n g.A.CodecFixed.SIZE g.met.A.CodecFixed.fixed.at_least c.in_ok-check_whole.ensures.whole in
    let bound = size_small m s c.requires.is_held in
    whole_looks g.S.Seal.seal_of m.factory.pages.page_size g.A.CodecFixed.SIZE m.partition at bytes g.A.Codec.spelling g.A.Codec.accepted g.A.Codec.refusal g.D.Device _ _ m
    preflight_shown (λ r. (journal_of r).sections) (preflight_shown c.args.self) s (c.in_ok-size.size / c.SIZE.result) c.args.dev.now c.checked.new.dev c.checked.result done m
    f g.met.A.CodecFixed.fixed.at_least (omega (arith, count, here, bound)) refl less c.requires.is_held
    (λ t. adopted_here g.S.Seal.seal_of _ _ (are_pages g.row.S g.S.Seal g.S.Seal-dict) g.D.Device.Tells m (g.D.Device.opened c.args.dev.now) (disk (g.D.Device.time c.args.dev.now)) c.requires.ready.over (c.requires.ready.adopted t) s c.requires.is_held ∙ sym here ∙ sym count)
    (λ t. ((c.requires.ready.held t s small).0 c.requires.is_held).0)
    (λ t. named_below g.S.Seal.seal_of _ _ (are_pages g.row.S g.S.Seal g.S.Seal-dict) g.D.Device.Tells m (g.D.Device.opened c.args.dev.now) (disk (g.D.Device.time c.args.dev.now)) c.requires.ready.over
    m.factory.pages.page_size g.A.CodecFixed.SIZE at bytes m.ceiling s done less (c.requires.ready.over.opened_list.to_ceiling s c.requires.is_held) small (c.requires.ready.held t) named)
    (count ∙ here) had
