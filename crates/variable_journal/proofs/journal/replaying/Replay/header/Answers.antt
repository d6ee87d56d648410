-- The bytes of a length are looked at, which are at hand then.
use Rattle.std.proofs.Common.{arith, sym}
use Rattle.std.proofs.lemmas.List.{length-take-le}
use Rattle.segments.specs.FixedWalking as bytes
use Rattle.variable_journal.specs.Walking.{walk_of}
use Rattle.variable_journal.proofs.HeaderLemmas.{header_err, header_found, header_long, header_ready, header_stands}
use Rattle.variable_journal.proofs.LookingLemmas.{of_some}
use Rattle.variable_journal.proofs.journal.replaying.Replay.header.Goals as goal
use Rattle.blob_device.proofs.general.Results.{err_of}

pub returns-in_err-count-clause-header : goal.returns-in_err-count-clause-header
returns-in_err-count-clause-header g c r at = rw (err_of c.from_residual.result c.in_err-count.field-0.0 c.from_residual.ensures.1)
    (header_err _ _ g.S.Seal.seal_of g.D.Device (walk_of c.args.self.now) r at c.requires.free (walk_of c.look.new.self) c.args.dev.now c.look.new.dev c.in_err-count.field-0.0 (c.in_err-count.ensures.looked r at))

pub fill-requires-clause-over : goal.fill-requires-clause-over
fill-requires-clause-over g c = of_some (walk_of c.args.self.now).place c.requires.stands (λ r at. (c.in_ok-count.ensures.looked r at).looks.over)

pub fill-requires-clause-stands : goal.fill-requires-clause-stands
fill-requires-clause-stands g c =
    of_some (walk_of c.args.self.now).place c.requires.stands (λ r at. header_stands _ _ g.S.Seal.seal_of g.D.Device (walk_of c.args.self.now) r at c.requires.free (walk_of c.look.new.self) c.args.dev.now c.look.new.dev c.in_ok-count.count (c.in_ok-count.ensures.looked r at))

pub fill-requires-clause-fits : goal.fill-requires-clause-fits
fill-requires-clause-fits g c = of_some (walk_of c.args.self.now).place c.requires.stands (λ r at. omega (arith, (c.in_ok-count.ensures.looked r at).hand.0))

pub returns-in_err-fill-clause-header : goal.returns-in_err-fill-clause-header
returns-in_err-fill-clause-header g c r at = absurd (
    let ready = header_ready _ _ g.S.Seal.seal_of g.D.Device (walk_of c.args.self.now) r at c.requires.free (walk_of c.look.new.self) c.args.dev.now c.look.new.dev c.in_ok-count.count (c.in_ok-count.ensures.looked r at)
    (bytes.walk_of c.fill.new.self) c.fill.new.dev _ c.in_err-fill.ensures in
    cc ready)

pub slice_bounds-first_header-end : goal.slice_bounds-first_header-end
slice_bounds-first_header-end g c =
    of_some (walk_of c.args.self.now).place c.requires.stands (λ r at. sym (length-take-le c.in_ok-count.count c.at_hand.result.now (header_long _ _ g.S.Seal.seal_of g.D.Device (walk_of c.args.self.now) r at c.requires.free (walk_of c.look.new.self) c.args.dev.now c.look.new.dev c.in_ok-count.count (c.in_ok-count.ensures.looked r at)
    (bytes.walk_of c.fill.new.self) c.fill.new.dev _ c.in_ok-fill.ensures c.at_hand.result.now c.at_hand.ensures)))

pub returns-clause-header : goal.returns-clause-header
returns-clause-header g c r at =
    header_found _ _ g.S.Seal.seal_of g.D.Device (walk_of c.args.self.now) r at c.requires.free (walk_of c.look.new.self) c.args.dev.now c.look.new.dev c.in_ok-count.count (c.in_ok-count.ensures.looked r at)
    (bytes.walk_of c.fill.new.self) c.fill.new.dev _ c.in_ok-fill.ensures c.at_hand.result.now c.at_hand.ensures c.first_header.result c.first_header.ensures.says c.first_header.ensures.small
