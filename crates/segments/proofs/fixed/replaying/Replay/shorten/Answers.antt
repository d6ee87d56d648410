-- The section is cut.
use Rattle.std.specs.Prelude.{◌≡◌, Err}
use Rattle.std.proofs.Common.{arith}
use Rattle.std.proofs.lemmas.Result.{err_from_is_err_and}
use Rattle.std.specs.Result.{IsErrOf}
use Rattle.section_manager.specs.declared.journal.Error.{Error}
use Rattle.segments.specs.FixedWalking.{walk_of}
use Rattle.segments.proofs.checkpoint.Checking.{count_as}
use Rattle.segments.proofs.replay.ErrorSteps.{cut_as}
use Rattle.segments.specs.lemmas.held.Passing.{no_error}
use Rattle.segments.specs.lemmas.replay.Shortening.{cut_moments, walk_lost, walk_shortened, within_here, within_prefix}
use Rattle.segments.proofs.replay.Shortening.{cut_to}
use Rattle.segments.proofs.fixed.replaying.Replay.shorten.Goals as goal
use Rattle.blob_device.proofs.general.Options.{some_of}

error_at : {e x y : Error} → x ≡ e → IsErrOf {T = Unit {0}} (Err x) y → IsErrOf {T = Unit {0}} (Err e) y
error_at is bad = cc (is, bad)

pub cut-requires-clause-over : goal.cut-requires-clause-over
cut-requires-clause-over g c = c.requires.over.over

pub cut-requires-clause-held : goal.cut-requires-clause-held
cut-requires-clause-held g c = c.requires.may.held

pub cut-requires-clause-settled : goal.cut-requires-clause-settled
cut-requires-clause-settled g c u held = c.requires.over.walk.owes_settled.settled c.args.section u held c.requires.may.owes

pub cut-requires-clause-within : goal.cut-requires-clause-within
cut-requires-clause-within g c u held =
    omega (arith, count_as c.args.size c.SIZE.result g.A.CodecFixed.SIZE c.SIZE.ensures g.met.A.CodecFixed.fixed.at_least c.requires.may.whole, within_here g.S.Seal.seal_of g.A.CodecFixed.SIZE _ _ (walk_of c.args.self.now) _ (g.D.Device.time c.args.dev.now) c.requires.over c.args.section c.args.size c.requires.may u held)

pub cut-requires-clause-prefix : goal.cut-requires-clause-prefix
cut-requires-clause-prefix g c t u held =
    omega (arith, count_as c.args.size c.SIZE.result g.A.CodecFixed.SIZE c.SIZE.ensures g.met.A.CodecFixed.fixed.at_least c.requires.may.whole, within_prefix g.S.Seal.seal_of g.A.CodecFixed.SIZE _ _ (walk_of c.args.self.now) _ (g.D.Device.time c.args.dev.now) c.requires.over c.args.section c.args.size c.requires.may t u held)

pub returns-in_err-cut : goal.returns-in_err-cut
returns-in_err-cut g c =
    let p = err_from_is_err_and c.from_residual.result c.from_residual.ensures.1 in
    let o = c.in_err-cut.ensures in
    rw p.1 (record {
      over = tt;
      broken = walk_lost g.S.Seal.seal_of g.A.CodecFixed.SIZE _ _ (walk_of c.args.self.now) _ (g.D.Device.time c.args.dev.now) c.requires.over c.args.section c.args.size c.requires.may (walk_of c.cut.new.self) _ (g.D.Device.time c.cut.new.dev) c.cut.result c.cut.ensures.rest c.cut.ensures.touches o.touches.lost;
      rest = c.cut.ensures.rest;
      going = tt;
      ended = o.ended;
      touches = record { over = o.touches.over; others = o.touches.others; bounds = o.touches.bounds; entries = o.touches.entries; blobs = o.touches.blobs; held = tt; lost = o.touches.lost };
      cut = tt;
      moments = λ t u held. cut_moments g.S.Seal.seal_of g.A.CodecFixed.SIZE _ _ (walk_of c.args.self.now) _ (g.D.Device.time c.args.dev.now) c.requires.over c.args.section c.args.size c.requires.may t u held _ (count_as c.args.size c.SIZE.result g.A.CodecFixed.SIZE c.SIZE.ensures g.met.A.CodecFixed.fixed.at_least c.requires.may.whole) (g.D.Device.time c.cut.new.dev) (c.cut.ensures.moments t u held);
      reads = tt;
      faults = c.cut.ensures.faults;
      damage = λ t (k, bad). o.damaged t k (error_at p.2 bad);
      cause = cut_as _ p.0 p.2 _ _ o.cause;
    })

pub returns : goal.returns
returns g c =
    let o = c.in_ok-cut.ensures in
    let v = some_of ((walk_of c.cut.new.self).journal.sections.held c.args.section) o.touches.held in
    record {
      over = walk_shortened g.S.Seal.seal_of g.A.CodecFixed.SIZE _ _ (walk_of c.args.self.now) _ (g.D.Device.time c.args.dev.now) c.requires.over c.args.section c.args.size c.requires.may (walk_of c.cut.new.self) _ (g.D.Device.time c.cut.new.dev) c.cut.result c.cut.ensures.rest c.cut.ensures.touches v.0 v.1 o.going
          (λ u held. cut_to (count_as c.args.size c.SIZE.result g.A.CodecFixed.SIZE c.SIZE.ensures g.met.A.CodecFixed.fixed.at_least c.requires.may.whole) (o.cut u v.0 held v.1));
      broken = tt;
      rest = c.cut.ensures.rest;
      going = o.going;
      ended = tt;
      touches = o.touches;
      cut = λ u x held now. cut_to (count_as c.args.size c.SIZE.result g.A.CodecFixed.SIZE c.SIZE.ensures g.met.A.CodecFixed.fixed.at_least c.requires.may.whole) (o.cut u x held now);
      moments = λ t u held. cut_moments g.S.Seal.seal_of g.A.CodecFixed.SIZE _ _ (walk_of c.args.self.now) _ (g.D.Device.time c.args.dev.now) c.requires.over c.args.section c.args.size c.requires.may t u held _ (count_as c.args.size c.SIZE.result g.A.CodecFixed.SIZE c.SIZE.ensures g.met.A.CodecFixed.fixed.at_least c.requires.may.whole) (g.D.Device.time c.cut.new.dev) (c.cut.ensures.moments t u held);
      reads = o.reads;
      faults = c.cut.ensures.faults;
      damage = λ t (k, bad). no_error _ _ bad;
      cause = tt;
    }
