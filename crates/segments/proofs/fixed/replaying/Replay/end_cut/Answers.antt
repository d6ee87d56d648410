-- The section is cut, and then the start is checked.
use Rattle.std.specs.Prelude.{◌≡◌, Err}
use Rattle.std.proofs.Common.{refl, sym, ◌∙◌, arith}
use Rattle.std.proofs.lemmas.Result.{err_from_is_err_and}
use Rattle.blob_device.specs.Timeline.{disk}
use Rattle.sealed_pages.specs.lemmas.memory.Holding.{fit_size}
use Rattle.section_manager.specs.declared.journal.Error.TheVariants.{Corruption, ItemOutOfRange}
use Rattle.segments.specs.FixedWalking.{walk_of, place_of}
use Rattle.segments.proofs.replay.Cutting.{ends_below, cut_failed, cut_ended, cut_refused, cut_within, cut_prefix}
use Rattle.segments.proofs.replay.Opening.{first_here}
use Rattle.segments.proofs.replay.ErrorSteps.{cut_as}
use Rattle.segments.proofs.replay.Reading.{here, reached_here, floor_refused}
use Rattle.segments.proofs.fixed.replaying.Replay.end_cut.Goals as goal
use Rattle.blob_device.proofs.general.Options.{some_of}

pub check_floor-requires : goal.check_floor-requires
check_floor-requires g c =
    let u = here g.S.Seal.seal_of g.A.CodecFixed.SIZE _ _ (walk_of c.args.self.now) (place_of c.args.reading) _ (disk (g.D.Device.time c.args.dev.now)) c.requires.over in
    omega (arith, u.2.within, fit_size _ _ _ _ u.0.fit)

pub returns-in_err-check_floor : goal.returns-in_err-check_floor
returns-in_err-check_floor g c =
    let p = err_from_is_err_and c.from_residual.result c.from_residual.ensures.1 in
    let cause = c.in_err-check_floor.ensures.cause in
    let below = c.in_err-check_floor.ensures.below cause.0 cause.1 in
    let is : c.from_residual.result ≡ Err (Corruption cause.0) = (let at = p.1 in let same = p.2 in let refused = cause.1 in cc (at, same, refused)) in
    rw is (record {
      steps = floor_refused g.S.Seal.seal_of g.A.CodecFixed.SIZE _ _ (walk_of c.args.self.now) (place_of c.args.reading) _ (g.D.Device.time c.args.dev.now) c.requires.over g.A.Codec.spelling g.A.Codec.accepted g.A.Codec.refusal c.requires.between _ _ (omega arith) cause.0
          (λ t. ends_below g.S.Seal.seal_of g.A.CodecFixed.SIZE (walk_of c.args.self.now) (place_of c.args.reading) (disk (g.D.Device.time c.args.dev.now)) cause.0 below.0 below.1 below.2 below.3 c.requires.owed
          (reached_here g.S.Seal.seal_of g.A.CodecFixed.SIZE _ _ (walk_of c.args.self.now) (place_of c.args.reading) _ (g.D.Device.time c.args.dev.now) c.requires.over).held (c.requires.last t)) below.0;
      left = c.requires.between;
      next = refl;
      cut = tt;
      sealed = λ t. tt;
    })

pub cut-requires-clause-over : goal.cut-requires-clause-over
cut-requires-clause-over g c = c.requires.over.over

pub cut-requires-clause-held : goal.cut-requires-clause-held
cut-requires-clause-held g c = (reached_here g.S.Seal.seal_of g.A.CodecFixed.SIZE _ _ (walk_of c.args.self.now) (place_of c.args.reading) _ (g.D.Device.time c.args.dev.now) c.requires.over).held

pub cut-requires-clause-settled : goal.cut-requires-clause-settled
cut-requires-clause-settled g c u held = c.requires.over.walk.owes_settled.settled c.args.reading.section u held c.requires.owed

pub cut-requires-clause-within : goal.cut-requires-clause-within
cut-requires-clause-within g c u held = cut_within g.S.Seal.seal_of g.A.CodecFixed.SIZE _ _ (walk_of c.args.self.now) (place_of c.args.reading) _ (g.D.Device.time c.args.dev.now) c.requires.over u held

pub cut-requires-clause-prefix : goal.cut-requires-clause-prefix
cut-requires-clause-prefix g c t u held = cut_prefix g.S.Seal.seal_of g.A.CodecFixed.SIZE _ _ (walk_of c.args.self.now) (place_of c.args.reading) _ (g.D.Device.time c.args.dev.now) c.requires.over u held g.met.A.CodecFixed.fixed.at_least t c.requires.owed (c.requires.last t)

pub returns-in_err-cut : goal.returns-in_err-cut
returns-in_err-cut g c =
    let p = err_from_is_err_and c.from_residual-in_err-cut.result c.from_residual-in_err-cut.ensures.1 in
    rw p.1 (record {
      steps = cut_failed g.S.Seal.seal_of g.A.CodecFixed.SIZE _ _ (walk_of c.args.self.now) (walk_of c.cut.new.self) (place_of c.args.reading) _ _ (g.D.Device.time c.args.dev.now) (g.D.Device.time c.cut.new.dev)
          c.requires.over c.requires.between c.cut.result c.cut.ensures.rest c.cut.ensures.touches c.requires.owed c.in_ok-check_floor.ensures.ok c.requires.last g.met.A.CodecFixed.fixed.at_least c.cut.ensures.moments g.A.Codec.spelling g.A.Codec.accepted g.A.Codec.refusal _ _ c.cut.ensures.faults
          p.0 c.in_err-cut.ensures.ended c.in_err-cut.ensures.touches.lost (λ t k is. c.in_err-cut.ensures.damaged t k (let at = p.2 in cc (at, is))) (cut_as _ p.0 p.2 _ _ c.in_err-cut.ensures.cause);
      left = c.cut.ensures.rest.place ∙ c.requires.between;
      next = c.cut.ensures.rest.next;
      cut = tt;
      sealed = λ t. tt;
    })

pub returns-in_err-check_start : goal.returns-in_err-check_start
returns-in_err-check_start g c =
    let p = err_from_is_err_and c.from_residual-in_err-check_start.result c.from_residual-in_err-check_start.ensures.1 in
    let refused = c.in_err-check_start.ensures.cause in
    let fewer = c.in_err-check_start.ensures.fewer (walk_of c.cut.new.self).start_position refused in
    let rest = c.cut.ensures.rest in
    let is : c.from_residual-in_err-check_start.result ≡ Err (ItemOutOfRange (walk_of c.args.self.now).start_position) = (let first = rest.position in let at = p.1 in let same = p.2 in cc (at, same, refused, first)) in
    let again = some_of ((walk_of c.cut.new.self).journal.sections.held c.args.reading.section) c.in_ok-cut.ensures.touches.held in
    let u = here g.S.Seal.seal_of g.A.CodecFixed.SIZE _ _ (walk_of c.args.self.now) (place_of c.args.reading) _ (disk (g.D.Device.time c.args.dev.now)) c.requires.over in
    rw is (record {
      steps = cut_refused g.S.Seal.seal_of g.A.CodecFixed.SIZE _ _ (walk_of c.args.self.now) (walk_of c.cut.new.self) (place_of c.args.reading) _ _ (g.D.Device.time c.args.dev.now) (g.D.Device.time c.cut.new.dev)
          c.requires.over c.requires.between c.cut.result rest c.cut.ensures.touches c.requires.owed c.in_ok-check_floor.ensures.ok c.requires.last g.met.A.CodecFixed.fixed.at_least c.cut.ensures.moments g.A.Codec.spelling g.A.Codec.accepted g.A.Codec.refusal _ _ c.cut.ensures.faults
          again.0 again.1 c.requires.going c.in_ok-cut.ensures.going (c.in_ok-cut.ensures.cut u.0 again.0 u.1 again.1) (fewer.0 ∙ rest.section) (omega (arith, fewer.2, rest.position));
      left = rest.place ∙ c.requires.between;
      next = rest.next;
      cut = tt;
      sealed = λ t. tt;
    })

pub returns : goal.returns
returns g c =
    let again = some_of ((walk_of c.cut.new.self).journal.sections.held c.args.reading.section) c.in_ok-cut.ensures.touches.held in
    let u = here g.S.Seal.seal_of g.A.CodecFixed.SIZE _ _ (walk_of c.args.self.now) (place_of c.args.reading) _ (disk (g.D.Device.time c.args.dev.now)) c.requires.over in
    record {
      steps = cut_ended g.S.Seal.seal_of g.A.CodecFixed.SIZE _ _ (walk_of c.args.self.now) (walk_of c.cut.new.self) (place_of c.args.reading) _ _ (g.D.Device.time c.args.dev.now) (g.D.Device.time c.cut.new.dev)
          c.requires.over c.requires.between c.cut.result c.cut.ensures.rest c.cut.ensures.touches c.requires.owed c.in_ok-check_floor.ensures.ok c.requires.last g.met.A.CodecFixed.fixed.at_least c.cut.ensures.moments g.A.Codec.spelling g.A.Codec.accepted g.A.Codec.refusal _ _ c.cut.ensures.faults
          again.0 again.1 c.requires.going c.in_ok-cut.ensures.going (c.in_ok-cut.ensures.cut u.0 again.0 u.1 again.1)
          (λ at. (let rest = c.cut.ensures.rest in omega (arith, c.in_ok-check_start.ensures.ok, first_here (walk_of c.cut.new.self) c.args.reading.section (at ∙ sym rest.section), rest.position))) c.in_ok-cut.ensures.reads;
      left = c.cut.ensures.rest.place ∙ c.requires.between;
      next = c.cut.ensures.rest.next;
      cut = λ v owed held. (c.in_ok-cut.ensures.cut u.0 v u.1 held).size;
      sealed = λ t v read held. (c.in_ok-cut.ensures.cut u.0 v u.1 held).sealed t;
    }
