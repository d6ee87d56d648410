-- The replay goes into the next section, or fills in an item where it stands and takes it, or ends the section.
use Rattle.std.specs.Prelude.{◌≡◌, Bool, false, Option, Some, None, IsSome, is_some, not}
use Rattle.std.specs.Option.{option_map}
use Rattle.std.proofs.Common.{refl, sym, ◌∙◌, ap, subst, arith, length-drop}
use Rattle.segments.specs.FixedWalking.{walk_of, place_of}
use Rattle.segments.proofs.replay.StepsOn.{step_unfilled, mid_over, mid_going, mid_stands, mid_last, step_ended, mid_hand, mid_room, step_taken}
use Rattle.segments.proofs.fixed.replaying.Replay.step.Goals as goal
use Rattle.blob_device.proofs.general.Results.{err_of}

stands : {A B : Type 0} (f : A → B) (o : Option A) (b : Bool) → is_some o ≡ not b → b ≡ false → IsSome (option_map f o)
stands f None b is off = absurd (cc (is, off))
stands f (Some x) b is off = refl

none_some : {A : Type 0} {o : Option A} → o ≡ None → IsSome o → ⊥
none_some is some = cc (subst IsSome is some)

pub fill-requires-clause-over : goal.fill-requires-clause-over
fill-requires-clause-over g c = c.requires.over

pub fill-requires-clause-stands : goal.fill-requires-clause-stands
fill-requires-clause-stands g c = stands place_of c.args.self.now.reading c.is_none.result c.is_none.ensures c.if-is_none.false

pub fill-requires-clause-fits : goal.fill-requires-clause-fits
fill-requires-clause-fits g c = omega (arith, g.met.A.CodecFixed.fixed.at_most)

pub returns-in_err-enter : goal.returns-in_err-enter
returns-in_err-enter g c = rw (err_of c.from_residual.result c.in_err-enter.field-0.0 c.from_residual.ensures.1) c.in_err-enter.ensures.steps

pub returns-then-is_none : goal.returns-then-is_none
returns-then-is_none g c = c.in_ok-enter.ensures.steps

pub returns-in_err-enough : goal.returns-in_err-enough
returns-in_err-enough g c =
    rw (err_of c.from_residual-in_err-enough.result c.in_err-enough.field-0.0 c.from_residual-in_err-enough.ensures.1)
    (step_unfilled g.S.Seal.seal_of g.A.CodecFixed.SIZE _ _ g.A.Codec.spelling g.A.Codec.accepted g.A.Codec.refusal g.D.Device g.met.A.CodecFixed.fixed.at_least (walk_of c.args.self.now) (walk_of c.fill.new.self) c.args.dev.now c.fill.new.dev c.requires.over (stands place_of c.args.self.now.reading c.is_none.result c.is_none.ensures c.if-is_none.false) c.in_err-enough.field-0.0 c.in_err-enough.ensures)

pub take_item-requires-clause-at_hand : goal.take_item-requires-clause-at_hand
take_item-requires-clause-at_hand g c =
    mid_hand g.S.Seal.seal_of g.A.CodecFixed.SIZE _ _ g.A.Codec.spelling g.A.Codec.accepted g.A.Codec.refusal g.D.Device g.met.A.CodecFixed.fixed.at_least (walk_of c.args.self.now) (walk_of c.fill.new.self) c.args.dev.now c.fill.new.dev c.requires.over (stands place_of c.args.self.now.reading c.is_none.result c.is_none.ensures c.if-is_none.false) c.in_ok-enough.enough c.in_ok-enough.ensures (place_of c.in-Some.reading) (ap (option_map place_of) (sym c.take.ensures.value ∙ c.in-Some.is)) c.if-enough.true

pub take_item-requires-clause-room : goal.take_item-requires-clause-room
take_item-requires-clause-room g c =
    mid_room g.S.Seal.seal_of g.A.CodecFixed.SIZE _ _ g.A.Codec.spelling g.A.Codec.accepted g.A.Codec.refusal g.D.Device g.met.A.CodecFixed.fixed.at_least (walk_of c.args.self.now) (walk_of c.fill.new.self) c.args.dev.now c.fill.new.dev c.requires.over (stands place_of c.args.self.now.reading c.is_none.result c.is_none.ensures c.if-is_none.false) c.in_ok-enough.enough c.in_ok-enough.ensures (place_of c.in-Some.reading) (ap (option_map place_of) (sym c.take.ensures.value ∙ c.in-Some.is)) c.if-enough.true
    (omega (arith, c.in-Some.reading.reader.inside, length-drop c.in-Some.reading.reader.used c.in-Some.reading.reader.held.items))

pub returns-in_default : goal.returns-in_default
returns-in_default g c =
    let none : c.fill.new.self.reading ≡ None = cc in
    absurd (none_some (ap (option_map place_of) none)
    (mid_stands g.S.Seal.seal_of g.A.CodecFixed.SIZE _ _ g.A.Codec.spelling g.A.Codec.accepted g.A.Codec.refusal g.D.Device g.met.A.CodecFixed.fixed.at_least (walk_of c.args.self.now) (walk_of c.fill.new.self) c.args.dev.now c.fill.new.dev c.requires.over (stands place_of c.args.self.now.reading c.is_none.result c.is_none.ensures c.if-is_none.false) c.in_ok-enough.enough c.in_ok-enough.ensures))

pub returns-then-enough : goal.returns-then-enough
returns-then-enough g c =
    step_taken g.S.Seal.seal_of g.A.CodecFixed.SIZE _ _ g.A.Codec.spelling g.A.Codec.accepted g.A.Codec.refusal g.D.Device g.met.A.CodecFixed.fixed.at_least (walk_of c.args.self.now) (walk_of c.fill.new.self) c.args.dev.now c.fill.new.dev c.requires.over (stands place_of c.args.self.now.reading c.is_none.result c.is_none.ensures c.if-is_none.false) c.in_ok-enough.enough c.in_ok-enough.ensures (place_of c.in-Some.reading) (ap (option_map place_of) (sym c.take.ensures.value ∙ c.in-Some.is)) c.if-enough.true
    (omega (arith, c.in-Some.reading.reader.inside, length-drop c.in-Some.reading.reader.used c.in-Some.reading.reader.held.items)) (λ u b stands. stands.adopted) c.requires.going c.take_item.result (walk_of c.take_item.new.self) _ (λ i. record (walk_of c.fill.new.self) { place = option_map place_of (c.take.ensures.after i) })
    c.take_item.ensures.given c.take_item.ensures.skipped c.take_item.ensures.goes c.take_item.ensures.stays c.take_item.ensures.cause c.take_item.ensures.refused

pub end-requires-clause-over : goal.end-requires-clause-over
end-requires-clause-over g c =
    mid_over g.S.Seal.seal_of g.A.CodecFixed.SIZE _ _ g.A.Codec.spelling g.A.Codec.accepted g.A.Codec.refusal g.D.Device g.met.A.CodecFixed.fixed.at_least (walk_of c.args.self.now) (walk_of c.fill.new.self) c.args.dev.now c.fill.new.dev c.requires.over (stands place_of c.args.self.now.reading c.is_none.result c.is_none.ensures c.if-is_none.false) c.in_ok-enough.enough c.in_ok-enough.ensures

pub end-requires-clause-going : goal.end-requires-clause-going
end-requires-clause-going g c =
    mid_going g.S.Seal.seal_of g.A.CodecFixed.SIZE _ _ g.A.Codec.spelling g.A.Codec.accepted g.A.Codec.refusal g.D.Device g.met.A.CodecFixed.fixed.at_least (walk_of c.args.self.now) (walk_of c.fill.new.self) c.args.dev.now c.fill.new.dev c.requires.over (stands place_of c.args.self.now.reading c.is_none.result c.is_none.ensures c.if-is_none.false) c.in_ok-enough.enough c.in_ok-enough.ensures c.requires.going

pub end-requires-clause-stands : goal.end-requires-clause-stands
end-requires-clause-stands g c =
    mid_stands g.S.Seal.seal_of g.A.CodecFixed.SIZE _ _ g.A.Codec.spelling g.A.Codec.accepted g.A.Codec.refusal g.D.Device g.met.A.CodecFixed.fixed.at_least (walk_of c.args.self.now) (walk_of c.fill.new.self) c.args.dev.now c.fill.new.dev c.requires.over (stands place_of c.args.self.now.reading c.is_none.result c.is_none.ensures c.if-is_none.false) c.in_ok-enough.enough c.in_ok-enough.ensures

pub end-requires-clause-last : goal.end-requires-clause-last
end-requires-clause-last g c =
    mid_last g.S.Seal.seal_of g.A.CodecFixed.SIZE _ _ g.A.Codec.spelling g.A.Codec.accepted g.A.Codec.refusal g.D.Device g.met.A.CodecFixed.fixed.at_least (walk_of c.args.self.now) (walk_of c.fill.new.self) c.args.dev.now c.fill.new.dev c.requires.over (stands place_of c.args.self.now.reading c.is_none.result c.is_none.ensures c.if-is_none.false) c.in_ok-enough.enough c.in_ok-enough.ensures c.if-enough.false

pub returns-in_err-end : goal.returns-in_err-end
returns-in_err-end g c =
    rw (err_of c.from_residual-in_err-end.result c.in_err-end.field-0.0 c.from_residual-in_err-end.ensures.1)
    (step_ended g.S.Seal.seal_of g.A.CodecFixed.SIZE _ _ g.A.Codec.spelling g.A.Codec.accepted g.A.Codec.refusal g.D.Device g.met.A.CodecFixed.fixed.at_least (walk_of c.args.self.now) (walk_of c.fill.new.self) c.args.dev.now c.fill.new.dev c.requires.over (stands place_of c.args.self.now.reading c.is_none.result c.is_none.ensures c.if-is_none.false) c.in_ok-enough.enough c.in_ok-enough.ensures _ _ _ (λ x at. (c.in_err-end.ensures x at).steps))

pub returns : goal.returns
returns g c =
    step_ended g.S.Seal.seal_of g.A.CodecFixed.SIZE _ _ g.A.Codec.spelling g.A.Codec.accepted g.A.Codec.refusal g.D.Device g.met.A.CodecFixed.fixed.at_least (walk_of c.args.self.now) (walk_of c.fill.new.self) c.args.dev.now c.fill.new.dev c.requires.over (stands place_of c.args.self.now.reading c.is_none.result c.is_none.ensures c.if-is_none.false) c.in_ok-enough.enough c.in_ok-enough.ensures _ _ _ (λ x at. (c.in_ok-end.ensures x at).steps)
