-- A section is entered, or a frame taken, or a section ended.
use Rattle.std.specs.Prelude.{◌≡◌, Option, None, Some}
use Rattle.std.specs.Option.{option_map}
use Rattle.std.proofs.Common.{refl}
use Rattle.segments.specs.FixedReplay.{Place}
use Rattle.segments.specs.FixedWalking as bytes
use Rattle.variable_journal.specs.Walking.{config_of, walk_of}
use Rattle.variable_journal.proofs.EnteringLemmas.{entered, only_ahead}
use Rattle.variable_journal.proofs.HeaderLemmas.{place_told, turn_bad, turn_frame, turn_may, turn_stopped, turn_then, turn_torn}
use Rattle.variable_journal.proofs.SteppingLemmas.{error_steps}
use Rattle.variable_journal.proofs.TornLemmas.{one_byte}
use Rattle.variable_journal.proofs.journal.replaying.Replay.turn.Goals as goal
use Rattle.blob_device.proofs.general.Results.{err_of}

none_of : {A B : Type 0} (f : A → B) (o : Option A) (p : Option B) → p ≡ option_map f o → p ≡ None → o ≡ None
none_of f None p is none = refl
none_of f (Some x) p is none = absurd (cc (is, none))

pub returns-in_err-enter-clause-ends : goal.returns-in_err-enter-clause-ends
returns-in_err-enter-clause-ends g c =
    let f = c.in_err-enter.ensures in
    rw (err_of c.from_residual.result c.in_err-enter.field-0.0 c.from_residual.ensures.1)
    (error_steps _ _ g.S.Seal.seal_of g.D.Device _ _ _ (walk_of c.args.self.now) (bytes.walk_of c.enter.new.self) c.args.dev.now c.enter.new.dev _ f.steps f.steps.broken.over f.left g.V.Codec.spelling g.V.Codec.accepted g.V.Codec.refusal (config_of c.args.self.now)
    c.requires.over.free c.requires.going c.requires.over.bytes.walk (only_ahead (walk_of c.args.self.now) (bytes.walk_of c.enter.new.self) (none_of (λ (r : Place). (r.section, r.position)) (walk_of c.args.self.now).place c.place.result c.place.ensures c.in_default.is) f.steps.onward)
    one_byte c.in_err-enter.field-0.0 refl f.steps.broken c.requires.over.walked)

pub returns-in_default-clause-ends : goal.returns-in_default-clause-ends
returns-in_default-clause-ends g c =
    entered _ _ g.S.Seal.seal_of g.D.Device _ _ _ g.V.Codec.spelling g.V.Codec.accepted g.V.Codec.refusal (config_of c.args.self.now) (walk_of c.args.self.now) (bytes.walk_of c.enter.new.self) c.args.dev.now c.enter.new.dev
    c.requires.over (none_of (λ (r : Place). (r.section, r.position)) (walk_of c.args.self.now).place c.place.result c.place.ensures c.in_default.is) c.requires.going c.in_ok-enter.ensures

pub header-requires : goal.header-requires
header-requires g c = turn_may _ _ g.S.Seal.seal_of g.D.Device g.V.Codec.spelling g.V.Codec.accepted g.V.Codec.refusal (config_of c.args.self.now) c.in-Some.section c.in-Some.offset (walk_of c.args.self.now) c.args.dev.now c.args.dev.now c.requires (place_told (walk_of c.args.self.now).place c.place.result c.in-Some.section c.in-Some.offset c.place.ensures (cc))

pub returns-in_err-size-clause-ends : goal.returns-in_err-size-clause-ends
returns-in_err-size-clause-ends g c = rw (err_of c.from_residual-in_err-size.result c.in_err-size.field-0.0 c.from_residual-in_err-size.ensures.1)
    (turn_stopped _ _ g.S.Seal.seal_of g.D.Device g.V.Codec.spelling g.V.Codec.accepted g.V.Codec.refusal (config_of c.args.self.now) c.in-Some.section c.in-Some.offset (walk_of c.args.self.now) c.args.dev.now c.header.new.dev c.requires (place_told (walk_of c.args.self.now).place c.place.result c.in-Some.section c.in-Some.offset c.place.ensures (cc)) (walk_of c.header.new.self) c.in_err-size.field-0.0 c.in_err-size.ensures.header)

pub frame-requires : goal.frame-requires
frame-requires g c = record {
  frame = turn_frame _ _ g.S.Seal.seal_of g.D.Device g.V.Codec.spelling g.V.Codec.accepted g.V.Codec.refusal (config_of c.args.self.now) c.in-Some.section c.in-Some.offset (walk_of c.args.self.now) c.args.dev.now c.header.new.dev c.requires (place_told (walk_of c.args.self.now).place c.place.result c.in-Some.section c.in-Some.offset c.place.ensures (cc)) (walk_of c.header.new.self) _ c.in_ok-size.ensures.header
      c.in-Length.size c.in-Length.header (cc);
}

pub end-requires : goal.end-requires
end-requires g c = record {
  torn = turn_torn _ _ g.S.Seal.seal_of g.D.Device g.V.Codec.spelling g.V.Codec.accepted g.V.Codec.refusal (config_of c.args.self.now) c.in-Some.section c.in-Some.offset (walk_of c.args.self.now) c.args.dev.now c.header.new.dev c.requires (place_told (walk_of c.args.self.now).place c.place.result c.in-Some.section c.in-Some.offset c.place.ensures (cc)) (walk_of c.header.new.self) _ c.in_ok-size.ensures.header (cc);
}

pub returns-in-Length-clause-ends : goal.returns-in-Length-clause-ends
returns-in-Length-clause-ends g c =
    turn_then _ _ g.S.Seal.seal_of g.D.Device g.V.Codec.spelling g.V.Codec.accepted g.V.Codec.refusal (config_of c.args.self.now) c.in-Some.section c.in-Some.offset (walk_of c.args.self.now) c.args.dev.now c.header.new.dev c.requires (place_told (walk_of c.args.self.now).place c.place.result c.in-Some.section c.in-Some.offset c.place.ensures (cc)) (walk_of c.header.new.self) _ c.in_ok-size.ensures.header
    (walk_of c.frame.new.self) c.frame.new.dev c.frame.result (rw c.in_ok-size.ensures.config at c.frame.ensures.ends)

pub returns-in-Cut-clause-ends : goal.returns-in-Cut-clause-ends
returns-in-Cut-clause-ends g c =
    turn_then _ _ g.S.Seal.seal_of g.D.Device g.V.Codec.spelling g.V.Codec.accepted g.V.Codec.refusal (config_of c.args.self.now) c.in-Some.section c.in-Some.offset (walk_of c.args.self.now) c.args.dev.now c.header.new.dev c.requires (place_told (walk_of c.args.self.now).place c.place.result c.in-Some.section c.in-Some.offset c.place.ensures (cc)) (walk_of c.header.new.self) _ c.in_ok-size.ensures.header
    (walk_of c.end.new.self) c.end.new.dev c.end.result (rw c.in_ok-size.ensures.config at c.end.ensures.ends)

pub returns-in-Bad-clause-ends : goal.returns-in-Bad-clause-ends
returns-in-Bad-clause-ends g c =
    turn_bad _ _ g.S.Seal.seal_of g.D.Device g.V.Codec.spelling g.V.Codec.accepted g.V.Codec.refusal (config_of c.args.self.now) c.in-Some.section c.in-Some.offset (walk_of c.args.self.now) c.args.dev.now c.header.new.dev c.requires (place_told (walk_of c.args.self.now).place c.place.result c.in-Some.section c.in-Some.offset c.place.ensures (cc)) (walk_of c.header.new.self) _ c.in_ok-size.ensures.header (cc)
