-- The frame is taken, or passed over, or is cut short.
use Rattle.section_manager.specs.Raised.{raised_codec}
use Rattle.segments.specs.FixedWalking as bytes
use Rattle.variable_journal.specs.Walking.{config_of, walk_of}
use Rattle.variable_journal.proofs.TakenLemmas.{frame_at, frame_gave, frame_hand, frame_long, frame_may, frame_passed, frame_refused, frame_stopped, frame_there, frame_torn, frame_turn, frame_walk}
use Rattle.variable_journal.proofs.journal.replaying.Replay.frame.Goals as goal
use Rattle.blob_device.proofs.general.Results.{err_of}

pub reach-requires-clause-look : goal.reach-requires-clause-look
reach-requires-clause-look g c = frame_may _ _ g.S.Seal.seal_of g.D.Device g.V.Codec.spelling g.V.Codec.accepted g.V.Codec.refusal (config_of c.args.self.now) c.args.section c.args.offset c.args.header c.args.size (walk_of c.args.self.now) c.args.dev.now c.args.dev.now c.requires.frame (walk_of c.args.self.now)

pub reach-requires-clause-at : goal.reach-requires-clause-at
reach-requires-clause-at g c = frame_at _ _ g.S.Seal.seal_of g.D.Device g.V.Codec.spelling g.V.Codec.accepted g.V.Codec.refusal (config_of c.args.self.now) c.args.section c.args.offset c.args.header c.args.size (walk_of c.args.self.now) c.args.dev.now c.args.dev.now c.requires.frame (walk_of c.args.self.now)

pub returns-in_err-reach-clause-ends : goal.returns-in_err-reach-clause-ends
returns-in_err-reach-clause-ends g c = rw (err_of c.from_residual.result c.in_err-reach.field-0.0 c.from_residual.ensures.1)
    (frame_stopped _ _ g.S.Seal.seal_of g.D.Device g.V.Codec.spelling g.V.Codec.accepted g.V.Codec.refusal (config_of c.args.self.now) c.args.section c.args.offset c.args.header c.args.size (walk_of c.args.self.now) c.args.dev.now c.reach.new.dev c.requires.frame (walk_of c.reach.new.self) c.in_err-reach.field-0.0 c.in_err-reach.ensures.reached)

pub end-requires : goal.end-requires
end-requires g c = record {
  torn = frame_torn _ _ g.S.Seal.seal_of g.D.Device g.V.Codec.spelling g.V.Codec.accepted g.V.Codec.refusal (config_of c.args.self.now) c.args.section c.args.offset c.args.header c.args.size (walk_of c.args.self.now) c.args.dev.now c.reach.new.dev c.requires.frame (walk_of c.reach.new.self) _ c.in_ok-reach.ensures.reached c.if-not-branch.true;
}

pub returns-then-not-branch-clause-ends : goal.returns-then-not-branch-clause-ends
returns-then-not-branch-clause-ends g c =
    frame_turn _ _ g.S.Seal.seal_of g.D.Device g.V.Codec.spelling g.V.Codec.accepted g.V.Codec.refusal (config_of c.args.self.now) c.args.section c.args.offset c.args.header c.args.size (walk_of c.args.self.now) c.args.dev.now c.reach.new.dev c.requires.frame (walk_of c.reach.new.self) _ c.in_ok-reach.ensures.reached
    (walk_of c.end.new.self) c.end.new.dev c.end.result (rw c.in_ok-reach.ensures.config at c.end.ensures.ends)

pub pass-requires-clause-walk : goal.pass-requires-clause-walk
pass-requires-clause-walk g c =
    frame_walk _ _ g.S.Seal.seal_of g.D.Device g.V.Codec.spelling g.V.Codec.accepted g.V.Codec.refusal (config_of c.args.self.now) c.args.section c.args.offset c.args.header c.args.size (walk_of c.args.self.now) c.args.dev.now c.reach.new.dev c.requires.frame (walk_of c.reach.new.self) _ c.in_ok-reach.ensures.reached

pub pass-requires-clause-at_hand : goal.pass-requires-clause-at_hand
pass-requires-clause-at_hand g c =
    frame_hand _ _ g.S.Seal.seal_of g.D.Device g.V.Codec.spelling g.V.Codec.accepted g.V.Codec.refusal (config_of c.args.self.now) c.args.section c.args.offset c.args.header c.args.size (walk_of c.args.self.now) c.args.dev.now c.reach.new.dev c.requires.frame (walk_of c.reach.new.self) _ c.in_ok-reach.ensures.reached c.if-not-branch.false

pub returns-then-offset-first_position-clause-ends : goal.returns-then-offset-first_position-clause-ends
returns-then-offset-first_position-clause-ends g c =
    frame_passed _ _ g.S.Seal.seal_of g.D.Device g.V.Codec.spelling g.V.Codec.accepted g.V.Codec.refusal (config_of c.args.self.now) c.args.section c.args.offset c.args.header c.args.size (walk_of c.args.self.now) c.args.dev.now c.reach.new.dev c.requires.frame (walk_of c.reach.new.self) _ c.in_ok-reach.ensures.reached c.if-not-branch.false
    (bytes.walk_of c.pass.new.self) c.pass.ensures c.first_position.result c.first_position.ensures c.if-offset-first_position.true

pub slice_bounds-decode_cfg-end : goal.slice_bounds-decode_cfg-end
slice_bounds-decode_cfg-end g c =
    frame_long _ _ g.S.Seal.seal_of g.D.Device g.V.Codec.spelling g.V.Codec.accepted g.V.Codec.refusal (config_of c.args.self.now) c.args.section c.args.offset c.args.header c.args.size (walk_of c.args.self.now) c.args.dev.now c.reach.new.dev c.requires.frame (walk_of c.reach.new.self) _ c.in_ok-reach.ensures.reached c.if-not-branch.false
    c.at_hand.result.now c.at_hand.ensures

pub returns-in_err-item-clause-ends : goal.returns-in_err-item-clause-ends
returns-in_err-item-clause-ends g c =
    rw (err_of c.from_residual-in_err-item.result (raised_codec c.in_err-item.field-0.0) c.from_residual-in_err-item.ensures.1)
    (frame_refused _ _ g.S.Seal.seal_of g.D.Device g.V.Codec.spelling g.V.Codec.accepted g.V.Codec.refusal (config_of c.args.self.now) c.args.section c.args.offset c.args.header c.args.size (walk_of c.args.self.now) c.args.dev.now c.reach.new.dev c.requires.frame (walk_of c.reach.new.self) _ c.in_ok-reach.ensures.reached c.if-not-branch.false
    c.in_err-item.field-0.0 _ c.first_position.result c.first_position.ensures c.if-offset-first_position.false
    (frame_there _ _ g.S.Seal.seal_of g.D.Device g.V.Codec.spelling g.V.Codec.accepted g.V.Codec.refusal (config_of c.args.self.now) c.args.section c.args.offset c.args.header c.args.size (walk_of c.args.self.now) c.args.dev.now c.reach.new.dev c.requires.frame (walk_of c.reach.new.self) _ c.in_ok-reach.ensures.reached c.if-not-branch.false
    c.at_hand.result.now c.at_hand.ensures) (rw c.in_ok-reach.ensures.config at c.in_err-item.ensures.refused))

pub pass-requires-2-clause-walk : goal.pass-requires-2-clause-walk
pass-requires-2-clause-walk g c =
    frame_walk _ _ g.S.Seal.seal_of g.D.Device g.V.Codec.spelling g.V.Codec.accepted g.V.Codec.refusal (config_of c.args.self.now) c.args.section c.args.offset c.args.header c.args.size (walk_of c.args.self.now) c.args.dev.now c.reach.new.dev c.requires.frame (walk_of c.reach.new.self) _ c.in_ok-reach.ensures.reached

pub pass-requires-2-clause-at_hand : goal.pass-requires-2-clause-at_hand
pass-requires-2-clause-at_hand g c =
    frame_hand _ _ g.S.Seal.seal_of g.D.Device g.V.Codec.spelling g.V.Codec.accepted g.V.Codec.refusal (config_of c.args.self.now) c.args.section c.args.offset c.args.header c.args.size (walk_of c.args.self.now) c.args.dev.now c.reach.new.dev c.requires.frame (walk_of c.reach.new.self) _ c.in_ok-reach.ensures.reached c.if-not-branch.false

pub returns-clause-ends : goal.returns-clause-ends
returns-clause-ends g c =
    frame_gave _ _ g.S.Seal.seal_of g.D.Device g.V.Codec.spelling g.V.Codec.accepted g.V.Codec.refusal (config_of c.args.self.now) c.args.section c.args.offset c.args.header c.args.size (walk_of c.args.self.now) c.args.dev.now c.reach.new.dev c.requires.frame (walk_of c.reach.new.self) _ c.in_ok-reach.ensures.reached c.if-not-branch.false
    (bytes.walk_of c.pass-2.new.self) c.pass-2.ensures c.first_position.result c.first_position.ensures c.if-offset-first_position.false c.in_ok-item.item _
    (frame_there _ _ g.S.Seal.seal_of g.D.Device g.V.Codec.spelling g.V.Codec.accepted g.V.Codec.refusal (config_of c.args.self.now) c.args.section c.args.offset c.args.header c.args.size (walk_of c.args.self.now) c.args.dev.now c.reach.new.dev c.requires.frame (walk_of c.reach.new.self) _ c.in_ok-reach.ensures.reached c.if-not-branch.false
    c.at_hand.result.now c.at_hand.ensures) c.in_ok-item.ensures.spelled (rw c.in_ok-reach.ensures.config at c.in_ok-item.ensures.allowed)
