-- Steps are made until one gives an item or an error, or nothing is left.
use Rattle.std.specs.Prelude.{◌≡◌, Bool, true, false}
use Rattle.std.proofs.Common.{inl, inr, refl, ◌∙◌}
use Rattle.section_manager.specs.contracts.sealed.PageBlobSectionBuffer.TheImpl.{ghosts}
use Rattle.segments.specs.FixedWalking.{walk_of}
use Rattle.segments.proofs.replay.NextEnds.{advances_none, advances_item, advances_err}
use Rattle.segments.proofs.replay.Running.{running_start, running_on}
use Rattle.segments.specs.lemmas.adding.Write.{are_pages}
use Rattle.segments.proofs.fixed.replaying.Replay.next.Goals as goal

not_true : (x : Bool) → (x ≡ true → ⊥) → x ≡ false
not_true true never = absurd (never refl)
not_true false never = refl

pub steps-init : goal.steps-init
steps-init g c = (running_start g.S.Seal.seal_of g.A.CodecFixed.SIZE _ _ g.D.Device.Tells (walk_of c.args.self.now) (g.D.Device.opened c.args.dev.now) (g.D.Device.time c.args.dev.now) (g.D.Device.faults c.args.dev.now) c.requires, λ is. (refl, refl))

pub step-requires-clause-over : goal.step-requires-clause-over
step-requires-clause-over g c = c.steps.invariant.0.over

pub step-requires-clause-going : goal.step-requires-clause-going
step-requires-clause-going g c = not_true c.steps.self.has_ended (λ ended. (let on = c.is_over.ensures.1 (inr ended) in cc on))

pub step-requires-clause-more : goal.step-requires-clause-more
step-requires-clause-more g c drained = (let on = c.is_over.ensures.1 (inl drained) in cc on)

pub steps-smaller : goal.steps-smaller
steps-smaller g c = c.step.ensures.nearer

pub steps-preserved : goal.steps-preserved
steps-preserved g c = (
  running_on g.S.Seal.seal_of g.A.CodecFixed.SIZE _ _ g.D.Device.Tells (walk_of c.args.self.now) (g.D.Device.opened c.args.dev.now) (g.D.Device.time c.args.dev.now) (g.D.Device.faults c.args.dev.now)
      (walk_of c.steps.self) (g.D.Device.opened c.steps.dev) (g.D.Device.time c.steps.dev) (g.D.Device.faults c.steps.dev) c.steps.invariant.0 g.A.Codec.spelling g.A.Codec.accepted g.A.Codec.refusal c.step.result (walk_of c.step.new.self) (g.D.Device.opened c.step.new.dev) (g.D.Device.time c.step.new.dev) (g.D.Device.faults c.step.new.dev) c.step.ensures cc,
  λ is. (let on = c.is_over.ensures.1 (inr (c.steps.invariant.0.goes.ended ∙ is)) in absurd (cc on)),
)

pub returns-in-Ok-Some : goal.returns-in-Ok-Some
returns-in-Ok-Some g c =
    advances_item (ghosts g.row.S g.S.Seal g.S.Seal-dict) _ g.S.Seal.seal_of g.A.CodecFixed.SIZE g.A.Codec.spelling g.A.Codec.accepted g.A.Codec.refusal g.D.Device (are_pages g.row.S g.S.Seal g.S.Seal-dict)
    c.args.dev.now c.steps.dev c.step.new.dev (walk_of c.args.self.now) (walk_of c.steps.self) (walk_of c.step.new.self) _ c.steps.invariant.0
    (not_true c.steps.self.has_ended (λ ended. (let on = c.is_over.ensures.1 (inr ended) in cc on))) c.step.result c.step.ensures c.in-Ok-Some.item cc

pub returns-in-Err : goal.returns-in-Err
returns-in-Err g c =
    advances_err (ghosts g.row.S g.S.Seal g.S.Seal-dict) _ g.S.Seal.seal_of g.A.CodecFixed.SIZE g.A.Codec.spelling g.A.Codec.accepted g.A.Codec.refusal g.D.Device (are_pages g.row.S g.S.Seal g.S.Seal-dict)
    c.args.dev.now c.steps.dev c.step.new.dev (walk_of c.args.self.now) (walk_of c.steps.self) (walk_of c.step.new.self) _ c.steps.invariant.0
    (not_true c.steps.self.has_ended (λ ended. (let on = c.is_over.ensures.1 (inr ended) in cc on))) c.step.result c.step.ensures c.in-Err.e cc

pub returns : goal.returns
returns g c = advances_none (ghosts g.row.S g.S.Seal g.S.Seal-dict) _ g.S.Seal.seal_of g.A.CodecFixed.SIZE g.A.Codec.spelling g.A.Codec.accepted g.A.Codec.refusal g.D.Device (are_pages g.row.S g.S.Seal g.S.Seal-dict)
    c.args.dev.now c.steps.dev c.steps.dev (walk_of c.args.self.now) (walk_of c.steps.self) (walk_of c.steps.self) _ c.steps.invariant.0 (c.is_over.ensures.0 cc) c.steps.invariant.1
