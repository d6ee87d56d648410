-- The sections that were gone over are sealed.
use Rattle.std.proofs.Common.{inl, inr, refl}
use Rattle.segments.specs.FixedShown.{shown}
use Rattle.segments.specs.FixedWalking.{walk_of}
use Rattle.segments.proofs.replay.Given.{all_given}
use Rattle.segments.proofs.replay.Beginning.{finished_start, owed_before, finished_held, finished_settled, finished_unopened}
use Rattle.segments.proofs.fixed.replaying.Replay.finish.Goals as goal
use Rattle.segments.proofs.fixed.replaying.Replay.finish.Goals.{then-self-via-then-self, then-self-via-else-self+then-not-is_drained}
use Rattle.segments.specs.lemmas.replay.Beginning.{finished_sealed}

pub returns : goal.returns
returns g c = record {
  sections = c.recovered_from.ensures.sections;
  held = λ walk. finished_held (walk_of c.args.self) (shown c.recovered_from.result) c.recovered_from.ensures.sections c.if-self.false
      (owed_before (walk_of c.args.self) (shown c.recovered_from.result) c.recovered_from.ensures.recovered c.recovered_from.ensures.unrecovered) walk.owes_held;
  settled = λ walk. finished_settled (walk_of c.args.self) (shown c.recovered_from.result) c.recovered_from.ensures.sections
      (owed_before (walk_of c.args.self) (shown c.recovered_from.result) c.recovered_from.ensures.recovered c.recovered_from.ensures.unrecovered) walk.owes_settled;
  sealed = λ d over. finished_sealed g.S.Seal.seal_of g.A.CodecFixed.SIZE (walk_of c.args.self) (shown c.recovered_from.result) d over c.if-self.false (c.is_drained.ensures.0 c.if-not-is_drained.false) c.recovered_from.ensures.sections c.recovered_from.ensures.unrecovered c.recovered_from.ensures.floors;
  unopened = λ d over. finished_unopened (walk_of c.args.self) (shown c.recovered_from.result) c.recovered_from.ensures.sections (over.unopened c.if-self.false);
  start = λ walk. finished_start g.A.CodecFixed.SIZE (walk_of c.args.self) (shown c.recovered_from.result) walk c.if-self.false (c.is_drained.ensures.0 c.if-not-is_drained.false) c.recovered_from.ensures.sections;
  recovered = c.recovered_from.ensures.recovered;
  unrecovered = c.recovered_from.ensures.unrecovered;
  lifted = c.recovered_from.ensures.lifted;
  floors = c.recovered_from.ensures.floors;
  given = λ from calls opened d run. all_given g.S.Seal.seal_of g.A.CodecFixed.SIZE g.A.Codec.spelling g.A.Codec.accepted from calls
      (record { walk = walk_of c.args.self; opened = opened; disk = d }) run (c.is_drained.ensures.0 c.if-not-is_drained.false);
  replay_failed = (
    λ is. absurd (cc is),
    λ why. elim why [
      | inl failed ↦ absurd (cc (failed, c.if-self.false))
      | inr not ↦ absurd (not (c.is_drained.ensures.0 c.if-not-is_drained.false))
    ],
  );
  cause = tt;
}

pub returns-then-self : goal.returns-then-self
returns-then-self g c = record {
  sections = tt;
  held = λ walk. tt;
  settled = λ walk. tt;
  sealed = λ d over. tt;
  unopened = λ d over. tt;
  start = λ walk. tt;
  recovered = tt;
  unrecovered = tt;
  lifted = tt;
  floors = tt;
  given = λ from calls opened d run. tt;
  replay_failed = (
    λ is. elim c.then-self.branch [
      | then-self-via-then-self w ↦ inl w.if-self.true
      | then-self-via-else-self+then-not-is_drained w ↦ inr (λ drained. absurd (cc (w.if-not-is_drained.true, w.is_drained.ensures.1 drained)))
    ],
    λ why. refl,
  );
  cause = refl;
}
