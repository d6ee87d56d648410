-- What is left is passed over, as much at a time as is at hand.
use Rattle.std.proofs.Common.{refl}
use Rattle.segments.specs.FixedWalking as bytes
use Rattle.variable_journal.specs.Walking.{walk_of}
use Rattle.variable_journal.proofs.LookingLemmas.{of_some, skip_nearer, skip_round, skip_stands, skip_walk, skipped_all, skipped_err}
use Rattle.variable_journal.proofs.journal.replaying.Replay.skip.Goals as goal
use Rattle.blob_device.proofs.general.Results.{err_of}

pub fill-requires-clause-over : goal.fill-requires-clause-over
fill-requires-clause-over g c = of_some (walk_of c.args.self.now).place c.requires.stands (λ r at. (c.rest.invariant.looks r at).over)

pub fill-requires-clause-stands : goal.fill-requires-clause-stands
fill-requires-clause-stands g c =
    of_some (walk_of c.args.self.now).place c.requires.stands (λ r at. skip_stands _ _ g.S.Seal.seal_of g.D.Device (walk_of c.args.self.now) r at (walk_of c.rest.self) (walk_of c.rest.self) c.args.dev.now c.rest.dev c.rest.dev (c.rest.invariant.looks r at) c.requires.free)

pub returns-in_err-fill-clause-skipped : goal.returns-in_err-fill-clause-skipped
returns-in_err-fill-clause-skipped g c r at = rw (err_of c.from_residual.result c.in_err-fill.field-0.0 c.from_residual.ensures.1)
    (skipped_err _ _ g.S.Seal.seal_of g.D.Device (walk_of c.args.self.now) r at (walk_of c.rest.self) (bytes.walk_of c.fill.new.self) c.args.dev.now c.rest.dev c.fill.new.dev (c.rest.invariant.looks r at) c.requires.free c.in_err-fill.field-0.0 c.in_err-fill.ensures)

pub pass-requires-clause-walk : goal.pass-requires-clause-walk
pass-requires-clause-walk g c =
    of_some (walk_of c.args.self.now).place c.requires.stands (λ r at. skip_walk _ _ g.S.Seal.seal_of g.D.Device (walk_of c.args.self.now) r at (walk_of c.rest.self) (bytes.walk_of c.fill.new.self) c.args.dev.now c.rest.dev c.fill.new.dev (c.rest.invariant.looks r at) c.requires.free (rw c.if-branch.true at c.in_ok-fill.ensures))

pub rest-smaller : goal.rest-smaller
rest-smaller g c =
    of_some (walk_of c.args.self.now).place c.requires.stands (λ r at. skip_nearer _ _ g.S.Seal.seal_of g.D.Device (walk_of c.args.self.now) r at (walk_of c.rest.self) (bytes.walk_of c.fill.new.self) (bytes.walk_of c.pass.new.self) c.args.dev.now c.rest.dev c.fill.new.dev (c.rest.invariant.looks r at) c.requires.free (rw c.if-branch.true at c.in_ok-fill.ensures)
    _ c.at_hand-count.result.now c.at_hand-count.ensures refl c.pass.ensures)

pub rest-preserved : goal.rest-preserved
rest-preserved g c = record {
  config = c.rest.invariant.config;
  looks = λ r at. skip_round _ _ g.S.Seal.seal_of g.D.Device (walk_of c.args.self.now) r at (walk_of c.rest.self) (bytes.walk_of c.fill.new.self) (bytes.walk_of c.pass.new.self) c.args.dev.now c.rest.dev c.fill.new.dev (c.rest.invariant.looks r at) c.requires.free (rw c.if-branch.true at c.in_ok-fill.ensures)
      _ c.at_hand-count.result.now c.at_hand-count.ensures refl c.pass.ensures;
}

pub returns-clause-skipped : goal.returns-clause-skipped
returns-clause-skipped g c r at =
    skipped_all _ _ g.S.Seal.seal_of g.D.Device (walk_of c.args.self.now) r at (walk_of c.rest.self) (bytes.walk_of c.fill.new.self) c.args.dev.now c.rest.dev c.fill.new.dev (c.rest.invariant.looks r at) c.requires.free (rw c.if-branch.false at c.in_ok-fill.ensures)
