-- One byte more at a time, up to five.
use Rattle.std.specs.Prelude.{◌≡◌, ◌≤◌, length, Some}
use Rattle.std.proofs.Common.{refl, arith}
use Rattle.segments.specs.FixedReplay.{Place}
use Rattle.segments.specs.FixedWalking as bytes
use Rattle.variable_journal.specs.Walking.{walk_of}
use Rattle.variable_journal.proofs.LookingLemmas.{of_some, look_stands, looked_all, looked_err, looked_more, looks_ok, looks_start, some_and}
use Rattle.variable_journal.proofs.journal.replaying.Replay.look_last.Goals as goal
use Rattle.blob_device.proofs.general.Results.{err_of}

pub bytes-init : goal.bytes-init
bytes-init g c = record {
  few = omega arith;
  config = refl;
  looks = λ r at. looks_start _ _ g.S.Seal.seal_of g.D.Device (walk_of c.args.self.now) r at tt c.args.dev.now c.requires.over;
  still = λ r at. some_and (walk_of c.args.self.now).place (λ (q : Place). q.position ≡ r.position) r at refl;
  hand = λ r at. some_and (walk_of c.args.self.now).place (λ (q : Place). 0 ≤ length q.reader.bytes) r at (omega arith);
}

pub fill-requires-clause-over : goal.fill-requires-clause-over
fill-requires-clause-over g c = of_some (walk_of c.args.self.now).place c.requires.stands (λ r at. (c.bytes.invariant.looks r at).over)

pub fill-requires-clause-stands : goal.fill-requires-clause-stands
fill-requires-clause-stands g c =
    of_some (walk_of c.args.self.now).place c.requires.stands (λ r at. look_stands _ _ g.S.Seal.seal_of g.D.Device (walk_of c.args.self.now) r at (walk_of c.bytes.self) (walk_of c.bytes.self) c.args.dev.now c.bytes.dev c.bytes.dev (c.bytes.invariant.looks r at) (c.bytes.invariant.still r at) c.requires.free c.bytes.count)

pub returns-in_err-fill-clause-looked : goal.returns-in_err-fill-clause-looked
returns-in_err-fill-clause-looked g c r at = rw (err_of c.from_residual.result c.in_err-fill.field-0.0 c.from_residual.ensures.1)
    (looked_err _ _ g.S.Seal.seal_of g.D.Device (walk_of c.args.self.now) r at (walk_of c.bytes.self) (bytes.walk_of c.fill.new.self) c.args.dev.now c.bytes.dev c.fill.new.dev (c.bytes.invariant.looks r at) (c.bytes.invariant.still r at) c.requires.free c.bytes.count
    c.in_err-fill.field-0.0 c.in_err-fill.ensures)

pub returns-then-not-branch-clause-looked : goal.returns-then-not-branch-clause-looked
returns-then-not-branch-clause-looked g c r at =
    looked_all _ _ g.S.Seal.seal_of g.D.Device (walk_of c.args.self.now) r at (walk_of c.bytes.self) (bytes.walk_of c.fill.new.self) c.args.dev.now c.bytes.dev c.fill.new.dev (c.bytes.invariant.looks r at) (c.bytes.invariant.still r at) c.requires.free c.bytes.count
    c.bytes.invariant.few (c.bytes.invariant.hand r at) (rw c.if-not-branch.true at c.in_ok-fill.ensures)

pub bytes-preserved : goal.bytes-preserved
bytes-preserved g c =
    let more = λ (r : Place) (at : (walk_of c.args.self.now).place ≡ Some r).
    looked_more _ _ g.S.Seal.seal_of g.D.Device (walk_of c.args.self.now) r at (walk_of c.bytes.self) (bytes.walk_of c.fill.new.self) c.args.dev.now c.bytes.dev c.fill.new.dev (c.bytes.invariant.looks r at) (c.bytes.invariant.still r at) c.requires.free c.bytes.count
    (rw c.if-not-branch.false at c.in_ok-fill.ensures) in
    record {
      few = omega (arith, c.bytes-test.true);
      config = c.bytes.invariant.config;
      looks = λ r at. (more r at).0;
      still = λ r at. (more r at).1;
      hand = λ r at. (more r at).2;
    }

pub returns-clause-looked : goal.returns-clause-looked
returns-clause-looked g c r at = record {
  looks = looks_ok _ _ g.S.Seal.seal_of g.D.Device r (walk_of c.args.self.now) (walk_of c.bytes.self) c.args.dev.now c.bytes.dev tt c.bytes.count (c.bytes.invariant.looks r at);
  still = c.bytes.invariant.still r at;
  hand = (c.bytes.invariant.few, c.bytes.invariant.hand r at);
  all = λ t less. absurd (omega (arith, less, c.bytes-test.false));
}
