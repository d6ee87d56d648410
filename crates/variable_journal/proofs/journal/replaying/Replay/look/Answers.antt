-- Five bytes are asked for at once, and then one byte more at a time.
use Rattle.segments.specs.FixedWalking as bytes
use Rattle.variable_journal.specs.Walking.{walk_of}
use Rattle.variable_journal.proofs.LookingLemmas.{five_err, five_hand, looked_on, may_on, of_some}
use Rattle.variable_journal.proofs.journal.replaying.Replay.look.Goals as goal
use Rattle.blob_device.proofs.general.Results.{err_of}

pub returns-in_err-fill-clause-looked : goal.returns-in_err-fill-clause-looked
returns-in_err-fill-clause-looked g c r at = rw (err_of c.from_residual.result c.in_err-fill.field-0.0 c.from_residual.ensures.1)
    (five_err _ _ g.S.Seal.seal_of g.D.Device (walk_of c.args.self.now) r at (bytes.walk_of c.fill.new.self) c.args.dev.now c.fill.new.dev c.requires.over c.requires.free c.in_err-fill.field-0.0 c.in_err-fill.ensures)

pub returns-then-branch-clause-looked : goal.returns-then-branch-clause-looked
returns-then-branch-clause-looked g c r at =
    five_hand _ _ g.S.Seal.seal_of g.D.Device (walk_of c.args.self.now) r at (bytes.walk_of c.fill.new.self) c.args.dev.now c.fill.new.dev c.requires.over c.requires.free (rw c.if-branch.true at c.in_ok-fill.ensures)

pub look_last-requires : goal.look_last-requires
look_last-requires g c = of_some (walk_of c.args.self.now).place c.requires.stands (λ r at.
    may_on _ _ g.S.Seal.seal_of g.D.Device (walk_of c.args.self.now) r at (bytes.walk_of c.fill.new.self) c.args.dev.now c.fill.new.dev c.requires.over c.requires.free (rw c.if-branch.false at c.in_ok-fill.ensures))

pub returns-clause-looked : goal.returns-clause-looked
returns-clause-looked g c r at =
    looked_on _ _ g.S.Seal.seal_of g.D.Device (walk_of c.args.self.now) r at (bytes.walk_of c.fill.new.self) c.args.dev.now c.fill.new.dev c.requires.over c.requires.free (rw c.if-branch.false at c.in_ok-fill.ensures) (walk_of c.look_last.new.self) c.look_last.new.dev c.look_last.result c.look_last.ensures.looked
