use Rattle.std.proofs.Common.{arith}
use Rattle.variable_journal.specs.Reading.{SaysNoLength}
use Rattle.variable_journal.proofs.ReadingLemmas.{ended_behind, header_is, header_long}
use Rattle.variable_journal.proofs.journal.Journal.header_at.Goals as goal

-- nothing is left
pub returns-then-left-eq0-clause-reads : goal.returns-then-left-eq0-clause-reads
returns-then-left-eq0-clause-reads g c =
    ended_behind g.S.Seal.seal_of g.D.Device c.args.buffer.now c.args.offset c.args.dev.now SaysNoLength (omega (arith, c.if-left-eq0.true, c.size.ensures, c.saturating_sub-left.ensures))

-- the frame runs past the end
pub returns-then-header-from-clause-reads : goal.returns-then-header-from-clause-reads
returns-then-header-from-clause-reads g c =
    header_long g.S.Seal.seal_of g.D.Device c.args.buffer.now c.args.offset c.args.dev.now c.length_at.new.dev c.in-Some.size c.in-Some.header (rw c.in-Some.is at c.in_ok-size.ensures.reads)
    (omega (arith, c.if-header-from.true, c.from.ensures, c.saturating_sub-left.ensures, c.size.ensures))

pub returns-clause-reads : goal.returns-clause-reads
returns-clause-reads g c =
    header_is g.S.Seal.seal_of g.D.Device c.args.buffer.now c.args.offset c.args.dev.now c.length_at.new.dev c.in-Some.size c.in-Some.header (rw c.in-Some.is at c.in_ok-size.ensures.reads)
    (omega (arith, c.if-header-from.false, c.from.ensures, c.saturating_sub-left.ensures, c.size.ensures))
