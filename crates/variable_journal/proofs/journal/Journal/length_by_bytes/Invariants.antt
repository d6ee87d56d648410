use Rattle.std.specs.Prelude.{◌-◌}
use Rattle.variable_journal.proofs.ReadingLemmas.{AreRead}
use Rattle.variable_journal.proofs.journal.Journal.length_by_bytes.Given as goal

-- so many bytes end no length
abbrev pub invariant-bytes : goal.invariant-bytes
invariant-bytes g l = AreRead g.S.Seal.seal_of g.D.Device l.buffer l.offset l.fn.dev l.most l.seen l.dev

abbrev pub decreases-bytes : goal.decreases-bytes
decreases-bytes g l = l.most - l.seen
