use Rattle.std.proofs.Common.{refl}
use Rattle.variable_journal.proofs.ReadingLemmas.{length_in_memory, none_in_memory}
use Rattle.variable_journal.proofs.journal.Journal.length_at.Goals as goal

-- it is in memory
pub returns-in-Some : goal.returns-in-Some
returns-in-Some g c = record {
  reads = length_in_memory g.S.Seal.seal_of g.D.Device c.args.buffer.now c.args.offset c.args.dev.now c.requires.inside c.in-Some.found.0 c.in-Some.found.1 c.in-Some.ensures;
  few = c.in-Some.ensures.few;
  idle = λ t backed item rest begins held. refl;
}

-- it is not
pub returns-in-None-clause-idle : goal.returns-in-None-clause-idle
returns-in-None-clause-idle g c = none_in_memory g.S.Seal.seal_of g.D.Device c.args.buffer.now c.args.offset c.args.dev.now c.read_length.new.dev c.in-None.ensures
