use Rattle.std.proofs.Common.{refl, [], rules}
use Rattle.variable_journal.proofs.ReadingLemmas.{few_measured, length_after, length_failed, length_read, looked_on, looked_start}
use Rattle.variable_journal.proofs.journal.Journal.read_length.Goals as goal

-- the first bytes were read
pub returns-in-Ok-clause-reads : goal.returns-in-Ok-clause-reads
returns-in-Ok-clause-reads g c =
    length_read g.S.Seal.seal_of g.D.Device c.args.buffer.now c.args.offset c.args.dev.now c.read_at.new.dev c.requires.inside _ c.read_at.new.buf _ c.length_of.result
    c.in-Ok.ensures (search rules) c.read_at.auto.buf c.length_of.ensures

pub returns-in-Ok-clause-few : goal.returns-in-Ok-clause-few
returns-in-Ok-clause-few g c = few_measured c.read_at.new.buf c.length_of.result (search rules) (c.length_of.ensures [] (λ less. refl))

-- one of them lies in a damaged page
pub returns-in-InvalidChecksum-clause-reads : goal.returns-in-InvalidChecksum-clause-reads
returns-in-InvalidChecksum-clause-reads g c =
    length_after g.S.Seal.seal_of g.D.Device c.args.buffer.now c.args.offset c.args.dev.now c.read_at.new.dev c.length_by_bytes.new.dev
    (looked_on g.S.Seal.seal_of g.D.Device c.args.buffer.now c.args.offset c.args.dev.now c.args.dev.now (looked_start g.S.Seal.seal_of g.D.Device c.args.buffer.now c.args.offset c.args.dev.now) c.read_at.new.dev c.in-Err.ensures)
    c.length_by_bytes.result c.length_by_bytes.ensures.reads

-- they were not read
pub returns-in_default : goal.returns-in_default
returns-in_default g c = record {
  reads = rw c.from.ensures
      (length_failed g.S.Seal.seal_of g.D.Device c.args.buffer.now c.args.offset c.args.dev.now c.read_at.new.dev c.requires.inside _ c.read_at.new.buf c.in-Err.e c.in-Err.ensures (search rules) c.in_default.not-InvalidChecksum);
  few = tt;
}
