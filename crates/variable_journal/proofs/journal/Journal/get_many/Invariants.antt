use Rattle.variable_journal.specs.Shown.{config_of, shown}
use Rattle.variable_journal.proofs.ManyLemmas.{Going}
use Rattle.variable_journal.proofs.journal.Journal.get_many.Given as goal

abbrev pub invariant-loop-offset : goal.invariant-loop-offset
invariant-loop-offset g l = Going g.S.Seal.seal_of g.V.Codec.spelling g.V.Codec.accepted g.V.Codec.refusal (config_of l.self) g.D.Device l.section l.offsets (shown l.self) l.initial.dev l.buffer l.offset-index l.items.items l.dev
