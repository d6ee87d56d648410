use Rattle.std.proofs.Common.{take}
use Rattle.record_tables.specs.Tables.{has_word}
use Rattle.record_tables.specs.Words.{RemovesSlot}
use Rattle.record_tables.proofs.tables.forget.Given as goal

-- the handles of the entries so far were taken away
abbrev pub invariant-loop-entry : goal.invariant-loop-entry
invariant-loop-entry g l = RemovesSlot g.W.PartialEq.eq (has_word g.W.PartialEq.eq (take l.entry-index l.entries)) l.slot l.initial.words l.words
