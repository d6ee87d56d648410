use Rattle.std.proofs.Common.{take}
use Rattle.record_tables.specs.Plain.{ArePlaces, rows_among}
use Rattle.record_tables.proofs.plain.Lists.candidates.Given as goal

abbrev pub invariant-loop-at : goal.invariant-loop-at
invariant-loop-at g l = ArePlaces g.W.PartialEq.eq l.word (λ s. rows_among s (take l.at l.self.rows.items)) l.places.items
