use Rattle.ordinal_store.specs.Plain.{listed}
use Rattle.ordinal_store.proofs.ranges.PlainList.{IsMissingTo}
use Rattle.ordinal_store.proofs.plain.PlainSet.missing.Given as goal

abbrev pub invariant-loop-number : goal.invariant-loop-number
invariant-loop-number l = IsMissingTo (listed l.self.numbers.items) l.start l.max l.last l.number l.missing.items
