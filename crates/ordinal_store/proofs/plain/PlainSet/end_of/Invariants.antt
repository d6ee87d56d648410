use Rattle.std.proofs.Common.{ℕ, ◌≤◌, IsTrue}
use Rattle.ordinal_store.specs.Plain.{listed}
use Rattle.ordinal_store.proofs.plain.PlainSet.end_of.Given as goal

abbrev pub invariant-loop-end : goal.invariant-loop-end
invariant-loop-end l = (i : ℕ) → l.number ≤ i → i ≤ l.end → IsTrue (listed l.self.numbers.items i)
