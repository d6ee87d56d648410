use Rattle.std.proofs.Common.{ℕ, ◌≤◌, IsTrue}
use Rattle.ordinal_store.specs.Plain.{listed}
use Rattle.ordinal_store.proofs.plain.PlainSet.start_of.Given as goal

abbrev pub invariant-loop-below : goal.invariant-loop-below
invariant-loop-below l = (i : ℕ) → l.below ≤ i → i ≤ l.number → IsTrue (listed l.self.numbers.items i)
