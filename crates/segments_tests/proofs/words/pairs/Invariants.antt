use Rattle.std.proofs.Common.{ℕ, ◌≤◌, IsSome}
use Rattle.std.specs.BTreeMap.{get}
use Rattle.std.specs.Ordering.{nat_cmp}
use Rattle.segments_tests.proofs.words.pairs.Given as goal

abbrev pub invariant-loop-word : goal.invariant-loop-word
invariant-loop-word l = (s : ℕ) → IsSome (get nat_cmp l.pairs s) → s ≤ l.ceiling
