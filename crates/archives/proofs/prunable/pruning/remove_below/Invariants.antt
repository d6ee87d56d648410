use Rattle.std.proofs.Common.{◌≡◌, ℕ, ◌≤◌}
use Rattle.std.specs.Ordering.{nat_cmp}
use Rattle.std.specs.BTreeSet.{contains, btree_set_len}
use Rattle.archives.proofs.prunable.pruning.remove_below.Given as goal

abbrev pub invariant-loop-first : goal.invariant-loop-first
invariant-loop-first l = (s : ℕ) → l.bound ≤ s → contains nat_cmp l.sections s ≡ contains nat_cmp l.fn.sections s

abbrev pub decreases-loop-first : goal.decreases-loop-first
decreases-loop-first l = btree_set_len l.sections
