use Rattle.std.proofs.Common.{◌≡◌, ◌≤◌, ◌<◌, ℕ, false}
use Rattle.ordinal_store.specs.Mending.{is_marked}
use Rattle.ordinal_store.proofs.checking.first_marked.Given as goal

abbrev pub invariant-loop-position : goal.invariant-loop-position
invariant-loop-position l = record {
  from : l.from ≤ l.position;
  none : (q : ℕ) → l.from ≤ q → q < l.position → is_marked l.bits q ≡ false;
}
