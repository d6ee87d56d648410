use Rattle.std.proofs.Common.{◌*◌}
use Rattle.ordinal_store.specs.Ranges.{AreRanges, set_of}
use Rattle.ordinal_store.proofs.HoldLemmas.{HeldBelow}
use Rattle.ordinal_store.proofs.store.init.hold_wanted.Given as goal

abbrev pub invariant-loop-position : goal.invariant-loop-position
invariant-loop-position l = record {
  ranges : AreRanges l.initial.held → AreRanges l.held;
  held : HeldBelow l.items l.marks (l.section * l.items) (set_of l.initial.held) l.position (set_of l.held);
}
