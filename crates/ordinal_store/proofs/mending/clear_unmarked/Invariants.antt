use Rattle.std.proofs.Common.{length}
use Rattle.std.specs.Prelude.{Ok}
use Rattle.sealed_pages.specs.unsealed.Writing.{shown}
use Rattle.ordinal_store.specs.Mending.{Clearing}
use Rattle.ordinal_store.specs.Stores.{sight}
use Rattle.ordinal_store.proofs.mending.clear_unmarked.Given as goal

abbrev pub invariant-loop-position : goal.invariant-loop-position
invariant-loop-position g l = Clearing g.D.Device.Tells (length l.zeros) l.bits 0 l.position (shown l.initial.buffer) (Ok l.buffer) (sight g.D.Device l.initial.dev) (sight g.D.Device l.dev)
