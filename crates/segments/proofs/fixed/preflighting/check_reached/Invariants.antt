use Rattle.std.proofs.Common.{ℕ, ◌≤◌}
use Rattle.std.specs.List.{Contains}
use Rattle.section_manager.specs.managing.Managed.{shown}
use Rattle.segments.specs.FixedLists.{floor_in, section_size}
use Rattle.segments.proofs.fixed.preflighting.check_reached.Given as goal
use Rattle.blob_device.proofs.general.Maps.{numbers_of}

abbrev pub invariant-loop-section : goal.invariant-loop-section
invariant-loop-section g l = (s : ℕ) → Contains (numbers_of l.yielded) s → floor_in l.floors s ≤ section_size (shown l.manager) s
