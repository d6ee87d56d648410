use Rattle.std.proofs.Common.{◌≡◌, map, take}
use Rattle.std.specs.Int.{w64, to_be_bytes}
use Rattle.section_manager.proofs.manager.opening.section_numbers.Given as goal

abbrev pub invariant-loop-i : goal.invariant-loop-i
invariant-loop-i l = map (to_be_bytes w64) l.numbers.items ≡ take l.i l.names
