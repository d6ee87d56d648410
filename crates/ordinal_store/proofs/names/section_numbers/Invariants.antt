use Rattle.std.proofs.Common.{◌≡◌, ◌^◌, ◌<◌, ℕ, get_or, map, take}
use Rattle.std.specs.Int.{w64, to_be_bytes}
use Rattle.ordinal_store.proofs.names.section_numbers.Given as goal

abbrev pub invariant-loop-i : goal.invariant-loop-i
invariant-loop-i l = record {
  spelled : map (to_be_bytes w64) l.numbers.items ≡ take l.i l.names;
  small : (k : ℕ) → get_or l.numbers.items k 0 < 2 ^ 64;
}
