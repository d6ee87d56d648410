use Rattle.std.proofs.Common.{◌≡◌, ◌*◌, ◌∷◌, [], ◌++◌, map}
use Rattle.std.specs.List.{flat_map, range_with_len}
use Rattle.archives.specs.Commands.{Get}
use Rattle.archives.specs.Machine.{asked}
use Rattle.value_codec.specs.Keys.{key8_bytes}
use Rattle.archive_service.proofs.made.add_gets.Given as goal

-- those of the numbers so far were added
abbrev pub invariant-loop-i : goal.invariant-loop-i
invariant-loop-i l = map (asked key8_bytes (λ v. v)) l.commands.items ≡ map (asked key8_bytes (λ v. v)) l.initial.commands.items ++ flat_map (λ i. Get (2 * i) ∷ []) (range_with_len 0 l.i)
