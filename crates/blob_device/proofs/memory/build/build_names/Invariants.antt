use Rattle.std.proofs.Common.{◌≡◌, ℕ, List, None}
use Rattle.std.specs.Option.{option_map}
use Rattle.blob_device.specs.Tables.{at_name}
use Rattle.blob_device.specs.Building.{names_built, after_all}
use Rattle.blob_device.proofs.memory.build.build_names.Given as goal

abbrev pub invariant-loop-name : goal.invariant-loop-name
invariant-loop-name g l = record {
  made : (q : List ℕ) → names_built g.M.Make.makes g.M.Make.next l.maker l.name-iterator (λ p. option_map g.M.Make.sees (at_name l.built p)) q
      ≡ names_built g.M.Make.makes g.M.Make.next l.initial.maker l.names.entries (λ _. None) q;
  next : after_all g.M.Make.next l.maker l.name-iterator ≡ after_all g.M.Make.next l.initial.maker l.names.entries;
}
