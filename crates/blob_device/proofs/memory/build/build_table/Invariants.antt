use Rattle.std.proofs.Common.{◌≡◌, None}
use Rattle.std.specs.Option.{option_map}
use Rattle.std.specs.Map.{keys_of}
use Rattle.std.specs.List.{AllByRecursion}
use Rattle.std.specs.List.Sorted.{IsStrictlySortedBy}
use Rattle.blob_device.specs.Disk.{Key}
use Rattle.blob_device.specs.Tables.{at_key, by_bytes}
use Rattle.blob_device.specs.Building.{table_built}
use Rattle.blob_device.proofs.memory.build.build_table.Given as goal

abbrev pub invariant-loop-partition : goal.invariant-loop-partition
invariant-loop-partition g l = record {
  made : (k : Key) → table_built g.M.Make.makes g.M.Make.next l.maker l.partition-iterator (λ p. option_map g.M.Make.sees (at_key l.built p)) k
      ≡ table_built g.M.Make.makes g.M.Make.next l.initial.maker l.table.partitions.entries (λ _. None) k;
  sorted : AllByRecursion (λ p. IsStrictlySortedBy by_bytes (keys_of p.1.now.entries)) l.yielded;
}
