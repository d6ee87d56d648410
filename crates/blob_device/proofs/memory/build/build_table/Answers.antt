use Rattle.std.proofs.Common.{◌≡◌, ◌∙◌, ◌∷◌, ap, subst, map, None, sym, rules}
use Rattle.std.specs.Map.Iter.{deref_pair}
use Rattle.std.proofs.lemmas.Map.Iter.{rest_more, iter_end}
use Rattle.std.specs.Option.{option_map}
use Rattle.std.specs.Map.{keys_of}
use Rattle.std.specs.List.{AllByRecursion}
use Rattle.std.specs.List.Sorted.{IsStrictlySortedBy}
use Rattle.blob_device.specs.Tables.{at_key, by_bytes}
use Rattle.blob_device.specs.Building.{table_built}
use Rattle.blob_device.proofs.Building.{table_more, table_found, all_shown}
use Rattle.blob_device.proofs.memory.build.build_table.Goals as goal
use Rattle.blob_device.proofs.general.Lists.{all_push}

pub loop-partition-preserved : goal.loop-partition-preserved
loop-partition-preserved g c =
    let is : c.loop-partition.partition-iterator ≡ (c.in-Some.partition.now, c.in-Some.names.now) ∷ c.next.new.self = rest_more deref_pair _ _ c.next.result (c.in-Some.partition, c.in-Some.names) c.in-Some.is c.next.ensures.steps in
    record {
      made = table_more g.M.Make.makes g.M.Make.next g.M.Make.sees c.loop-partition.maker c.build_names.new.maker c.loop-partition.built c.place.new.names c.in-Some.partition.now c.as_slice.result.now c.in-Some.names.now c.loop-partition.partition-iterator c.next.new.self c.in_ok-made.made
          is c.as_slice.ensures.value c.in_ok-made.ensures.made c.in_ok-made.ensures.next c.in_ok-place.ensures
          (table_built g.M.Make.makes g.M.Make.next c.args.maker.now c.args.table.now.partitions.entries (λ _. None)) c.loop-partition.invariant.made;
      sorted = all_push _ c.loop-partition.yielded (c.in-Some.partition, c.in-Some.names) c.loop-partition.invariant.sorted c.in_ok-made.ensures.sorted;
    }

pub returns-clause-sorted : goal.returns-clause-sorted
returns-clause-sorted g c =
    let whole : map deref_pair c.loop-partition.yielded ≡ c.args.table.now.partitions.entries = search (rules, iter_end) in
    (c.iter-partition-items.ensures.ordered, subst (AllByRecursion (λ p. IsStrictlySortedBy by_bytes (keys_of p.1.entries))) whole (all_shown (λ p. IsStrictlySortedBy by_bytes (keys_of p.1.entries)) c.loop-partition.yielded c.loop-partition.invariant.sorted))

pub returns-clause-made : goal.returns-clause-made
returns-clause-made g c k =
    sym (ap (λ l. table_built g.M.Make.makes g.M.Make.next c.loop-partition.maker l (λ p. option_map g.M.Make.sees (at_key c.loop-partition.built p)) k) c.in-None.ensures.steps.0)
    ∙ c.loop-partition.invariant.made k
    ∙ table_found g.M.Make.makes g.M.Make.next c.args.maker.now c.args.table.now.partitions (returns-clause-sorted g c) k
