use Rattle.std.proofs.Common.{◌≡◌, Some, List, ℕ, Vec, rules, subst, sym, ◌∙◌}
use Rattle.std.specs.BTreeMap.{UpdatesBy}
use Rattle.std.specs.Ordering.{nat_cmp}
use Rattle.std.specs.Cmp.Lexicographic.{slice_cmp}
use Rattle.std.specs.declared.alloc.Global.{Global}
use Rattle.blob_device.specs.Tables.{by_bytes}
use Rattle.blob_device.proofs.Maps.{made_partition, none_of, empty_map}
use Rattle.blob_device.proofs.table.make_partition.Goals as goal

pub returns-clause-same : goal.returns-clause-same
returns-clause-same g c =
    let key : c.in_ok-key.key.items ≡ c.args.partition.now = search rules in
    made_partition c.args.partition.now c.args.partitions.now c.insert.new.self c.new.result
    (subst (λ (l : List ℕ). UpdatesBy by_bytes (λ (k : Vec ℕ Global). slice_cmp nat_cmp l k.items) c.args.partitions.now c.insert.new.self (Some c.new.result)) key c.in_ok-insert.ensures.updates)
    (none_of _ (sym c.contains_key.ensures ∙ c.if-contains_key.false))
    (empty_map c.new.result c.new.ensures.empty)
