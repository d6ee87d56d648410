use Rattle.std.proofs.Common.{◌≡◌, Some, List, ℕ, Vec, rules, subst, sym, ◌∙◌}
use Rattle.std.specs.BTreeMap.{UpdatesBy}
use Rattle.std.specs.Ordering.{nat_cmp}
use Rattle.std.specs.Cmp.Lexicographic.{slice_cmp}
use Rattle.std.specs.declared.alloc.Global.{Global}
use Rattle.blob_device.specs.Tracks.{track_at}
use Rattle.blob_device.specs.Tables.{by_bytes}
use Rattle.blob_device.proofs.Maps.{map_same, none_of}
use Rattle.blob_device.proofs.memory.logs.make_name.Goals as goal

pub returns-clause-same : goal.returns-clause-same
returns-clause-same c =
    let key : c.in_ok-key.key.items ≡ c.args.name.now = search rules in
    map_same track_at c.args.name.now c.args.names.now c.insert.new.self c.new.result
    (subst (λ (l : List ℕ). UpdatesBy by_bytes (λ (k : Vec ℕ Global). slice_cmp nat_cmp l k.items) c.args.names.now c.insert.new.self (Some c.new.result)) key c.in_ok-insert.ensures.updates)
    (none_of _ (sym c.contains_key.ensures ∙ c.if-contains_key.false))
    c.new.ensures
