use Rattle.std.proofs.Common.{◌≡◌, Some, List, ℕ, rules, subst}
use Rattle.blob_device.proofs.Maps.{map_other}
use Rattle.blob_device.proofs.table.insert_name.Goals as goal

pub returns-clause-others : goal.returns-clause-others
returns-clause-others g c q other =
    let key : c.in_ok-key.key.items ≡ c.args.name.now = search rules in
    map_other c.in_ok-key.key.items c.args.names.now c.insert.new.self (Some c.args.value) c.in_ok-insert.ensures.updates q (λ e. other (subst (λ (l : List ℕ). q ≡ l) key e))
