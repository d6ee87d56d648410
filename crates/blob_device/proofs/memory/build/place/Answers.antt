use Rattle.std.proofs.Common.{◌≡◌, rules, ap, sym, ◌∙◌}
use Rattle.blob_device.specs.Building.{placed}
use Rattle.blob_device.specs.Tables.{at_name}
use Rattle.blob_device.proofs.Building.{placed_is}
use Rattle.blob_device.proofs.memory.build.place.Goals as goal

pub returns-in_ok-insert : goal.returns-in_ok-insert
returns-in_ok-insert g c q =
    let key : c.in_ok-key.key.items ≡ c.args.name.now = search rules in
    placed_is c.in_ok-key.key.items c.args.name.now c.args.names.now c.insert.new.self c.in-Some.value key c.in_ok-insert.ensures.updates q
    ∙ ap (λ o. placed (at_name c.args.names.now) c.args.name.now o q) (sym c.in-Some.is)
