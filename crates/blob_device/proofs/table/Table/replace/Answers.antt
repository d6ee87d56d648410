use Rattle.std.proofs.Common.{◌≡◌, ◌∙◌, Some, None, rules, sym, ap}
use Rattle.std.specs.Option.{option_map, option_and_then}
use Rattle.blob_device.specs.Tables.{at_name, at_key}
use Rattle.blob_device.proofs.Maps.{table_put, here_was}
use Rattle.blob_device.specs.lemmas.Puts.{put_there}
use Rattle.blob_device.proofs.table.Table.replace.Goals as goal

pub returns-in-Some : goal.returns-in-Some
returns-in-Some g c =
    let table = c.args.self.now.partitions in
    let more = c.get_mut.follows.lender c.replace_name.new.names in
    let updates = (c.get_mut.follows.holds c.replace_name.new.names).3 (search rules) in
    let was : at_name table c.args.partition.now ≡ Some c.in-Some.names.now = sym c.in-Some.ensures.value in
    let here = here_was (λ o. o) c.args.partition.now c.args.name.now table more c.in-Some.names.now c.replace_name.new.names updates was in
    table_put (λ o. o) c.args.partition.now c.args.name.now table more c.in-Some.names.now c.replace_name.new.names updates was
    (option_map (λ _. c.args.value) (at_key table (c.args.partition.now, c.args.name.now)))
    (c.replace_name.ensures.here ∙ ap (option_map (λ _. c.args.value)) (sym here))
    c.replace_name.ensures.others

pub returns-in_default : goal.returns-in_default
returns-in_default g c =
    let table = c.args.self.now.partitions in
    let none : at_key table (c.args.partition.now, c.args.name.now) ≡ None = ap (option_and_then (λ names. at_name names c.args.name.now)) (sym c.in_default.ensures.value) in
    ap at_key c.get_mut.follows.holds-at-none
    ∙ sym (put_there (at_key table) (c.args.partition.now, c.args.name.now) (option_map (λ _. c.args.value) (at_key table (c.args.partition.now, c.args.name.now))) (none ∙ sym (ap (option_map (λ _. c.args.value)) none)))
