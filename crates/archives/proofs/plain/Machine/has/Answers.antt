use Rattle.std.proofs.Common.{◌∙◌, ap, ◌==◌}
use Rattle.std.specs.List.{list_any}
use Rattle.archives.proofs.machine.Lemmas.{any_here}
use Rattle.archives.proofs.plain.Machine.has.Goals as goal

pub returns : goal.returns
returns g c =
    c.any_at.ensures ∙ ap (list_any (λ r. r.index == c.args.index)) c.as_slice.ensures.value
    ∙ any_here g.K.Key.key_bytes c.args.self.now.items_per_section c.args.self.now.floor c.args.self.now.is_open c.args.index c.args.self.now.items.items
