use Rattle.std.proofs.Common.{◌∙◌, ◌==◌, ◌&&◌, ap}
use Rattle.std.specs.List.{list_any}
use Rattle.archives.proofs.machine.Entries.{has_at_key}
use Rattle.archives.proofs.plain.Machine.has_at.Goals as goal

pub returns : goal.returns
returns g c =
    let m = c.args.self.now in
    has_at_key g.K.Key.key_bytes m.items_per_section m.floor m.is_open c.args.index g.K.PartialEq.eq g.met.K.Key.eq_by_bytes c.args.key.now m.items.items c.any_under.result
    (c.any_under.ensures ∙ ap (list_any (λ r. (r.index == c.args.index) && g.K.PartialEq.eq r.key c.args.key.now)) c.as_slice.ensures.value)
