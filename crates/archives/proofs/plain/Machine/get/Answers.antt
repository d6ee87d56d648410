use Rattle.std.proofs.Common.{◌∙◌, ap}
use Rattle.std.proofs.lemmas.Result.{IfOk-weaker}
use Rattle.archives.specs.plain.Machine.{first_at}
use Rattle.archives.proofs.machine.Lemmas.{first_here}
use Rattle.archives.proofs.plain.Machine.get.Goals as goal

pub returns-clause-value : goal.returns-clause-value
returns-clause-value g c = IfOk-weaker c.copied.result _ _
    (λ value copy. copy ∙ c.value_at.ensures ∙ ap (first_at c.args.index) c.as_slice.ensures.value
    ∙ first_here g.K.Key.key_bytes c.args.self.now.items_per_section c.args.self.now.floor c.args.self.now.is_open c.args.index c.args.self.now.items.items)
    c.copied.ensures.copy
