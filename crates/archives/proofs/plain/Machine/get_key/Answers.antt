use Rattle.std.proofs.Common.{◌∙◌, ap}
use Rattle.std.proofs.lemmas.Result.{IfOk-weaker}
use Rattle.archives.specs.plain.Machine.{first_under}
use Rattle.archives.proofs.plain.Machine.get_key.Goals as goal

pub returns-clause-value : goal.returns-clause-value
returns-clause-value g c = IfOk-weaker c.copied.result _ _
    (λ value copy. copy ∙ c.value_under.ensures ∙ ap (first_under (λ k. g.K.PartialEq.eq k c.args.key.now)) c.as_slice.ensures.value)
    c.copied.ensures.copy
