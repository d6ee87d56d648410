use Rattle.std.proofs.Common.{ℕ, List, nat_lt, ◌||◌, filter, ap, ◌∙◌}
use Rattle.std.proofs.lemmas.List.{take_all}
use Rattle.ordinal_store.proofs.ranges.PlainList.{TakesAway-filter}
use Rattle.ordinal_store.proofs.plain.PlainSet.remove.Goals as goal

pub returns : goal.returns
returns c =
    let kept : List ℕ → List ℕ = filter (λ x. nat_lt x c.args.start || nat_lt c.args.end x) in
    TakesAway-filter c.args.start c.args.end _ _
    (c.loop-number.invariant ∙ ap kept (take_all c.loop-number.number-index c.deref-number-items.result.now c.loop-number-test.false ∙ c.deref-number-items.ensures.value))
