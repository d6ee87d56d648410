use Rattle.std.proofs.Common.{◌≡◌, ◌||◌, nat_lt, take, filter}
use Rattle.ordinal_store.proofs.plain.PlainSet.remove.Given as goal

abbrev pub invariant-loop-number : goal.invariant-loop-number
invariant-loop-number l =
    l.kept.items ≡ filter (λ x. nat_lt x l.start || nat_lt l.end x) (take l.number-index l.number-items)
