use Rattle.std.proofs.lemmas.Bool.{eqb-true, eq-eqb}
use Rattle.ordinal_store.proofs.ranges.PlainList.{begins_from_around, around_from_begins}
use Rattle.ordinal_store.proofs.plain.PlainSet.begins.Goals as goal

pub returns-in-Some : goal.returns-in-Some
returns-in-Some c =
    ((λ t. begins_from_around _ _ _ _ c.in-Some.ensures (eqb-true _ _ t)), (λ w. eq-eqb _ _ (around_from_begins _ _ _ _ c.in-Some.ensures w)))
