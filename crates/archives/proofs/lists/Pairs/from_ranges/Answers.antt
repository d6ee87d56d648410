use Rattle.std.proofs.Common.{◌≡◌, ◌∙◌, refl, subst}
use Rattle.std.specs.Prelude.{IfOk}
use Rattle.std.specs.Vec.{vec_items}
use Rattle.std.proofs.lemmas.Iterator.{items_from_collect}
use Rattle.std.proofs.lemmas.Iterator.Consumers.{YieldsList-from_first}
use Rattle.archives.proofs.lists.Pairs.from_ranges.Goals as goal

pub returns : goal.returns
returns c =
    c.from_vec.ensures
    ∙ subst (λ r. IfOk r (λ w. vec_items w ≡ c.args.ranges)) c.in_ok-collect.was
    (items_from_collect c.collect.result c.collect.ensures.ran (YieldsList-from_first (λ x. x) (λ s. s) c.args.ranges refl))
