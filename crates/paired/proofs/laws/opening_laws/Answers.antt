use Rattle.paired.specs.Opening.{APrefix, Same, UpTo}
use Rattle.paired.proofs.opening.Ends.{prefix_order, up_to_order}
use Rattle.paired.specs.lemmas.opening.Ends.{by_same}
use Rattle.paired.specs.lemmas.opening.Laws.{nothing_pending, recalls_all, recalls_all_by, recalls_on, recalls_on_by, recalls_weaker}
use Rattle.paired.proofs.laws.opening_laws.Goals as goal

pub returns-clause-pending : goal.returns-clause-pending
returns-clause-pending g c = nothing_pending g.P.Stored.layout

pub returns-clause-keeps : goal.returns-clause-keeps
returns-clause-keeps g c = recalls_all g.P.Stored.layout

pub returns-clause-one_after_another : goal.returns-clause-one_after_another
returns-clause-one_after_another g c = recalls_on g.P.Stored.layout

pub returns-clause-first_after_another : goal.returns-clause-first_after_another
returns-clause-first_after_another g c = recalls_on_by g.P.Stored.layout APrefix prefix_order

pub returns-clause-up_to_after_another : goal.returns-clause-up_to_after_another
returns-clause-up_to_after_another g c = λ section least. recalls_on_by g.P.Stored.layout (UpTo section least) (up_to_order section least)

pub returns-clause-first_of_all : goal.returns-clause-first_of_all
returns-clause-first_of_all g c = recalls_weaker g.P.Stored.layout Same APrefix (by_same APrefix prefix_order)

pub returns-clause-up_to_of_all : goal.returns-clause-up_to_of_all
returns-clause-up_to_of_all g c = λ section least. recalls_weaker g.P.Stored.layout Same (UpTo section least) (by_same (UpTo section least) (up_to_order section least))

pub returns-clause-keeps_first : goal.returns-clause-keeps_first
returns-clause-keeps_first g c = recalls_all_by g.P.Stored.layout APrefix

pub returns-clause-keeps_up_to : goal.returns-clause-keeps_up_to
returns-clause-keeps_up_to g c = λ section least. recalls_all_by g.P.Stored.layout (UpTo section least)
