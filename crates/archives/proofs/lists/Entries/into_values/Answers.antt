use Rattle.std.proofs.Common.{rules, ◌∙◌, ap, ℕ, map, Ok}
use borrow.Author.Tests.{tests}
use Rattle.std.proofs.lemmas.Iterator.{YieldsList-from_map, items_from_collect}
use Rattle.std.proofs.lemmas.Iterator.Adapters.{YieldsList-from_vec}
use Rattle.std.proofs.lemmas.Iterator.Consumers.{YieldsList-at}
use Rattle.archives.proofs.lists.Entries.into_values.Goals as goal

pub returns : goal.returns
returns g c =
    c.from_vec.ensures
    ∙ items_from_collect {E = ℕ} (Ok c.in_ok-collect.field-0) c.in_ok-collect.ensures.ran
    (YieldsList-from_map _ (λ e. e.1) (YieldsList-at c.map-values.ensures.source (YieldsList-from_vec c.self.inside.items.items c.into_iter.ensures.rest (c.into_iter.ensures.len ∙ c.self.inside.items.ok.0))) c.map-values.ensures.closure (λ x r q k. search (rules, tests)))
    ∙ ap (map (λ e. e.1)) c.self.view_is
