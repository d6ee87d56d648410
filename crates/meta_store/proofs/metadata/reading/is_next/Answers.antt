use Rattle.std.proofs.Common.{◌∙◌, [], sym, ap, refl}
use Rattle.std.specs.Option.{option_copied}
use Rattle.std.specs.Map.{keys_of}
use Rattle.meta_store.proofs.Ascending.{less_true, true_less, sorted_push, sorted_below, last_below, below_last, none_last, no_keys}
use Rattle.meta_store.proofs.metadata.reading.is_next.Goals as goal

pub returns-in-Some : goal.returns-in-Some
returns-in-Some g c =
    let items = c.args.items.now in
    let e = c.in-Some.field-0.now in
    let y = c.args.key.now in
    let last = sym c.last.ensures.value ∙ ap option_copied c.in-Some.is in (
      λ is. sorted_push g.K.Ord.cmp (keys_of items) y c.requires
          (last_below g.K.Ord.cmp g.met.K.Ord.total items e y c.requires last (sym c.cmp.ensures ∙ less_true c.cmp.result (sym c.is_lt.ensures ∙ is))),
      λ sorted. c.is_lt.ensures ∙ true_less c.cmp.result (c.cmp.ensures ∙ below_last g.K.Ord.cmp items e y (sorted_below g.K.Ord.cmp (keys_of items) [] y sorted) last),
    )

pub returns-in-None : goal.returns-in-None
returns-in-None g c =
    let none = none_last g.K.Ord.cmp c.args.items.now (sym c.last.ensures.value ∙ ap option_copied c.in-None.is) in
    (λ is. no_keys g.K.Ord.cmp c.args.items.now c.args.key.now none, λ sorted. refl)
