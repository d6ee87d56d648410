use Rattle.std.proofs.Common.{ap, length, take, drop, sym, ◌∙◌, arith, ◌-◌, ◌+◌, ◌++◌, ◌∷◌}
use Rattle.std.proofs.lemmas.List.{length-drop, take_all}
use Rattle.archive_service.proofs.WordLemmas.{cut_at, cut_none}
use Rattle.archive_service.proofs.words.cut.Goals as goal

pub returns-in-Some : goal.returns-in-Some
returns-in-Some c =
    let at = cut_at c.args.byte c.args.text.now c.in-Some.at (sym c.place_of.ensures ∙ c.in-Some.is) in
    let rest = drop (c.in-Some.at + 1) c.args.text.now in
    let whole = take_all (length c.args.text.now - (c.in-Some.at + 1)) rest (omega (arith, length-drop (c.in-Some.at + 1) c.args.text.now)) in
    (at.0 ∙ ap (λ l. take c.in-Some.at c.args.text.now ++ c.args.byte ∷ l) (sym whole), at.1)

pub returns-in-None : goal.returns-in-None
returns-in-None c = cut_none c.args.byte c.args.text.now (sym c.place_of.ensures ∙ c.in-None.is)
