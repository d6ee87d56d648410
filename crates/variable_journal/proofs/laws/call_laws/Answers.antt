use Rattle.segments.specs.lemmas.adding.Write.{are_pages}
use Rattle.variable_journal.specs.lemmas.Laws.{calls_rest}
use Rattle.variable_journal.proofs.laws.call_laws.Goals as goal

pub returns : goal.returns
returns g c = calls_rest _ _ _ g.D.Device _ _ _ (are_pages g.row.S g.S.Seal g.S.Seal-dict)
