use Rattle.std.proofs.Common.{refl}
use Rattle.segments.specs.lemmas.adding.Write.{are_pages}
use Rattle.variable_journal.specs.lemmas.Opened.{openings_give}
use Rattle.variable_journal.proofs.laws.opening_laws.Goals as goal

pub returns : goal.returns
returns g c = openings_give _ _ _ g.D.Device _ _ _ (are_pages g.row.S g.S.Seal g.S.Seal-dict) (λ f. refl)
