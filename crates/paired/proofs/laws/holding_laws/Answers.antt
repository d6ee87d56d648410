use Rattle.paired.specs.lemmas.pair.Holding.{leaves_of}
use Rattle.paired.proofs.laws.holding_laws.Goals as goal

pub returns : goal.returns
returns c = λ _. λ facts one other d pos good holding. leaves_of c.P.Stored.layout pos facts c.P.Stored.IsGoing one other d good holding
