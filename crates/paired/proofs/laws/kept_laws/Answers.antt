use Rattle.paired.proofs.KeptLemmas.{kept_law}
use Rattle.paired.proofs.laws.kept_laws.Goals as goal

pub returns : goal.returns
returns c = kept_law
