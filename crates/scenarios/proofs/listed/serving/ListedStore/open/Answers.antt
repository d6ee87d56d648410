use Rattle.scenarios.proofs.ListedLemmas.{listed_opens}
use Rattle.scenarios.proofs.listed.serving.ListedStore.open.Goals as goal

pub returns : goal.returns
returns g c = listed_opens g.D.Device c.args._dev.now c.empty.result c.empty.ensures
