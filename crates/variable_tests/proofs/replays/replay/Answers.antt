use Rattle.variable_tests.proofs.StartLemmas.{at_first}
use Rattle.variable_tests.proofs.replays.replay.Goals as goal

pub replay-requires-clause-start : goal.replay-requires-clause-start
replay-requires-clause-start c told held = at_first _
