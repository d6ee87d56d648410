use Rattle.ordinal_store.proofs.ranges.OneAnswer.{have_one_answer}
use Rattle.ordinal_store.proofs.laws.one_answer.Goals as goal

pub returns : goal.returns
returns c s t same = have_one_answer s t same
