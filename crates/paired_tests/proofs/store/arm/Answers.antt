use Rattle.paired_tests.proofs.StoreLemmas.{stays}
use Rattle.paired_tests.proofs.store.arm.Goals as goal

pub returns : goal.returns
returns c = stays c.args.store c.told.ensures.opened c.told.ensures.time c.requires
