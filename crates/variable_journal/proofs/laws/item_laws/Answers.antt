-- Each law of bytes, said of items.
use Rattle.variable_journal.specs.lemmas.Resting.{first_of_prefix}
use Rattle.variable_journal.proofs.LastingLemmas.{flushing_items, appending_items, making_items, items_now}
use Rattle.variable_journal.proofs.laws.item_laws.Goals as goal

pub returns-clause-first : goal.returns-clause-first
returns-clause-first g c P bytes least content prefix = first_of_prefix g.S.Seal.seal_of P bytes least content prefix

pub returns-clause-flushes : goal.returns-clause-flushes
returns-clause-flushes g c P bytes least key old new sealing = flushing_items g.S.Seal.seal_of P key old new bytes least sealing

pub returns-clause-appends : goal.returns-clause-appends
returns-clause-appends g c P bytes item least key old new whole fits sealing = appending_items g.S.Seal.seal_of P key old new bytes item least whole fits sealing

pub returns-clause-makes : goal.returns-clause-makes
returns-clause-makes g c P item key old new fits moments = making_items g.S.Seal.seal_of P key old new item fits moments

pub returns-clause-now : goal.returns-clause-now
returns-clause-now g c u b begun = items_now g.S.Seal.seal_of u b begun
