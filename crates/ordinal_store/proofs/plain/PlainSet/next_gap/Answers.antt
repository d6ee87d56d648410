use Rattle.ordinal_store.proofs.plain.PlainSet.next_gap.Goals as goal

pub returns : goal.returns
returns c = record { end = c.end_around.ensures; next = c.next_start.ensures }
