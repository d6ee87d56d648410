use Rattle.segments_tests.proofs.journals.cut_tail.Goals as goal

pub truncate_pending_tail-requires-clause-over : goal.truncate_pending_tail-requires-clause-over
truncate_pending_tail-requires-clause-over c = c.recoverable_prefix_len_at_most.ensures.over c.requires

pub truncate_pending_tail-requires-clause-sealed : goal.truncate_pending_tail-requires-clause-sealed
truncate_pending_tail-requires-clause-sealed c t u held longer unproven = c.in_ok-end.ensures.safe t u held
