use Rattle.segments_tests.proofs.journals.sealed.Goals as goal

pub returns-in_err-kept : goal.returns-in_err-kept
returns-in_err-kept c = c.recoverable_prefix_len_at_most.ensures.over c.requires

pub returns : goal.returns
returns c = c.recoverable_prefix_len_at_most.ensures.over c.requires
