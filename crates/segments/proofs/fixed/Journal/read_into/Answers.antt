use Rattle.section_manager.specs.lemmas.Seen.{err_seen}
use Rattle.segments.proofs.looking.ItemReads.{reads_failed, reads_coded, reads_got}
use Rattle.segments.proofs.fixed.Journal.read_into.Goals as goal

pub returns-in_err-held-clause-reads : goal.returns-in_err-held-clause-reads
returns-in_err-held-clause-reads g c =
    let h = c.in_err-held.ensures in
    reads_failed _ _ _ _ _ _ _ _ _ _ _ h.idle h.unchanged h.reads h.faults _ _ (err_seen (λ r. r.0) c.from_residual.result _ c.from_residual.ensures.1) h.damaged h.cause

pub returns-in_err-item-clause-reads : goal.returns-in_err-item-clause-reads
returns-in_err-item-clause-reads g c =
    let h = c.in_ok-held.ensures in
    reads_coded _ _ _ _ _ _ _ _ _ _ _ h.idle h.unchanged h.reads h.faults c.fill_item.new.bytes h.bytes h.checked _ _ (err_seen (λ r. r.0) c.from_residual-in_err-item.result _ c.from_residual-in_err-item.ensures.1) c.in_err-item.ensures.refused

pub returns-clause-reads : goal.returns-clause-reads
returns-clause-reads g c =
    let h = c.in_ok-held.ensures in
    reads_got _ _ _ _ _ _ _ _ _ _ _ h.idle h.unchanged h.reads h.faults c.fill_item.new.bytes h.bytes h.checked _ c.in_ok-item.ensures.spelled c.in_ok-item.ensures.allowed
