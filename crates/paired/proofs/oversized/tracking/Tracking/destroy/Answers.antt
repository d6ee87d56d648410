use Rattle.paired.proofs.oversized.tracking.Tracking.destroy.Goals as goal

pub returns-clause-crashes : goal.returns-clause-crashes
returns-clause-crashes g c t synced stands = (c.destroy.ensures.moments t).crashes synced stands

pub returns-clause-moments : goal.returns-clause-moments
returns-clause-moments g c t = (c.destroy.ensures.moments t).removing
