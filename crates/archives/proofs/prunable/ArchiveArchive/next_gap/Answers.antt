use Rattle.archives.proofs.prunable.ArchiveArchive.next_gap.Goals as goal

pub returns : goal.returns
returns g c = record { end = c.next_gap.ensures.end; next = c.next_gap.ensures.next }
