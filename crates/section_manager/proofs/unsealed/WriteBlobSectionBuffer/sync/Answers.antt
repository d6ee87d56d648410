use Rattle.section_manager.specs.lemmas.sections.Entry.{starts_none}
use Rattle.section_manager.proofs.buffers.UnsealedCalls.{sync_moments}
use Rattle.section_manager.proofs.unsealed.WriteBlobSectionBuffer.sync.Goals as goal

pub returns-clause-moments : goal.returns-clause-moments
returns-clause-moments g c t stands = sync_moments c.args.self _ _ _ stands (c.sync.ensures.spares t) (c.sync.ensures.since t)

pub returns-clause-reads : goal.returns-clause-reads
returns-clause-reads g c none = starts_none _ _ _ c.sync.ensures.entries
