use Rattle.std.proofs.Common.{take}
use Rattle.section_manager.specs.contracts.sealed.PageBlobSectionBuffer.TheImpl as page_blob
use Rattle.archives.specs.Shown.{means}
use Rattle.archives.proofs.SeveralLemmas.{HasReadKeys}
use Rattle.archives.proofs.prunable.multi.ArchiveMultiArchive.has_at.Given as goal

-- the records at the positions so far were read, and each has another key
abbrev pub invariant-loop-position : goal.invariant-loop-position
invariant-loop-position g l =
    HasReadKeys (means (page_blob.ghosts g.row.S g.S.Seal g.S.Seal-dict)) g.D.Device l.self l.index l.section (g.K.Key.key_bytes l.key) l.position-index (take l.position-index l.position-items) l.initial.dev l.dev
