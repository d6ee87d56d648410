use Rattle.std.proofs.Common.{take}
use Rattle.section_manager.specs.contracts.sealed.PageBlobSectionBuffer.TheImpl as page_blob
use Rattle.archives.specs.Shown.{means}
use Rattle.archives.proofs.FindLemmas.{HasReadOthers}
use Rattle.archives.proofs.prunable.Archive.find.Given as goal

-- the records of the handles so far were read, and each has another key
abbrev pub invariant-loop-handle : goal.invariant-loop-handle
invariant-loop-handle g l =
    HasReadOthers (means (page_blob.ghosts g.row.S g.S.Seal g.S.Seal-dict)) g.D.Device l.self g.K.Key.key_bytes l.self.tables (g.K.Key.key_bytes l.key) (take l.handle-index l.handle-items) l.initial.dev l.dev
