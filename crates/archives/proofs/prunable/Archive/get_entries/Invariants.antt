use Rattle.std.proofs.Common.{take}
use Rattle.section_manager.specs.contracts.sealed.PageBlobSectionBuffer.TheImpl as page_blob
use Rattle.archives.specs.Shown.{means}
use Rattle.archives.proofs.SeveralLemmas.{HasReadEntries}
use Rattle.archives.proofs.prunable.Archive.get_entries.Given as goal

-- key and value were read of the records at the positions so far, and nothing else
abbrev pub invariant-loop-position : goal.invariant-loop-position
invariant-loop-position g l =
    HasReadEntries (means (page_blob.ghosts g.row.S g.S.Seal g.S.Seal-dict)) g.D.Device l.self g.K.Key.key_bytes l.index l.section l.position-index (take l.position-index l.position-items) l.entries.items l.initial.dev l.dev
