use Rattle.std.proofs.Common.{take}
use Rattle.section_manager.specs.contracts.sealed.PageBlobSectionBuffer.TheImpl.{ghosts}
use Rattle.section_manager.specs.declared.sealed.AppendFactory.{AppendFactory}
use Rattle.segments.specs.FixedFloors.{preflight_shown, journal_of}
use Rattle.segments.proofs.checkpoint.Earlier.{Gone}
use Rattle.segments.proofs.fixed.preflighting.Preflight.checked_earlier.Given as goal

abbrev pub invariant-loop-number : goal.invariant-loop-number
invariant-loop-number g l = Gone g.S.Seal.seal_of g.A.CodecFixed.SIZE l.section g.A.Codec.spelling g.A.Codec.accepted g.A.Codec.refusal g.D.Device (ghosts g.row.S g.S.Seal g.S.Seal-dict)
    (λ (f : AppendFactory g.row.S.Denot). record { page_size = f.pages.page_size; capacity = f.write_buffer; cache_pages = f.pages.cache_pages }) (journal_of l.fn.self).sections
    (preflight_shown {A = g.row.A.Denot} {S = g.row.S.Denot} {fixed = g.A.CodecFixed} {codec = g.A.Codec} {seal = g.S.Seal}) (λ r. (journal_of r).sections)
    (take l.number-index l.number-items) (journal_of l.found).sections (preflight_shown l.found) l.fn.dev l.dev
