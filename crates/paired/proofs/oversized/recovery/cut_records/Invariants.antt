use Rattle.std.specs.BTreeMap.{get}
use Rattle.std.specs.Ordering.{nat_cmp}
use Rattle.section_manager.specs.contracts.sealed.PageBlobSectionBuffer.TheImpl as page_blob
use Rattle.segments.specs.FixedShown.{shown}
use Rattle.paired.proofs.RecordCuts.{RecordsCut}
use Rattle.paired.proofs.oversized.recovery.cut_records.Given as goal
use Rattle.blob_device.proofs.general.Maps.{numbers_of}

abbrev pub invariant-loop-section : goal.invariant-loop-section
invariant-loop-section g l = RecordsCut (shown l.fn.index) (shown l.index) (page_blob.ghosts g.row.S g.S.Seal g.S.Seal-dict) (λ f. record { page_size = f.pages.page_size; capacity = f.write_buffer; cache_pages = f.pages.cache_pages }) g.S.Seal.seal_of g.I.CodecFixed.SIZE g.D.Device.Tells
    g.D.Device.time g.D.Device.opened g.D.Device.faults (get nat_cmp l.ends) (numbers_of l.yielded) l.fn.dev l.dev
