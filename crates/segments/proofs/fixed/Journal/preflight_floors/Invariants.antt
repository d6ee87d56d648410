use Rattle.std.specs.Prelude.{◌≡◌, None, string_bytes}
use Rattle.std.specs.BTreeMap.{get}
use Rattle.std.specs.Ordering.{nat_cmp}
use Rattle.section_manager.specs.contracts.sealed.PageBlobSectionBuffer.TheImpl.{ghosts}
use Rattle.section_manager.specs.declared.sealed.AppendFactory.{AppendFactory}
use Rattle.segments.specs.FixedFloors.{preflight_shown, journal_of}
use Rattle.segments.proofs.opened.FloorLemmas.{Checked}
use Rattle.segments.proofs.opened.Stages.{Stage}
use Rattle.segments.proofs.fixed.Journal.preflight_floors.Given as goal
use Rattle.blob_device.proofs.general.Maps.{numbers_of}

abbrev pub invariant-loop-section : goal.invariant-loop-section
invariant-loop-section g l = record {
  checked : Checked g.S.Seal.seal_of g.A.CodecFixed.SIZE g.A.Codec.spelling g.A.Codec.accepted g.D.Device.Tells (string_bytes l.cfg.partition) l.cfg.pages l.cfg.write_buffer l.ceiling (get nat_cmp l.floors) (g.D.Device.time l.fn.dev)
      (numbers_of l.yielded) (preflight_shown l.found);
  stage : Stage g.S.Seal.seal_of (ghosts g.row.S g.S.Seal g.S.Seal-dict) (λ (f : AppendFactory g.row.S.Denot). record { page_size = f.pages.page_size; capacity = f.write_buffer; cache_pages = f.pages.cache_pages }) g.D.Device (string_bytes l.cfg.partition) l.cfg.pages l.cfg.write_buffer l.ceiling l.fn.dev
      (journal_of l.found).sections l.dev;
  target : (preflight_shown l.found).target ≡ None;
}
