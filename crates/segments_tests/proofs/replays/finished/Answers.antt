use Rattle.std.proofs.Common.{sym, subst}
use Rattle.blob_device.specs.MemoryMeaning.{memory_opened, memory_time}
use Rattle.blob_device.specs.Timeline.{disk}
use Rattle.section_manager.specs.contracts.sealed.PageBlobSectionBuffer.TheImpl as page_blob
use Rattle.section_manager.specs.Sections.{IsOver}
use Rattle.value_codec.specs.contracts.seal.Sha256Seal.{the_row}
use Rattle.value_codec.specs.contracts.seal.Sha256SealSeal.TheImpl as seal
use Rattle.segments_tests.proofs.replays.finished.Goals as goal

pub returns : goal.returns
returns c = record {
  over = subst (λ m. IsOver (page_blob.ghosts the_row seal.ghosts seal.dict) (λ f. record { page_size = f.pages.page_size; capacity = f.write_buffer; cache_pages = f.pages.cache_pages }) (Unit {0}) m (memory_opened c.args._dev.now) (disk (memory_time c.args._dev.now)))
      (sym c.in_ok-journal.ensures.sections) c.requires.over;
  owes_held = c.in_ok-journal.ensures.held c.requires.walk;
  owes_settled = c.in_ok-journal.ensures.settled c.requires.walk;
  disk = λ t. c.in_ok-journal.ensures.sealed (disk (memory_time c.args._dev.now)) (c.requires.disk t);
  unopened = λ t. c.in_ok-journal.ensures.unopened (disk (memory_time c.args._dev.now)) (c.requires.disk t);
}
