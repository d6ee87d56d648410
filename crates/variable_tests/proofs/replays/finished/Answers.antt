use Rattle.std.proofs.Common.{sym, subst}
use Rattle.blob_device.specs.MemoryMeaning.{memory_opened, memory_time}
use Rattle.blob_device.specs.Timeline.{disk}
use Rattle.section_manager.specs.contracts.sealed.PageBlobSectionBuffer.TheImpl as page_blob
use Rattle.section_manager.specs.Sections.{IsOver}
use Rattle.value_codec.specs.contracts.seal.Sha256Seal.{the_row}
use Rattle.value_codec.specs.contracts.seal.Sha256SealSeal.TheImpl as seal
use Rattle.variable_tests.specs.Stores.{set_by}
use Rattle.variable_tests.proofs.replays.finished.Goals as goal

pub returns : goal.returns
returns c =
    let d = disk (memory_time c.args._dev.now) in
    let w = c.requires.bytes in
    let f = c.in_ok-journal.ensures in
    record {
      bytes = record {
        over = subst (λ m. IsOver (page_blob.ghosts the_row seal.ghosts seal.dict) set_by (Unit {0}) m (memory_opened c.args._dev.now) d) (sym f.sections) w.over;
        owes_held = f.held w.walk;
        owes_settled = f.settled w.walk;
        disk = λ t. f.sealed d (w.disk t);
        unopened = λ t. f.unopened d (w.disk t);
      };
      free = f.free c.requires.free;
      framed = λ t. f.framed d w.walk (w.disk t) (c.requires.walked t);
    }
