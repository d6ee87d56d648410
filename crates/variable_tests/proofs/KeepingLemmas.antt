-- A journal of frames after a call that only read.
use Rattle.std.proofs.Common.{◌≡◌, sym, subst}
use Rattle.blob_device.specs.Disk.{Key}
use Rattle.blob_device.specs.MemoryMeaning.{memory_opened, memory_time}
use Rattle.blob_device.specs.Timeline.{disk}
use Rattle.blob_device.specs.declared.memory.Memory.{Memory}
use Rattle.sealed_pages.specs.Reading.{OnlyRead}
use Rattle.section_manager.specs.contracts.sealed.PageBlobSectionBuffer.TheImpl as page_blob
use Rattle.segments.specs.lemmas.held.Sections as bytes
use Rattle.value_codec.specs.contracts.seal.Sha256Seal.{the_row}
use Rattle.value_codec.specs.contracts.seal.Sha256SealSeal.TheImpl as seal
use Rattle.variable_journal.specs.Lists.{AreFramed}
use Rattle.variable_journal.specs.Shown as journal
use Rattle.variable_tests.specs.Stores.{IsOpen, set_by}
use Rattle.variable_tests.specs.declared.store.Store.TheVariants.{Frames}

-- it may still be used
pub read_on : (j : _) (k : Key) (old new : Memory)
    → OnlyRead k (memory_opened old) (memory_opened new)
    → disk (memory_time new) ≡ disk (memory_time old)
    → IsOpen old (Frames j) → IsOpen new (Frames j)
read_on j k old new only same is = record {
  bytes = bytes.journal_read (page_blob.ghosts the_row seal.ghosts seal.dict) set_by
      seal.ghosts.seal_of 1 (Unit {0}) (journal.shown j) k (memory_opened old) (memory_opened new)
      (disk (memory_time old)) (disk (memory_time new)) only (λ t. same) is.bytes;
  free = is.free;
  framed = λ t. subst (AreFramed (journal.shown j)) (sym same) (is.framed t);
}
