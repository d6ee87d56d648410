-- What is open may be used with the device.
use Rattle.blob_device.specs.MemoryMeaning.{memory_opened, memory_time}
use Rattle.blob_device.specs.Timeline.{disk}
use Rattle.blob_device.specs.declared.memory.Memory.{Memory}
use Rattle.section_manager.specs.managing.Managed as managed
use Rattle.section_manager.specs.Sections.{IsOver}
use Rattle.section_manager.specs.contracts.sealed.PageBlobSectionBuffer.TheImpl as page_blob
use Rattle.section_manager.specs.contracts.unsealed.WriteBlobSectionBuffer.TheImpl as write_blob
use Rattle.segments.specs.FixedLists.{IsJournal}
use Rattle.segments.specs.FixedShown as journal
use Rattle.value_codec.specs.contracts.seal.Sha256Seal.{the_row}
use Rattle.value_codec.specs.contracts.seal.Sha256SealSeal.TheImpl as seal
use Rattle.segments_tests.specs.declared.store.Store.{Store}
use Rattle.segments_tests.specs.declared.store.Store.TheVariants.{Closed, Items, Sections}

-- a journal of items of eight bytes, or a manager of buffers without seals
abbrev pub IsOpen : Memory → Store → Type 0
IsOpen dev Closed = Unit {0}
IsOpen dev (Items j) = IsJournal (page_blob.ghosts the_row seal.ghosts seal.dict) (λ f. record { page_size = f.pages.page_size; capacity = f.write_buffer; cache_pages = f.pages.cache_pages }) seal.ghosts.seal_of 8 (Unit {0}) (journal.shown j) (memory_opened dev) (disk (memory_time dev))
IsOpen dev (Sections m) = IsOver write_blob.ghosts (λ f. record { page_size = 1; capacity = f.capacity; cache_pages = 0 }) (Unit {0}) (managed.shown m) (memory_opened dev) (disk (memory_time dev))
