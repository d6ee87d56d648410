-- What is open stands open on a device.
use Rattle.blob_device.specs.declared.memory.Memory.{Memory}
use Rattle.blob_device.specs.MemoryMeaning.{memory_opened, memory_time}
use Rattle.blob_device.specs.Opened.{OpenedList}
use Rattle.blob_device.specs.Timeline.{Timeline, disk}
use Rattle.blob_device.specs.contracts.memory.MemoryDevice.TheImpl as memory
use Rattle.section_manager.specs.managing.Managed as managed
use Rattle.section_manager.specs.contracts.sealed.PageBlobSectionBuffer.TheImpl as page_blob
use Rattle.section_manager.specs.contracts.unsealed.WriteBlobSectionBuffer.TheImpl as write_blob
use Rattle.value_codec.specs.contracts.seal.Sha256Seal.{the_row}
use Rattle.value_codec.specs.contracts.seal.Sha256SealSeal.TheImpl as seal
use Rattle.paired.specs.glob.Sections.{IsGlob}
use Rattle.paired.specs.Pair.{IsPair}
use Rattle.paired.specs.PairShown.{shown}
use Rattle.paired.specs.ReplayShown.{run_of}
use Rattle.paired.specs.Replaying.{IsRun}
use Rattle.paired_tests.specs.contracts.notes.NoteRecord.TheImpl as note
use Rattle.paired_tests.specs.declared.store.Store.{Store}
use Rattle.paired_tests.specs.declared.store.Store.TheVariants.{Closed, Pair, Walk, Glob, Mend}

-- the blobs of what is open stand open, as a device that tells so says and at this moment of it
abbrev pub IsOpenAt : OpenedList → Timeline → Store → Type 0
IsOpenAt opened time Closed = Unit {0}
IsOpenAt opened time (Pair p) = IsPair (page_blob.ghosts the_row seal.ghosts seal.dict) (λ f. record { page_size = f.pages.page_size; capacity = f.write_buffer; cache_pages = f.pages.cache_pages }) write_blob.ghosts (λ f. record { page_size = 1; capacity = f.capacity; cache_pages = 0 }) memory.ghosts.Tells (shown note.ghosts.place p) opened (disk time)
IsOpenAt opened time (Walk r) = IsRun (run_of note.ghosts.place r) (page_blob.ghosts the_row seal.ghosts seal.dict) (λ f. record { page_size = f.pages.page_size; capacity = f.write_buffer; cache_pages = f.pages.cache_pages }) write_blob.ghosts (λ f. record { page_size = 1; capacity = f.capacity; cache_pages = 0 }) memory.ghosts.Tells opened (disk time)
IsOpenAt opened time (Glob g) = IsGlob write_blob.ghosts (λ f. record { page_size = 1; capacity = f.capacity; cache_pages = 0 }) memory.ghosts.Tells (managed.shown g.manager) opened (disk time)
IsOpenAt opened time (Mend g) = IsGlob write_blob.ghosts (λ f. record { page_size = 1; capacity = f.capacity; cache_pages = 0 }) memory.ghosts.Tells (managed.shown g.manager) opened (disk time)

abbrev pub IsOpen : Memory → Store → Type 0
IsOpen dev store = IsOpenAt (memory_opened dev) (memory_time dev) store
