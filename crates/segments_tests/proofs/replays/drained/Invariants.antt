use Rattle.blob_device.specs.MemoryMeaning.{memory_opened, memory_time}
use Rattle.blob_device.specs.Timeline.{disk}
use Rattle.section_manager.specs.contracts.sealed.PageBlobSectionBuffer.TheImpl as page_blob
use Rattle.segments.specs.FixedReplay.{IsWalk}
use Rattle.segments.specs.FixedWalking.{walk_of}
use Rattle.value_codec.specs.contracts.seal.Sha256Seal.{the_row}
use Rattle.value_codec.specs.contracts.seal.Sha256SealSeal.TheImpl as seal
use Rattle.segments_tests.proofs.replays.drained.Given as goal

abbrev pub invariant-answers : goal.invariant-answers
invariant-answers l = IsWalk (page_blob.ghosts the_row seal.ghosts seal.dict) (λ f. record { page_size = f.pages.page_size; capacity = f.write_buffer; cache_pages = f.pages.cache_pages }) seal.ghosts.seal_of 8 (Unit {0})
    (walk_of l.walk) (memory_opened l.dev) (disk (memory_time l.dev))
