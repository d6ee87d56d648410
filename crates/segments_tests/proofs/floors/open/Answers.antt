use Rattle.std.proofs.Common.{◌≡◌, ℕ, List, Option, None, Result, sym, subst}
use Rattle.blob_device.specs.MemoryMeaning.{memory_opened, memory_time}
use Rattle.blob_device.specs.Timeline.{disk}
use Rattle.blob_device.specs.declared.device.Device as device
use Rattle.blob_device.specs.declared.memory.Memory.{Memory}
use Rattle.sealed_pages.specs.declared.page_blob.PageBlob.{PageBlob}
use Rattle.section_manager.specs.Setting.{Setting}
use Rattle.section_manager.specs.contracts.sealed.PageBlobSectionBuffer.TheImpl as page_blob
use Rattle.section_manager.specs.declared.buffer.SectionBuffer as buffer
use Rattle.section_manager.specs.declared.journal.Error.{Error}
use Rattle.segments.specs.FixedCheckpoint.{Finishes, GivesCheckpoint}
use Rattle.segments.specs.FixedFloors as floors
use Rattle.segments.specs.FixedLists.{Lists, IsJournal}
use Rattle.segments.specs.declared.fixed.preflighting.Target.{Target}
use Rattle.value_codec.specs.contracts.seal.Sha256Seal.{the_row}
use Rattle.value_codec.specs.contracts.seal.Sha256SealSeal.TheImpl as seal
use Rattle.segments_tests.specs.Stores.{IsOpen}
use Rattle.segments_tests.specs.declared.store.Store.TheVariants.{Items}
use Rattle.segments_tests.proofs.floors.open.Goals as goal

-- where markers were checked, a journal is finished as it was opened
given : {F S D : Type 0} {gs : _} (g : buffer.Ghosts (PageBlob S gs)) (gives : F → Setting) (seal : List ℕ → ℕ) (size : ℕ) (dev : device.Ghosts D)
    (j : Lists F (PageBlob S gs)) (result : Result (Lists F (PageBlob S gs)) Error) (old new : D) (target : Option Target) → target ≡ None
    → Finishes g gives seal size dev j result old new target → GivesCheckpoint g gives seal size dev j result old new
given g gives seal size dev j result old new target none finishes = subst (Finishes g gives seal size dev j result old new) none finishes

pub returns : goal.returns
returns c =
    let none = c.in_ok-found.ensures.target in
    let finished = given _ _ seal.ghosts.seal_of 8 _ (floors.journal_of c.in_ok-found.found) _ c.preflight_floors.new.dev c.finish.new.dev (floors.preflight_shown c.in_ok-found.found).target none c.in_ok-journal.ensures in
    subst (λ (d : Memory). IsOpen d (Items c.in_ok-journal.journal)) (sym finished.unchanged)
    (subst (λ m. IsJournal (page_blob.ghosts the_row seal.ghosts seal.dict) (λ f. record { page_size = f.pages.page_size; capacity = f.write_buffer; cache_pages = f.pages.cache_pages }) seal.ghosts.seal_of 8 (Unit {0}) m (memory_opened c.preflight_floors.new.dev) (disk (memory_time c.preflight_floors.new.dev)))
    (sym finished.same) c.in_ok-found.ensures.over)
