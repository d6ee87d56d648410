-- What is open may be used with the device.
use Rattle.std.specs.Prelude.{◌≡◌, ◌⊎◌, ℕ, ◌-◌, ◌^◌, ◌<◌, List, length}
use Rattle.blob_device.specs.MemoryMeaning.{memory_opened, memory_time}
use Rattle.blob_device.specs.Timeline.{disk}
use Rattle.blob_device.specs.declared.memory.Memory.{Memory}
use Rattle.section_manager.specs.Sections.{IsHeld}
use Rattle.section_manager.specs.Setting.{Setting}
use Rattle.section_manager.specs.contracts.sealed.PageBlobSectionBuffer.TheImpl as page_blob
use Rattle.section_manager.specs.declared.sealed.AppendFactory.{AppendFactory}
use Rattle.value_codec.specs.contracts.seal.Sha256Seal.{the_row}
use Rattle.value_codec.specs.contracts.seal.Sha256SealSeal.TheImpl as seal
use Rattle.value_codec.specs.declared.seal.Sha256Seal.{Sha256Seal}
use Rattle.variable_journal.specs.Lists.{IsJournal}
use Rattle.sealed_pages.specs.declared.pages.Pages.{Pages}
use Rattle.variable_journal.specs.Replaying.{IsBoundary, IsFrameWalk, IsStart}
use Rattle.variable_journal.specs.Shown as journal
use Rattle.variable_journal.specs.Walking.{walk_of}
use Rattle.variable_journal.specs.declared.journal.Journal.{Journal}
use Rattle.variable_journal.specs.declared.journal.replaying.Replay.{Replay}
use Rattle.variable_tests.specs.declared.store.Store.{Store}
use Rattle.variable_tests.specs.declared.store.Store.TheVariants.{Closed, Frames}

-- how a factory cuts pages and buffers them
abbrev pub set_by : {S : Type 0} → AppendFactory S → Setting
set_by f = record {
  page_size = f.pages.page_size;
  capacity = f.write_buffer;
  cache_pages = f.pages.cache_pages;
}

-- a journal of frames, or nothing
abbrev pub IsOpen : Memory → Store → Type 0
IsOpen dev Closed = Unit {0}
IsOpen dev (Frames j) = IsJournal (page_blob.ghosts the_row seal.ghosts seal.dict) set_by
    seal.ghosts.seal_of (Unit {0}) (journal.shown j) (memory_opened dev) (disk (memory_time dev))

-- a replay of one
abbrev pub IsGoing : {V C : Type 0} → Memory → Replay V Sha256Seal C seal.ghosts → Type 0
IsGoing dev walk = IsFrameWalk seal.ghosts.seal_of (page_blob.ghosts the_row seal.ghosts seal.dict)
    set_by (Unit {0}) (walk_of walk) (memory_opened dev) (disk (memory_time dev))

-- a replay may begin at this offset of the section, if that is held
abbrev pub MayBegin : {V C : Type 0} → Memory → Journal V Sha256Seal C seal.ghosts → ℕ → ℕ
    → Type 0
MayBegin dev j section offset = IsHeld (journal.shown j).sections section → IsStart
    seal.ghosts.seal_of (journal.shown j) (disk (memory_time dev)) section offset

-- a frame of these bytes begins there, or the last one ends there, or they all do before
abbrev pub Begins : List ℕ → ℕ → Type 0
Begins bytes offset = IsBoundary bytes offset ⊎ (length bytes < offset)

-- A journal is kept in this partition and in pages of this kind, and has all its sections.
pub record IsKeptAs {V S C : Type 0} {gs : _} (place : List ℕ) (paged : Pages) (j : Journal V S C gs)
    : Type 0 where
  pub partition : (journal.shown j).sections.partition ≡ place
  pub pages : (journal.shown j).sections.factory.pages ≡ paged
  -- no bound of an opening is below a section
  pub ceiling : (journal.shown j).sections.ceiling ≡ 2 ^ 64 - 1
