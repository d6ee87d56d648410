-- A replay by its cursor, between two calls of the driver.
use Rattle.std.specs.Prelude.{◌≡◌, ℕ, ◌*◌, ◌≤◌, false, Option, None, Result, Ok, Err, OnOk, OnErr}
use Rattle.std.specs.Option.{option_map}
use Rattle.blob_device.specs.MemoryMeaning.{memory_opened, memory_time}
use Rattle.blob_device.specs.Timeline.{disk}
use Rattle.blob_device.specs.declared.memory.Memory.{Memory}
use Rattle.sealed_pages.specs.declared.page_blob.PageBlob.{PageBlob}
use Rattle.section_manager.specs.contracts.sealed.PageBlobSectionBuffer.TheImpl as page_blob
use Rattle.section_manager.specs.declared.journal.Error.{Error}
use Rattle.section_manager.specs.declared.sealed.AppendFactory.{AppendFactory}
use Rattle.segments.specs.FixedReplay.{Place, Walk, IsWalk}
use Rattle.segments.specs.FixedStepping.{failing}
use Rattle.value_codec.specs.contracts.seal.Sha256Seal.{the_row}
use Rattle.value_codec.specs.contracts.seal.Sha256SealSeal.TheImpl as seal
use Rattle.value_codec.specs.declared.seal.Sha256Seal.{Sha256Seal}

-- what a replay of a journal with these seals shows
abbrev pub SealedWalk : Type 0
SealedWalk = Walk (AppendFactory Sha256Seal) (PageBlob Sha256Seal seal.ghosts)

-- a replay of a journal of items of eight bytes may go on with the device
abbrev pub MayGoOn : Memory → SealedWalk → Type 0
MayGoOn dev w = IsWalk (page_blob.ghosts the_row seal.ghosts seal.dict) (λ f. record { page_size = f.pages.page_size; capacity = f.write_buffer; cache_pages = f.pages.cache_pages }) seal.ghosts.seal_of 8 (Unit {0}) w (memory_opened dev) (disk (memory_time dev))

-- the replay, where an error that was answered is noted
abbrev pub noted : {T : Type 0} → Result T Error → SealedWalk → SealedWalk
noted (Ok x) w = w
noted (Err e) w = failing w

-- the section of a place, and the position there
abbrev pub stands_in : Option Place → Option (ℕ × ℕ)
stands_in o = option_map {U = ℕ × ℕ} (λ r. (r.section, r.position)) o

-- each section has the floor that it had
abbrev pub SameFloors : SealedWalk → SealedWalk → Type 0
SameFloors old new = (s : ℕ) → new.journal.floor_of s ≡ old.journal.floor_of s

-- The replay stands between two sections, and the section may be cut to so many items.
pub record IsBetween (dev : Memory) (section keep : ℕ) (w : SealedWalk) : Type 0 where
  -- it goes on
  pub goes : MayGoOn dev w
  -- it stands in no section
  pub between : w.place ≡ None
  -- the section's floor is not above the cut
  pub floor : w.journal.floor_of section ≤ keep * 8

-- Items of the section in which it stood were passed.
pub record HasPassed {T : Type 0} (dev : Memory) (result : Result T Error) (old new : SealedWalk)
    : Type 0 where
  -- it goes on, also behind an error, if that is noted
  pub goes : MayGoOn dev (noted result new)
  -- it has not ended without one
  pub going : OnOk result (new.ended ≡ false)
  -- an error ends the section
  pub left : OnErr result (new.place ≡ None)
  -- no floor changes
  pub floors : SameFloors old new

-- The section was gone over, or left.
pub record HasGoneOver (dev : Memory) (result : Result (Unit {0}) Error) (old new : SealedWalk)
    : Type 0 where
  -- it goes on, also behind an error, if that is noted
  pub goes : MayGoOn dev (noted result new)
  -- it stands in no section
  pub between : new.place ≡ None
  -- no floor changes
  pub floors : SameFloors old new
