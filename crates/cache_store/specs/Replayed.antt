-- What it promises to hold all records that a replay gives.
use Rattle.std.specs.Prelude.{◌≡◌, ◌⊎◌, ℕ, List, Option, Result, Ok, Err}
use Rattle.blob_device.specs.Counts.{Rose}
use Rattle.blob_device.specs.Timeline.{disk}
use Rattle.blob_device.specs.declared.device.Device as device
use Rattle.blob_device.specs.declared.runtime.RError.TheVariants as runtime
use Rattle.sealed_pages.specs.declared.page_blob.PageBlob.{PageBlob}
use Rattle.section_manager.specs.Setting.{Setting}
use Rattle.section_manager.specs.declared.buffer.SectionBuffer as buffer
use Rattle.section_manager.specs.declared.journal.Error.{Error}
use Rattle.section_manager.specs.declared.journal.Error.TheVariants.{Runtime}
use Rattle.segments.specs.FixedReplay.{Walk, IsDrained}
use Rattle.value_codec.specs.declared.codec.Error as codec
use Rattle.variable_journal.specs.Advancing.{IsGoing, HasGone, Keeps}
use Rattle.variable_journal.specs.Frames.{items_of}
use Rattle.variable_journal.specs.Replaying.{given_bytes}
use Rattle.cache_store.specs.Changes.{IsFailure}
use Rattle.cache_store.specs.Filing.{offset_in}
use Rattle.cache_store.specs.Holding.{IsTied, offsets_of}
use Rattle.cache_store.specs.Machine.{section_of}
use Rattle.cache_store.specs.Refusals.{AreOwn, IsRefusal}
use Rattle.cache_store.specs.declared.held.Held.{Held}

-- Records of sections of these bytes are held.
module _ (items : ℕ) (refusal : List ℕ → Option codec.Error) (bytes : ℕ → List ℕ) where
  -- All are: each frame has a record, of its section, and the offset of an index is that of its
  -- first.
  pub record AreEntered (offsets : ℕ → Option ℕ) : Type 0 where
    pub listed : (i : ℕ) → offsets i ≡ offset_in i 0 (items_of (bytes (section_of items i)))
    pub own : (s : ℕ) → AreOwn items refusal s (items_of (bytes s))

  -- something is refused, or there was a failure
  abbrev pub IsEnteringCause : ℕ → ℕ → Error → Type 0
  IsEnteringCause before now e = IsRefusal items refusal bytes e ⊎ IsFailure before now e

module _ {F S D : Type 0} {gs : _} (g : buffer.Ghosts (PageBlob S gs)) (gives : F → Setting)
    (seal : List ℕ → ℕ) (dev : device.Ghosts D) (items : ℕ) (refusal : List ℕ → Option codec.Error)
    (w k : Walk F (PageBlob S gs)) (old new : D) where
  -- the bytes from which the replay gives items
  abbrev pub bytes_given : ℕ → List ℕ
  bytes_given = given_bytes seal w (disk (dev.time old))

  -- All were held.
  pub record HasEntered (held : Held) : Type 0 where
    pub gone : HasGone g gives seal dev w k old new
    -- the replay may be used
    pub over : IsGoing g gives seal dev k new
    pub drained : IsDrained k
    pub tied : IsTied held
    pub entered : dev.Tells → AreEntered items refusal bytes_given (offsets_of held)

  -- One was refused, or there was a failure.
  pub record HasNotEntered (e : Error) : Type 0 where
    pub keeps : Keeps g gives seal dev w k old new
    pub cause : dev.Tells
        → IsEnteringCause items refusal bytes_given (dev.faults old) (dev.faults new) e
    -- also where no disk is told
    pub fault : e ≡ Runtime runtime.Fault → Rose (dev.faults old) (dev.faults new)

  abbrev pub EntersAll : Result Held Error → Type 0
  EntersAll (Ok held) = HasEntered held
  EntersAll (Err e) = HasNotEntered e
