-- What going over all that is left of a replay of frames comes to, for calls that open a journal and do so.
use Rattle.std.specs.Prelude.{◌≡◌, ℕ, false, List, Option, Result, Ok, Err}
use Rattle.blob_device.specs.Timeline.{disk}
use Rattle.blob_device.specs.declared.device.Device as device
use Rattle.value_codec.specs.declared.codec.Error as codec
use Rattle.sealed_pages.specs.declared.page_blob.PageBlob.{PageBlob}
use Rattle.section_manager.specs.Setting.{Setting}
use Rattle.section_manager.specs.declared.buffer.SectionBuffer as buffer
use Rattle.section_manager.specs.declared.journal.Error.{Error}
use Rattle.segments.specs.FixedLists.{Lists}
use Rattle.segments.specs.FixedReplay.{Walk, IsDrained}
use Rattle.variable_journal.specs.Advancing.{GivesError, HasGone, IsGoing}
use Rattle.variable_journal.specs.Finishing.{Finishes, HasCalled, NextCall}

module _ {F S D V C : Type 0} {gs : _} (g : buffer.Ghosts (PageBlob S gs)) (gives : F → Setting)
    (seal : List ℕ → ℕ) (dev : device.Ghosts D) (spelling : V → List ℕ)
    (accepted : V → C → Type 0) (refusal : List ℕ → C → Option codec.Error) (config : C)
    (w : Walk F (PageBlob S gs)) (old : D) where
  -- Calls that answered no error led to the replay k.
  pub record HasComeTo (k : Walk F (PageBlob S gs)) (new : D) : Type 0 where
    -- it may be used
    pub over : IsGoing g gives seal dev k new
    -- and has not ended
    pub going : k.ended ≡ false
    -- no section is lost
    pub gone : HasGone g gives seal dev w k old new
    -- these are the calls
    pub calls : dev.Tells → (xs : List (NextCall F (PageBlob S gs) V))
        × HasCalled seal spelling accepted config
        (record { walk = w; disk = disk (dev.time old) }) xs
        (record { walk = k; disk = disk (dev.time new) })

  -- The journal j was given back, once nothing was left.
  pub record HasDrained (j : Lists F (PageBlob S gs)) (kept : Result C Error) (new : D)
      : Type 0 where
    -- by this replay
    pub last : Walk F (PageBlob S gs)
    pub come : HasComeTo last new
    pub drained : IsDrained last
    -- as `finish` gives it back
    pub finished : Finishes seal spelling accepted config last (Ok j) kept

  -- One call gave an error.
  pub record HasStopped (e : Error) (new : D) : Type 0 where
    -- the replay before it
    pub last : Walk F (PageBlob S gs)
    -- and after it
    pub after : Walk F (PageBlob S gs)
    -- the device before it
    pub at : D
    pub come : HasComeTo last at
    pub error : GivesError g gives seal dev spelling accepted refusal config last after at new e

  -- what going over all that is left answers
  abbrev pub DrainEnds : Result (Lists F (PageBlob S gs)) Error → Result C Error → D → Type 0
  DrainEnds (Ok j) kept new = HasDrained j kept new
  DrainEnds (Err e) kept new = HasStopped e new
