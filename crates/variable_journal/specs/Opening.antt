-- What the openings of a journal promise.
use Rattle.std.specs.Prelude.{◌≡◌, ℕ, ◌-◌, ◌^◌, List, Result, IfOk}
use Rattle.blob_device.specs.Timeline.{disk}
use Rattle.blob_device.specs.declared.device.Device as device
use Rattle.sealed_pages.specs.declared.page_blob.PageBlob.{PageBlob}
use Rattle.sealed_pages.specs.declared.pages.Pages.{Pages}
use Rattle.section_manager.specs.Setting.{Setting}
use Rattle.section_manager.specs.declared.buffer.SectionBuffer as buffer
use Rattle.section_manager.specs.declared.journal.Error.{Error}
use Rattle.section_manager.specs.declared.sealed.AppendFactory.{AppendFactory}
use Rattle.segments.specs.FixedLists.{Lists}
use Rattle.segments.specs.FixedOpens as bytes
use Rattle.variable_journal.specs.Lists.{IsJournal}

-- The sections of the partition `place` were opened, in pages of this kind and with so large a write buffer.
module _ {S C D : Type 0} {gs : _} (g : buffer.Ghosts (PageBlob S gs))
    (gives : AppendFactory S → Setting) (seal : List ℕ → ℕ) (place : List ℕ) (paged : Pages)
    (capacity : ℕ) (dev : device.Ghosts D)
    (result : Result (Lists (AppendFactory S) (PageBlob S gs)) Error) (cfg : C)
    (kept : Result C Error) (old new : D) where
  pub record Opens : Type 0 where
    -- as bytes, without a bound: which are held, what they have, that each with bytes owes a
    -- replay, which names are refused, and what each moment leaves
    pub bytes : bytes.Opens g gives seal 1 place paged capacity (2 ^ 64 - 1) dev result old new
    -- the journal may be used
    pub over : IfOk result (λ k.
        IsJournal g gives seal dev.Tells k (dev.opened new) (disk (dev.time new)))
    -- what decoding an item needs to know is as it was given
    pub config : IfOk kept (λ c. c ≡ cfg)
