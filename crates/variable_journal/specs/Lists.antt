-- A list of items per section, each in a frame at its offset: what a journal of frames asks of its sections,
-- beside what a journal of bytes does.
use Rattle.std.specs.Prelude.{◌≡◌, ℕ, false, List, []}
use Rattle.blob_device.specs.Disk.{Disk}
use Rattle.blob_device.specs.Opened.{OpenedList}
use Rattle.sealed_pages.specs.declared.page_blob.PageBlob.{PageBlob}
use Rattle.section_manager.specs.Setting.{Setting}
use Rattle.section_manager.specs.declared.buffer.SectionBuffer as buffer
use Rattle.segments.specs.FixedLists as bytes
use Rattle.segments.specs.FixedLists.{Lists, section_bytes}
use Rattle.variable_journal.specs.Frames.{items_of, rest_of}

module _ {F S : Type 0} {gs : _} (j : Lists F (PageBlob S gs)) (d : Disk) where
  -- the items of a section, in order
  abbrev pub section_items : ℕ → List (List ℕ)
  section_items s = items_of (section_bytes j.sections d s)

  -- each section that owes no replay is whole frames
  abbrev pub AreFramed : Type 0
  AreFramed = (s : ℕ) → j.unrecovered s ≡ false → rest_of (section_bytes j.sections d s) ≡ []

module _ {F S : Type 0} {gs : _} (g : buffer.Ghosts (PageBlob S gs)) (gives : F → Setting)
    (seal : List ℕ → ℕ) (told : Type 0) where
  -- The journal may be used.
  pub record IsJournal (j : Lists F (PageBlob S gs)) (opened : OpenedList) (d : Disk) : Type 0 where
    -- it is a journal of bytes
    pub bytes : bytes.IsJournal g gives seal 1 told j opened d
    -- no marker stands in for a replay: a section owes one, or it is sealed
    pub free : (s : ℕ) → j.floor_of s ≡ 0
    -- sections that owe none are whole frames
    pub framed : told → AreFramed j d
