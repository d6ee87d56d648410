-- What a fixed journal shows: its sections, which of them owe a replay, and how many bytes of each
-- a marker vouches for (0 where there is none). When it may be used.
use Rattle.std.specs.Prelude.{◌≡◌, ℕ, ◌%◌, ◌<◌, ◌≤◌, Bool, false, List, [], IsTrue, Option, None, Some, IsSome}
use Rattle.std.specs.BTreeMap as tree
use Rattle.std.specs.Option.{unwrap_or}
use Rattle.std.specs.Ordering.{nat_cmp}
use Rattle.blob_device.specs.Disk.{Disk}
use Rattle.blob_device.specs.Opened.{OpenedList}
use Rattle.sealed_pages.specs.declared.page_blob.PageBlob.{PageBlob}
use Rattle.sealed_pages.specs.Shown.{shown}
use Rattle.sealed_pages.specs.Buffer.{size_of, bytes_of, IsSealed}
use Rattle.section_manager.specs.declared.buffer.SectionBuffer as buffer
use Rattle.section_manager.specs.Setting.{Setting}
use Rattle.section_manager.specs.Sections.{Sections, key_of, IsHeld, IsOver}

-- the floor that a map gives, 0 where it gives none
abbrev pub floor_in : tree.BTreeMap ℕ ℕ → ℕ → ℕ
floor_in m s = unwrap_or (tree.get nat_cmp m s) 0

pub record Lists (F B : Type 0) : Type 0 where
  pub sections : Sections F B
  pub unrecovered : ℕ → Bool
  pub floor_of : ℕ → ℕ

-- The section takes an append: no bound of an opening is below it, and it owes no replay.
pub record IsRecovered {F B : Type 0} (j : Lists F B) (s : ℕ) : Type 0 where
  pub below : s ≤ j.sections.ceiling
  pub checked : j.unrecovered s ≡ false

-- The section owes no replay, and no marker stands in for one: all its pages were read, or written
-- since.
pub record IsProven {F B : Type 0} (j : Lists F B) (s : ℕ) : Type 0 where
  pub checked : j.unrecovered s ≡ false
  pub free : j.floor_of s ≡ 0

module _ {S : Type 0} {gs : _} where
  abbrev pub bytes_held : Option (PageBlob S gs) → List ℕ → List ℕ
  bytes_held None content = []
  bytes_held (Some u) content = bytes_of (shown u) content

  abbrev pub size_held : Option (PageBlob S gs) → ℕ
  size_held None = 0
  size_held (Some u) = size_of (shown u)

  module _ {F : Type 0} (m : Sections F (PageBlob S gs)) where
    -- a section's bytes, those not flushed too; none where it is not held
    abbrev pub section_bytes : Disk → ℕ → List ℕ
    section_bytes d s = bytes_held (m.held s) (d (key_of m s)).content

    -- how many those are
    abbrev pub section_size : ℕ → ℕ
    section_size s = size_held (m.held s)

  -- A section that owes a replay is held.
  pub record OwesHeld {F : Type 0} (j : Lists F (PageBlob S gs)) : Type 0 where
    pub held : (s : ℕ) → IsTrue (j.unrecovered s) → IsHeld j.sections s

  -- All its bytes have settled.
  pub record OwesSettled {F : Type 0} (j : Lists F (PageBlob S gs)) : Type 0 where
    pub settled : (s : ℕ) (u : PageBlob S gs) → j.sections.held s ≡ Some u
        → IsTrue (j.unrecovered s) → u.settled ≡ size_of (shown u)

  -- Any other held section has whole items, and it is sealed where it has no floor.
  pub record AreSealed {F : Type 0} (seal : List ℕ → ℕ) (size : ℕ) (j : Lists F (PageBlob S gs))
      (d : Disk) : Type 0 where
    pub sealed : (s : ℕ) (u : PageBlob S gs) → j.sections.held s ≡ Some u → IsProven j s
        → IsSealed seal (shown u) (d (key_of j.sections s))
    pub whole : (s : ℕ) (u : PageBlob S gs) → j.sections.held s ≡ Some u → j.unrecovered s ≡ false
        → size_of (shown u) % size ≡ 0

  -- what is known and not held stands above the bound of the opening
  pub record UnopenedLater {F : Type 0} (j : Lists F (PageBlob S gs)) : Type 0 where
    pub later : (s : ℕ) → IsSome (j.sections.unopened s) → j.sections.ceiling < s

  -- The journal's sections are those of the partition, and, where the disk is told, lists of items
  -- that are sealed but for the sections that owe a replay or have a floor.
  pub record IsJournal {F : Type 0} (g : buffer.Ghosts (PageBlob S gs)) (gives : F → Setting)
      (seal : List ℕ → ℕ) (size : ℕ) (told : Type 0)
      (j : Lists F (PageBlob S gs)) (opened : OpenedList) (d : Disk) : Type 0 where
    pub over : IsOver g gives told j.sections opened d
    pub owes_held : OwesHeld j
    pub owes_settled : OwesSettled j
    pub disk : told → AreSealed seal size j d
    pub unopened : told → UnopenedLater j
