-- Sections of a partition, each by its number: what is held of them, what is known, and where their blobs are.
use Rattle.std.specs.Prelude.{◌≡◌, ◌⊎◌, ℕ, ◌^◌, ◌<◌, ◌≤◌, min, false, List, take, IsTrue, Option, None, Some, IsSome}
use Rattle.std.specs.Int.{w64, to_be_bytes}
use Rattle.blob_device.specs.Disk.{Key, Blob, Disk}
use Rattle.blob_device.specs.Opened.{OpenedList}
use Rattle.sealed_pages.specs.Entries.{IsOpenAt}
use Rattle.sealed_pages.specs.Cutting.{StandsSettled}
use Rattle.section_manager.specs.declared.buffer.SectionBuffer as buffer
use Rattle.section_manager.specs.Setting.{Setting}
use Rattle.section_manager.specs.declared.unopened.Unopened.{Unopened}
use Rattle.section_manager.specs.declared.unopened.Unopened.TheVariants.{Section}

-- a section's blob is named by the eight bytes of its number, the greatest first
abbrev pub section_key : List ℕ → ℕ → Key
section_key partition s = (partition, to_be_bytes w64 s)

-- What a manager shows: the buffer of each section that is held; what is known of each whose blob may be there though it is not
-- held; the least number that was not pruned; the greatest number up to which sections are held.
pub record Sections (F B : Type 0) : Type 0 where
  pub partition : List ℕ
  pub factory : F
  pub held : ℕ → Option B
  pub unopened : ℕ → Option Unopened
  pub floor : ℕ
  pub ceiling : ℕ

module _ {F B : Type 0} where
  abbrev pub key_of : Sections F B → ℕ → Key
  key_of m s = section_key m.partition s

  abbrev pub IsHeld : Sections F B → ℕ → Type 0
  IsHeld m s = IsSome (m.held s)

  -- the section is held, or its blob may be there all the same
  abbrev pub IsKnown : Sections F B → ℕ → Type 0
  IsKnown m s = IsHeld m s ⊎ IsSome (m.unopened s)

  -- the section is held, or it is unopened, and no mere leftover of a call that failed
  abbrev pub IsSection : Sections F B → ℕ → Type 0
  IsSection m s = IsHeld m s ⊎ (m.unopened s ≡ Some Section)

  -- neither
  pub record IsGone (m : Sections F B) (s : ℕ) : Type 0 where
    pub held : m.held s ≡ None
    pub unopened : m.unopened s ≡ None

  -- the section is held, or unopened, as before
  pub record IsSame (m n : Sections F B) (s : ℕ) : Type 0 where
    pub held : n.held s ≡ m.held s
    pub unopened : n.unopened s ≡ m.unopened s

  -- the partition and the factory stay
  pub record SamePlace (m n : Sections F B) : Type 0 where
    pub partition : n.partition ≡ m.partition
    pub factory : n.factory ≡ m.factory

  -- they stay, and so do the floor and the ceiling
  pub record SameBounds (m n : Sections F B) : Type 0 where
    pub place : SamePlace m n
    pub floor : n.floor ≡ m.floor
    pub ceiling : n.ceiling ≡ m.ceiling

  -- the key of a section that P names
  abbrev pub IsKeyOf : Sections F B → (ℕ → Type 0) → Key → Type 0
  IsKeyOf m P q = (s : ℕ) × P s × (q ≡ key_of m s)

module _ {F B : Type 0} (g : buffer.Ghosts B) where
  -- Each held section's buffer stands over the section's blob, and each blob of a section that is there is of one that is known.
  pub record StandsOver (m : Sections F B) (d : Disk) : Type 0 where
    pub stands : (s : ℕ) (u : B) → m.held s ≡ Some u → g.Stands u (d (key_of m s))
    pub whose : (s : ℕ) → s < 2 ^ 64 → IsTrue (d (key_of m s)).there → IsKnown m s

module _ {F B : Type 0} (g : buffer.Ghosts B) (gives : F → Setting) where
  -- Each held section's buffer is of the section's blob, which is opened, and as the factory makes them. Held sections are up to
  -- the ceiling, and none of them is unopened; all known ones are from the floor on.
  pub record HasOpened (m : Sections F B) (opened : OpenedList) : Type 0 where
    pub key : (s : ℕ) (u : B) → m.held s ≡ Some u → g.key u ≡ key_of m s
    pub setting : (s : ℕ) (u : B) → m.held s ≡ Some u → g.setting u ≡ gives m.factory
    pub is_open : (s : ℕ) (u : B) → m.held s ≡ Some u → IsOpenAt opened (key_of m s) (g.extent u)
    pub to_ceiling : (s : ℕ) → IsHeld m s → s ≤ m.ceiling
    pub apart : (s : ℕ) → IsHeld m s → m.unopened s ≡ None
    pub from_floor : (s : ℕ) → IsKnown m s → m.floor ≤ s
    pub number : (s : ℕ) → IsKnown m s → s < 2 ^ 64

  -- The manager's sections are those of the partition: by the list of opened blobs, and by the disk where it is told.
  pub record IsOver (told : Type 0) (m : Sections F B) (opened : OpenedList) (d : Disk) : Type 0 where
    pub opened_list : HasOpened m opened
    pub disk : told → StandsOver g m d

module _ {B : Type 0} (g : buffer.Ghosts B) where
  -- The buffer v is what a sync made of u: all bytes have settled, and they are as before.
  pub record IsSynced (told : Type 0) (u v : B) (old new : Blob) : Type 0 where
    pub size : g.byte_count v ≡ g.byte_count u
    pub settled : g.settled v ≡ g.byte_count u
    pub done : g.unsettled v ≡ false
    pub bytes : told → g.bytes v new.content ≡ g.bytes u old.content
    pub rests : told → StandsSettled new
    pub whole : told → g.IsWhole u old → g.IsWhole v new
    pub again : told → g.IsWhole u old → g.holds (g.setting v) new.content ≡ g.bytes v new.content
    pub same : g.unsettled u ≡ false → v ≡ u

  -- The buffer v is what a cut to n bytes made of u: no longer than that, and durable where it was longer.
  pub record IsCut (told : Type 0) (n : ℕ) (u v : B) (old new : Blob) : Type 0 where
    pub size : g.byte_count v ≡ min (g.byte_count u) n
    pub bytes : told → g.bytes v new.content ≡ take n (g.bytes u old.content)
    pub settled : n < g.byte_count u → g.settled v ≡ n
    pub done : n < g.byte_count u → g.unsettled v ≡ false
    pub rests : told → n < g.byte_count u → StandsSettled new
    pub whole : told → g.IsWhole u old → g.IsWhole v new
    pub mended : told → n < g.byte_count u → g.IsWhole v new
    pub again : told → n < g.byte_count u → g.holds (g.setting v) new.content ≡ g.bytes v new.content
    pub same : g.byte_count u ≤ n → v ≡ u
    pub stays : told → g.byte_count u ≤ n → new ≡ old
