-- What a cache means: a state of the machine. When it may be used.
use Rattle.std.specs.Prelude.{◌≡◌, ℕ, ◌-◌, ◌^◌, ◌<◌, ◌≤◌, Bool, false, nat_eq, is_some, List, length, map, Option, None, Some, IsSome}
use Rattle.std.specs.List.{AllByRecursion, IsDistinct}
use Rattle.blob_device.specs.Disk.{Disk, MayLeave, longest}
use Rattle.blob_device.specs.Opened.{OpenedList}
use Rattle.ordinal_store.specs.Numbers.{Set}
use Rattle.sealed_pages.specs.Buffer.{size_of}
use Rattle.sealed_pages.specs.Shown.{shown}
use Rattle.sealed_pages.specs.declared.page_blob.PageBlob.{PageBlob}
use Rattle.section_manager.specs.Sections.{key_of, IsGone, IsHeld}
use Rattle.section_manager.specs.Setting.{Setting}
use Rattle.section_manager.specs.declared.buffer.SectionBuffer as buffer
use Rattle.segments.specs.FixedLists.{Lists, section_bytes}
use Rattle.variable_journal.specs.Frames.{items_of}
use Rattle.variable_journal.specs.Lists.{IsJournal}
use Rattle.cache_store.specs.Filing.{offset_in, state_by, synced_in}
use Rattle.cache_store.specs.Kept.{Layout}
use Rattle.cache_store.specs.Machine.{State, section_of}
use Rattle.cache_store.specs.Records.{entry_of, record_refusal}

-- What a cache shows.
pub record Cache (F B : Type 0) : Type 0 where
  -- its records, by section
  pub journal : Lists F B
  -- how it is kept
  pub layout : Layout
  -- of each index that is held, where its record's frame begins in its section
  pub offsets : ℕ → Option ℕ
  -- the indices that are held, as its runs have them
  pub indices : Set
  -- of each section written since the last sync, how many bytes were synced
  pub written : ℕ → Option ℕ
  -- below it all was pruned
  pub floor : ℕ

module _ {F S : Type 0} {gs : _} (c : Cache F (PageBlob S gs)) where
  -- an index is held
  abbrev pub holds : ℕ → Bool
  holds i = is_some (c.offsets i)

  module _ (d : Disk) where
    -- a section's bytes
    abbrev pub bytes_in : ℕ → List ℕ
    bytes_in = section_bytes c.journal.sections d

    -- the state of the machine
    abbrev pub state_of : State (List ℕ)
    state_of = state_by bytes_in c.written c.floor

    -- The cache is sound over the disk, as it is from an opening of a lawful image on.
    pub record IsSound : Type 0 where
      -- no index comes twice
      pub once : (s : ℕ) → IsDistinct nat_eq (map (λ e. e.index) (state_of.lists s))
      -- no crash leaves a name that is no section's
      pub names : (name x : List ℕ) → MayLeave (d (c.layout.partition, name)) (Some x)
          → length name ≡ 8
      -- nor bytes of a section of which none are held
      pub absent : (s : ℕ) → s < 2 ^ 64 → c.journal.sections.held s ≡ None
          → longest (d (key_of c.journal.sections s)) ≡ 0

    -- What is held in memory is what the sections have.
    pub record IsTold : Type 0 where
      -- the runs have just the indices that are held
      pub indices : (i : ℕ) → c.indices i ≡ holds i
      -- the offset of an index is that of its first record
      pub listed : (i : ℕ)
          → c.offsets i ≡ offset_in i 0 (items_of (bytes_in (section_of c.layout.items i)))
      -- each frame has a record
      pub decoded : (s : ℕ)
          → AllByRecursion (λ x. record_refusal c.layout.refusal x ≡ None) (items_of (bytes_in s))
      -- of its section
      pub in_section : (s : ℕ) → AllByRecursion
          (λ x. section_of c.layout.items (entry_of x).index ≡ s) (items_of (bytes_in s))
      -- what counts as synced has settled
      pub settled : (s : ℕ) (u : PageBlob S gs) → c.journal.sections.held s ≡ Some u
          → synced_in (c.written s) (bytes_in s) ≤ (shown u).settled

  -- The cache may be used.
  pub record IsCache (g : buffer.Ghosts (PageBlob S gs)) (gives : F → Setting) (told : Type 0)
      (opened : OpenedList) (d : Disk) : Type 0 where
    -- its journal may be used
    pub journal : IsJournal g gives c.layout.seal told c.journal opened d
    -- all sections are held
    pub ceiling : c.journal.sections.ceiling ≡ 2 ^ 64 - 1
    -- none owes a replay
    pub recovered : (s : ℕ) → c.journal.unrecovered s ≡ false
    -- the blobs are those of the layout
    pub partition : c.journal.sections.partition ≡ c.layout.partition
    -- in pages of that size
    pub pages : (gives c.journal.sections.factory).page_size ≡ c.layout.page_size
    -- a section has room
    pub items : 1 ≤ c.layout.items
    -- the floor is the start of a section
    pub floor : section_of c.layout.items c.floor ≡ c.floor
    -- that of the journal is no higher
    pub journal_floor : c.journal.sections.floor ≤ c.floor
    -- the runs have just the indices that are held
    pub indices : (i : ℕ) → c.indices i ≡ holds i
    -- no section below it is held
    pub below : (s : ℕ) → s < c.floor → IsGone c.journal.sections s
    -- and no index
    pub none_below : (i : ℕ) → i < c.floor → holds i ≡ false
    -- one that counts as written is held
    pub written : (s : ℕ) → IsSome (c.written s) → IsHeld c.journal.sections s
    -- one that does not has settled
    pub settled : (s : ℕ) (u : PageBlob S gs) → c.journal.sections.held s ≡ Some u
        → c.written s ≡ None → (shown u).settled ≡ size_of (shown u)
    -- where the disk is told, memory agrees with it
    pub memory : told → IsTold d
