-- What an image keeps of a cache, and when it is lawful.
use Rattle.std.specs.Prelude.{◌≡◌, ℕ, ◌^◌, ◌<◌, ◌≤◌, nat_eq, List, [], length, map, Option, None, Some, unwrap_or}
use Rattle.std.specs.List.{AllByRecursion, IsDistinct}
use Rattle.blob_device.specs.Disk.{Image, Disk, past}
use Rattle.value_codec.specs.declared.codec.Error.{Error}
use Rattle.sealed_pages.specs.ChanceSeal as pages
use Rattle.sealed_pages.specs.SealedPrefix.{sealed_prefix}
use Rattle.section_manager.specs.Sections.{section_key}
use Rattle.variable_journal.specs.Frames.{items_of, rest_of, HasBadLength}
use Rattle.cache_store.specs.Machine.{Entry, State, section_of}
use Rattle.cache_store.specs.Records.{entry_of, record_refusal}

-- How a cache is kept.
pub record Layout : Type 0 where
  -- its partition, which has the sections' blobs
  pub partition : List ℕ
  -- how many bytes of data a page has
  pub page_size : ℕ
  -- the seal of a page
  pub seal : List ℕ → ℕ
  -- for how many indices a section has room
  pub items : ℕ
  -- why the codec refuses the spelling of a value, if it does
  pub refusal : List ℕ → Option Error

-- the entries of the records whose frames are whole in these bytes
abbrev pub entries_of : List ℕ → List (Entry (List ℕ))
entries_of bytes = map entry_of (items_of bytes)

module _ (l : Layout) where
  -- The sealed bytes of a section are lawful.
  pub record IsLawfulIn (s : ℕ) (bytes : List ℕ) : Type 0 where
    -- no length is refused
    pub lengths : HasBadLength (rest_of bytes) → ⊥
    -- each whole frame has a record
    pub decoded : AllByRecursion (λ x. record_refusal l.refusal x ≡ None) (items_of bytes)
    -- each index lies in the section
    pub in_section :
        AllByRecursion (λ x. section_of l.items (entry_of x).index ≡ s) (items_of bytes)
    -- and none comes twice
    pub once : IsDistinct nat_eq (map (λ e. e.index) (entries_of bytes))

  -- what is sealed of a blob; one that is not there has no bytes
  abbrev pub sealed_in : Option (List ℕ) → List ℕ
  sealed_in left = sealed_prefix l.seal l.page_size (unwrap_or left [])

  module _ (image : Image) where
    -- what is sealed of a section's blob
    abbrev pub sealed_bytes : ℕ → List ℕ
    sealed_bytes s = sealed_in (image (section_key l.partition s))

    -- what the image keeps of a section
    abbrev pub kept : ℕ → List (Entry (List ℕ))
    kept s = entries_of (sealed_bytes s)

    -- The image is lawful.
    pub record Lawful : Type 0 where
      -- each name in the partition has eight bytes
      pub names : (name c : List ℕ) → image (l.partition, name) ≡ Some c → length name ≡ 8
      -- each section is in order
      pub sections : (s : ℕ) → s < 2 ^ 64 → IsLawfulIn s (sealed_bytes s)

    -- The start state for the image.
    pub record IsStart (st : State (List ℕ)) : Type 0 where
      -- what it keeps
      pub lists : (s : ℕ) → s < 2 ^ 64 → st.lists s ≡ kept s
      -- after the last section that a u64 names there is nothing
      pub no_more : (s : ℕ) → 2 ^ 64 ≤ s → st.lists s ≡ []
      -- each section is synced whole
      pub synced : (s : ℕ) → st.synced s ≡ length (st.lists s)
      -- and the floor is none
      pub floor : st.floor ≡ 0

  -- each seal that holds in the section's bytes holds over bytes which its blob had there since it
  -- settled
  abbrev pub HasNoChanceSeal : Disk → ℕ → Option (List ℕ) → Type 0
  HasNoChanceSeal d s left = pages.NoChanceSeal l.seal l.page_size
      (past (d (section_key l.partition s))) (unwrap_or left [])

  -- of an image that a crash of the disk leaves: so it is in each section
  abbrev pub NoChanceSeal : Disk → Image → Type 0
  NoChanceSeal d image =
      (s : ℕ) → s < 2 ^ 64 → HasNoChanceSeal d s (image (section_key l.partition s))
