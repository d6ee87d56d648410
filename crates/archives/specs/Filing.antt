-- How an archive files its records, and what an image keeps of them.
use Rattle.std.specs.Prelude.{◌≡◌, ◌⊎◌, ℕ, List, map, Option}
use Rattle.blob_device.specs.Disk.{Image, Key}
use Rattle.value_codec.specs.declared.codec.Error as codec
use Rattle.section_manager.specs.Sections.{section_key}
use Rattle.paired.specs.Kept.{IsSameLayout, Layout, Markers}
use Rattle.paired.specs.Kept as pair
use Rattle.paired.specs.Records as stored
use Rattle.archives.specs.IndexRecord.{index_of, key_of}
use Rattle.archives.specs.Machine.{Entry, section_of}

-- How the pair of records and values is stored, how many indices a section has room for, how many bytes a key has,
-- why the codec refuses the spelling of a value, if it does, and how many sections, and records in a section, there
-- may be.
pub record Filing : Type 1 where
  pub layout : Layout
  pub items : ℕ
  pub key_size : ℕ
  pub refusal : List ℕ → Option codec.Error
  pub most_sections : ℕ
  pub most_records : ℕ

-- The same partitions, pages, records, items, keys, codec and limits. Two that are the same, and whose markers are
-- stored the same way, as those of archives of one type are, are equal (`FilingLaws`).
pub record IsSameFiling (f g : Filing) : Type 0 where
  pub layout : IsSameLayout f.layout g.layout
  pub record_size : g.layout.record_size ≡ f.layout.record_size
  pub seal : (bytes : List ℕ) → g.layout.seal bytes ≡ f.layout.seal bytes
  pub place : (bytes : List ℕ) → g.layout.place bytes ≡ f.layout.place bytes
  pub items : g.items ≡ f.items
  pub key_size : g.key_size ≡ f.key_size
  pub refusal : (bytes : List ℕ) → g.refusal bytes ≡ f.refusal bytes
  pub most_sections : g.most_sections ≡ f.most_sections
  pub most_records : g.most_records ≡ f.most_records

-- the floor that stands with the markers; what an image keeps does not go by it yet, and in a lawful one it is 0
abbrev pub floor_of : Markers → ℕ
floor_of markers = markers.floor

module _ (f : Filing) where
  -- a record as the machine has it: the index and the key that its bytes say, and the spelling of its value
  abbrev pub filed : stored.Entry → Entry (List ℕ)
  filed e = record { index = index_of e.stored; key = key_of f.key_size e.stored; value = e.value }

  module _ (image : Image) (markers : Markers) where
    -- the records that the image keeps of a section, with their values
    abbrev pub kept_entries : ℕ → List stored.Entry
    kept_entries s = pair.kept_by f.layout image markers s

    -- the same, as the machine has them
    abbrev pub kept : ℕ → List (Entry (List ℕ))
    kept s = map filed (kept_entries s)

-- one of the two blobs of the section of an index
abbrev pub IsBlobAt : Filing → ℕ → Key → Type 0
IsBlobAt f index q = (q ≡ section_key f.layout.index (section_of f.items index))
    ⊎ (q ≡ section_key f.layout.values (section_of f.items index))
