-- What a prunable archive means: a state of the record machine. When it may be used.
use Rattle.std.specs.Prelude.{◌≡◌, ◌≢◌, ℕ, ◌<◌, ◌≤◌, ◌^◌, Bool, true, false, List, [], length, map, Option, None, Some, IsTrue}
use Rattle.std.specs.List.{AllByRecursion}
use Rattle.blob_device.specs.Disk.{Disk, MayLeave}
use Rattle.blob_device.specs.Opened.{OpenedList}
use Rattle.value_codec.specs.declared.codec.Error as codec
use Rattle.sealed_pages.specs.declared.page_blob.PageBlob.{PageBlob}
use Rattle.sealed_pages.specs.declared.write_blob.WriteBlob.{WriteBlob}
use Rattle.section_manager.specs.declared.buffer.SectionBuffer as buffer
use Rattle.section_manager.specs.declared.unsealed.WriteFactory.{WriteFactory}
use Rattle.section_manager.specs.Setting.{Setting}
use Rattle.paired.specs.glob.Sections as glob
use Rattle.paired.specs.Kept.{Layout}
use Rattle.section_manager.specs.Sections.{section_key}
use Rattle.paired.specs.Pair.{HasNoBytes, Pair, IsPair, IsSafeOn, length_of, list_of, records_of, synced_length}
use Rattle.archives.specs.Filing.{Filing, filed}
use Rattle.archives.specs.IndexRecord.{IsSpelled}
use Rattle.archives.specs.Machine.{State, section_of}
use Rattle.archives.specs.Rows.{AreWithin, Row, has_row, row_in}

-- What an archive shows: its pair; how many indices a section has room for, how many bytes a key has, and why the
-- codec refuses a spelling; the limits; the floor, below which all was pruned; of each section a row for each record,
-- by position; that the tables in memory answer for these rows; the set of the indices of all records; and which
-- sections were written since the last sync.
pub record Archive (F B : Type 0) : Type 1 where
  pub pair : Pair F B
  pub items : ℕ
  pub key_size : ℕ
  pub refusal : List ℕ → Option codec.Error
  pub most_sections : ℕ
  pub most_records : ℕ
  pub floor : ℕ
  pub rows : ℕ → List Row
  pub Tied : Type 0
  pub indices : ℕ → Bool
  pub is_written : ℕ → Bool

-- How the buffers of an archive are read: those F makes for records, in pages with seals, and those of values; and
-- with which setting each is made.
pub record Buffers (F B : Type 0) : Type 1 where
  pub pages : buffer.Ghosts B
  pub gives : F → Setting
  pub values : buffer.Ghosts WriteBlob
  pub takes : WriteFactory → Setting

-- how it files its records
abbrev pub filing_of : {F B : Type 0} → Archive F B → Filing
filing_of a = record {
  layout = a.pair.layout;
  items = a.items;
  key_size = a.key_size;
  refusal = a.refusal;
  most_sections = a.most_sections;
  most_records = a.most_records;
}

-- nothing is held of a section: no row, and no buffer of its records or of its values
pub record IsBare {F B : Type 0} (a : Archive F B) (s : ℕ) : Type 0 where
  pub rows : a.rows s ≡ []
  pub records : a.pair.index.sections.held s ≡ None
  pub values : a.pair.values.held s ≡ None

-- no crash leaves a blob in the partitions of records and values whose name is no section's
pub record LeavesNoForeign (l : Layout) (d : Disk) : Type 0 where
  pub index : (name c : List ℕ) → MayLeave (d (l.index, name)) (Some c) → length name ≡ 8
  pub values : (name c : List ℕ) → MayLeave (d (l.values, name)) (Some c) → length name ≡ 8

module _ {F S : Type 0} {gs : _} (a : Archive F (PageBlob S gs)) where
  module _ (d : Disk) where
    -- the state of the machine
    abbrev pub state_of : State (List ℕ)
    state_of = record {
      is_open = true;
      lists = λ s. map (filed (filing_of a)) (list_of a.pair d s);
      synced = synced_length a.pair;
      floor = a.floor;
    }

    -- The pair is sound, and its markers have no floor; each value is a spelling that the codec accepts; a u64 counts the bytes of each section's
    -- values; and no crash leaves values of a section of which none are held, or a foreign name. So it is of an
    -- archive that was opened over a lawful image.
    pub record IsSoundArchive : Type 0 where
      pub pair : IsSafeOn a.pair d
      pub decoded : (s : ℕ) → AllByRecursion (λ e. a.refusal e.value ≡ None) (list_of a.pair d s)
      pub counted : (s : ℕ) → glob.section_size a.pair.values s < 2 ^ 64
      pub absent : (s : ℕ) → s < 2 ^ 64 → a.pair.values.held s ≡ None
          → HasNoBytes (d (section_key a.pair.layout.values s))
      pub names : LeavesNoForeign a.pair.layout d

  -- The archive may be used: its pair may; the rows are those of the records, each of them spelled, and in
  -- its section, and no more than the limits allow; the tables in memory are tied to the rows; the set of indices
  -- is theirs; the floor is the start of a section, and nothing is held of one below it; what is not synced is in
  -- sections that were written; and each of these has a row, and, where the disk is told, something that is not
  -- synced.
  pub record IsArchive (buffers : Buffers F (PageBlob S gs)) (told : Type 0) (opened : OpenedList)
      (d : Disk) : Type 0 where
    pub pair : IsPair buffers.pages buffers.gives buffers.values buffers.takes told a.pair opened d
    pub items : 1 ≤ a.items
    pub floor : section_of a.items a.floor ≡ a.floor
    pub pair_floor : a.pair.index.sections.floor ≤ a.floor
    pub below : (s : ℕ) → s < a.floor → IsBare a s
    pub listed : told → (s : ℕ) → a.rows s ≡ map (row_in a.key_size) (records_of a.pair d s)
    pub spelled : told → (s : ℕ) → AllByRecursion (IsSpelled a.key_size) (records_of a.pair d s)
    pub tied : a.Tied
    pub indices : (i : ℕ) → a.indices i ≡ has_row a.items a.rows i
    pub within : AreWithin a.items a.most_sections a.most_records a.rows
    pub unwritten : (s : ℕ) → a.is_written s ≡ false → synced_length a.pair s ≡ length_of a.pair s
    pub written : (s : ℕ) → IsTrue (a.is_written s) → a.rows s ≢ []
    pub unsynced : told → (s : ℕ) → IsTrue (a.is_written s) → synced_length a.pair s < length_of a.pair s
