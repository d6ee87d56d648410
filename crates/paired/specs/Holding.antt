-- What is known of a pair's sections, and what a crash may leave their blobs as.
use Rattle.std.specs.Prelude.{◌≡◌, ◌⊎◌, ℕ, ◌*◌, ◌^◌, ◌<◌, ◌≤◌, List, [], length, take, IsTrue, Option, Some, unwrap_or}
use Rattle.std.specs.List.{AllByRecursion}
use Rattle.blob_device.specs.Disk.{Blob, Disk, past, longest, MayLeave}
use Rattle.meta_store.specs.Crashes as metadata
use Rattle.sealed_pages.specs.ChanceSeal as pages
use Rattle.sealed_pages.specs.SealedPrefix.{sealed_prefix, Prefix}
use Rattle.section_manager.specs.Sections.{section_key}
use Rattle.section_manager.specs.Prefixes.{IsPrefixOf}
use Rattle.paired.specs.Places.{Follow, end_of}
use Rattle.paired.specs.Records.{Entry, records, entries_of, is_sound}
use Rattle.paired.specs.Kept.{Layout, Markers, HasNoFloor, IsMarked}

-- of one section: the bytes of its records and those of its values, how many of each have settled, and how many records were synced
pub record Facts : Type 0 where
  pub index : List ℕ
  pub values : List ℕ
  pub index_settled : ℕ
  pub values_settled : ℕ
  pub synced : ℕ

module _ (l : Layout) where
  -- the section's list
  abbrev pub list_in : Facts → List Entry
  list_in f = entries_of l.place l.record_size f.index f.values

  -- The values stand one behind the other, where the records say, each sound; and of what was synced both the records and the values have settled.
  pub record AreGood (f : Facts) : Type 0 where
    pub end : ℕ
    pub follow : Follow l.place 0 (records l.record_size f.index) end
    pub room : end ≤ length f.values
    pub sound : AllByRecursion (λ r. IsTrue (is_sound l.seal f.values (l.place r))) (records l.record_size f.index)
    pub index_settled : f.synced * l.record_size ≤ f.index_settled
    pub values_settled : end_of l.place 0 (take f.synced (records l.record_size f.index)) ≤ f.values_settled

  -- each crash leaves the index blob, with a prefix of the records' bytes that holds what has settled
  abbrev pub IsLasting : Facts → Blob → Type 0
  IsLasting f b = pages.Leaves l.seal l.page_size f.index f.index_settled b

  -- a crash that leaves the index blob leaves it so
  abbrev pub IsFading : Facts → Blob → Type 0
  IsFading f b = (c : List ℕ) → MayLeave b (Some c) → pages.NoChanceSeal l.seal l.page_size (past b) c → Prefix l.seal l.page_size f.index f.index_settled c

  -- The section is held; or it is held, and its index blob may be gone; or it is not held, no crash leaves a byte, and nothing was synced.
  abbrev pub IndexStands : Type 0 → Facts → Blob → Type 0
  IndexStands Gone f b = IsLasting f b ⊎ ((Gone × IsFading f b) ⊎ ((longest b ≡ 0) × (f.synced ≡ 0)))

  -- no crash leaves a record in the index blob
  abbrev pub LeavesNoRecords : Blob → Type 0
  LeavesNoRecords b = (c : List ℕ) → MayLeave b (Some c) → pages.NoChanceSeal l.seal l.page_size (past b) c → records l.record_size (sealed_prefix l.seal l.page_size c) ≡ []

  -- Each crash leaves what has settled of the values at the blob's start, a blob that is not there having no bytes. Where a crash may leave the
  -- blob at all, each content that it had is a prefix of the values.
  pub record ValuesStand (f : Facts) (b : Blob) : Type 0 where
    pub kept : (left : Option (List ℕ)) → MayLeave b left → IsPrefixOf (take f.values_settled f.values) (unwrap_or left [])
    pub prefixes : (left : Option (List ℕ)) → MayLeave b left → AllByRecursion (λ c. IsPrefixOf c f.values) (past b)

  -- how the two blobs of a section stand: its values count only where a record may be left
  pub record SectionStands (Gone : Type 0) (f : Facts) (index_blob value_blob : Blob) : Type 0 where
    pub index : IndexStands Gone f index_blob
    pub values : ValuesStand f value_blob ⊎ LeavesNoRecords index_blob

  -- The section of each marker is held, will stay, and has that many records synced. The floor is 0.
  pub record AreTrue (facts : ℕ → Facts) (d : Disk) (markers : Markers) : Type 0 where
    pub sections : (s m : ℕ) → IsMarked markers.entries s m
        → IsLasting (facts s) (d (section_key l.index s)) × (m ≤ (facts s).synced)
    pub floor : HasNoFloor markers

  -- The blobs of each section stand, and the copies hold the one value of markers or the other, both of them true.
  pub record Holding (facts : ℕ → Facts) (Gone : ℕ → Type 0) (one other : Markers) (d : Disk) : Type 0 where
    pub sections : (s : ℕ) → s < 2 ^ 64 → SectionStands (Gone s) (facts s) (d (section_key l.index s)) (d (section_key l.values s))
    pub marked : IsTrue l.marked
    pub copies : metadata.Keeps l.markers l.metadata one other d
    pub one_marked : AreTrue facts d one
    pub other_marked : AreTrue facts d other
