-- What a crash leaves of a pair.
use Rattle.std.specs.Prelude.{◌≡◌, ◌⊎◌, ℕ, ◌^◌, ◌<◌, ◌≤◌, false, List, [], length, map, take, IsTrue}
use Rattle.std.specs.List.{AllByRecursion}
use Rattle.blob_device.specs.Disk.{Key, Disk, Image, IsCrashOf, past}
use Rattle.blob_device.specs.Timeline.{Timeline, disk, Always}
use Rattle.sealed_pages.specs.ChanceSeal as pages
use Rattle.section_manager.specs.Sections.{section_key}
use Rattle.meta_store.specs.declared.error.Side.{Side}
use Rattle.meta_store.specs.declared.error.Side.TheVariants.{Left, Right}
use Rattle.meta_store.specs.Blobs.{blob_of, bytes_of}
use Rattle.meta_store.specs.Crashes as metadata
use Rattle.meta_store.specs.Pairs.{HoldMap, empty_map}
use Rattle.paired.specs.Frames.{bytes_at}
use Rattle.paired.specs.Records.{Entry}
use Rattle.paired.specs.Kept.{Layout, Markers, HasNoFloor, IsMarked, content_at, stored_records, is_sound_in, kept_by, IsTrueMarker}

-- a blob of the records, or of the values, of a section that P names
abbrev pub IsIndexOf : Layout → (ℕ → Type 0) → Key → Type 0
IsIndexOf l P q = (s : ℕ) × (s < 2 ^ 64) × P s × (q ≡ section_key l.index s)

abbrev pub IsValuesOf : Layout → (ℕ → Type 0) → Key → Type 0
IsValuesOf l P q = (s : ℕ) × (s < 2 ^ 64) × P s × (q ≡ section_key l.values s)

-- one or the other
abbrev pub IsBlobOf : Layout → (ℕ → Type 0) → Key → Type 0
IsBlobOf l P q = IsIndexOf l P q ⊎ IsValuesOf l P q

-- a blob of the markers
abbrev pub IsCopy : Layout → Key → Type 0
IsCopy l q = (side : Side) × (q ≡ blob_of l.metadata side)

-- a blob of such a section, or of the markers
abbrev pub IsOwn : Layout → (ℕ → Type 0) → Key → Type 0
IsOwn l P q = IsIndexOf l P q ⊎ (IsValuesOf l P q ⊎ IsCopy l q)

-- a blob of records of a section that P names, of values of one that Q names, or of the markers
abbrev pub IsOneOf : Layout → (P Q : ℕ → Type 0) → Key → Type 0
IsOneOf l P Q q = IsIndexOf l P q ⊎ (IsValuesOf l Q q ⊎ IsCopy l q)

-- one of the contents has these bytes at the place, as this one has
abbrev pub WasThere : List (List ℕ) → List ℕ → ℕ × ℕ → Type 0
WasThere contents c (at, n) = metadata.SomeByRecursion (λ p. bytes_at p at n ≡ bytes_at c at n) contents

-- Each seal that holds in the image holds over bytes which one of the contents has there that the blob had since it settled: of the slots of
-- index pages, of the frames that records name, and of both copies of the markers.
pub record NoChanceSeal (l : Layout) (d : Disk) (image : Image) : Type 0 where
  pub slots : (s : ℕ) → s < 2 ^ 64 → pages.NoChanceSeal l.seal l.page_size (past (d (section_key l.index s))) (content_at image l.index s)
  pub frames : (s : ℕ) → s < 2 ^ 64 → AllByRecursion (λ r. IsTrue (is_sound_in l image s r) → WasThere (past (d (section_key l.values s))) (content_at image l.values s) (l.place r)) (stored_records l image s)
  pub copies : IsTrue l.marked → (side : Side) → metadata.NoChanceSeal l.markers.seal (past (d (blob_of l.metadata side))) (bytes_of (image (blob_of l.metadata side)))

-- what is kept of a section is a prefix of its list that holds what was synced
pub record IsPrefix (list : List Entry) (least : ℕ) (found : List Entry) : Type 0 where
  pub same : found ≡ take (length found) list
  pub synced : least ≤ length found

-- the copies of an image hold these markers and this floor; of a pair without markers there are none, and no floor
pub record HoldMarkers (l : Layout) (image : Image) (markers : Markers) : Type 0 where
  pub copies : IsTrue l.marked → HoldMap l.markers (bytes_of (image (blob_of l.metadata Left))) (bytes_of (image (blob_of l.metadata Right))) markers
  pub none : l.marked ≡ false → markers ≡ empty_map

module _ (l : Layout) (wanted : ℕ → List Entry) (synced : ℕ → ℕ) (IsGoing : ℕ → Type 0) where
  -- The image holds markers with no floor, and all of them are true. It keeps of each section a prefix of its list with what was synced, or
  -- nothing of one that is going; and the records that stand behind those kept are the next ones of the list.
  pub record Keeps (image : Image) : Type 0 where
    pub markers : Markers
    pub held : HoldMarkers l image markers
    pub floor : HasNoFloor markers
    pub true_markers : (s m : ℕ) → IsMarked markers.entries s m → IsTrueMarker l image s m
    pub lists : (s : ℕ) → s < 2 ^ 64 → IsPrefix (wanted s) (synced s) (kept_by l image markers s)
        ⊎ ((kept_by l image markers s ≡ []) × IsGoing s)
    pub stored : (s : ℕ) → s < 2 ^ 64 → stored_records l image s ≡ take (length (stored_records l image s)) (map (λ e. e.stored) (wanted s))

  -- so does each image that a crash leaves without a chance seal
  abbrev pub Leaves : Disk → Type 0
  Leaves d = (image : Image) → IsCrashOf d image → NoChanceSeal l d image → Keeps image

  -- and no blob changes but those that the call may touch
  pub record LeavesAlone (MayTouch : Key → Type 0) (from d : Disk) : Type 0 where
    pub leaves : Leaves d
    pub others : (q : Key) → (MayTouch q → ⊥) → d q ≡ from q

  -- at each moment, also inside calls of the device
  abbrev pub Keeping : (Key → Type 0) → Timeline → Timeline → Type 0
  Keeping MayTouch old new = Always old new (LeavesAlone MayTouch (disk old))

-- No blob of the second kind is touched before those of the first kind are as the call leaves them.
abbrev pub InOrder : (Key → Type 0) → (Key → Type 0) → Timeline → Timeline → Type 0
InOrder First Second old new = Always old new (λ d. ((q : Key) → Second q → d q ≡ disk old q) ⊎ ((q : Key) → First q → d q ≡ disk new q))
