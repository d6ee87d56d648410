-- What an opening by markers promises of the disk: which images are lawful, what one image keeps of another, and what is refused.
use Rattle.std.specs.Prelude.{◌≡◌, ℕ, ◌-◌, ◌^◌, ◌<◌, ◌≤◌, ⊤, false, List, length, min, IsSome, IsTrue, take}
use Rattle.std.specs.List.{AllByRecursion}
use Rattle.blob_device.specs.Disk.{Key, Disk, Image, IsCrashOf, past, reads}
use Rattle.sealed_pages.specs.ChanceSeal as pages
use Rattle.section_manager.specs.Sections.{section_key}
use Rattle.section_manager.specs.Lasting.{IsSettling}
use Rattle.meta_store.specs.declared.error.Side.{Side}
use Rattle.meta_store.specs.Blobs.{blob_of}
use Rattle.meta_store.specs.Opening.{Opens}
use Rattle.paired.specs.Crashes.{HoldMarkers, IsOwn, NoChanceSeal, WasThere}
use Rattle.paired.specs.Kept.{Layout, Markers, HasNoFloor, IsMarked, content_at, stored_records, is_sound_in, kept_by, IsTrueMarker}
use Rattle.paired.specs.Pair.{HasNoBytes}
use Rattle.paired.specs.Places.{Follow}
use Rattle.paired.specs.Records.{Entry}

-- the image as the disk reads
abbrev pub as_read : Disk → Image
as_read d k = reads (d k)

-- ---- how what is kept of a section stands to what was kept of it before
abbrev pub Relation : Type 1
Relation = ℕ → List Entry → List Entry → Type 0

-- It holds where nothing changes, and of two changes one after the other where it holds of each.
pub record IsOrder (Rel : Relation) : Type 0 where
  pub itself : (s : ℕ) (list : List Entry) → Rel s list list
  pub onward : (s : ℕ) (last found list : List Entry) → Rel s last found → Rel s found list → Rel s last list

-- just that
abbrev pub Same : Relation
Same s found list = found ≡ list

-- the first entries of it
abbrev pub APrefix : Relation
APrefix s found list = found ≡ take (length found) list

-- whatever it is: of the records that are stored alone is then something said
abbrev pub Any : Relation
Any s found list = ⊤

-- just that of a section before this one, the first entries of another, and of this one at least so many
pub record IsUpTo (section least s : ℕ) (found list : List Entry) : Type 0 where
  pub prefix : found ≡ take (length found) list
  pub before : s < section → found ≡ list
  pub here : s ≡ section → min least (length list) ≤ length found

abbrev pub UpTo : ℕ → ℕ → Relation
UpTo section least = IsUpTo section least

module _ (l : Layout) where
  -- The value places of a section follow each other from 0 on, up to an end that a u64 counts.
  pub record IsInPlace (image : Image) (s : ℕ) : Type 0 where
    pub end : ℕ
    pub fits : end < 2 ^ 64
    pub follow : Follow l.place 0 (stored_records l image s) end

  -- The names in both partitions of sections have eight bytes.
  pub record AreNamed (image : Image) : Type 0 where
    pub index : (name : List ℕ) → IsSome (image (l.index, name)) → length name ≡ 8
    pub values : (name : List ℕ) → IsSome (image (l.values, name)) → length name ≡ 8

  -- An image is lawful with these markers: its names are in order, its copies hold the markers and no floor, each marker is true, and each
  -- section's value places are in order.
  pub record IsLawful (image : Image) (markers : Markers) : Type 0 where
    pub names : AreNamed image
    pub held : HoldMarkers l image markers
    pub floor : HasNoFloor markers
    pub true_markers : (s m : ℕ) → IsMarked markers.entries s m → IsTrueMarker l image s m
    pub places : (s : ℕ) → s < 2 ^ 64 → IsInPlace image s

  module _ (Rel : Relation) where
    -- The image `new` is lawful, and what it keeps of each section stands so to what `old` keeps. The records that it stores are the first ones
    -- that `old` stores.
    pub record KeepsBy (old : Image) (old_markers : Markers) (new : Image) : Type 0 where
      pub markers : Markers
      pub lawful : IsLawful new markers
      pub same : (s : ℕ) → s < 2 ^ 64 → Rel s (kept_by l new markers s) (kept_by l old old_markers s)
      pub stored : (s : ℕ) → s < 2 ^ 64 → stored_records l new s ≡ take (length (stored_records l new s)) (stored_records l old s)

    -- A crash of the disk `from` leaves the image `old` without a chance seal, and `new` keeps so much of what that keeps, if it is lawful.
    pub record IsKeptBy (from : Disk) (new : Image) : Type 0 where
      pub old : Image
      pub crash : IsCrashOf from old
      pub no_chance : NoChanceSeal l from old
      pub keeps : (markers : Markers) → IsLawful old markers → KeepsBy old markers new

    -- Each image that a crash leaves now without a chance seal keeps so much of what a crash of the disk `from` would have kept.
    abbrev pub RecallsBy : Disk → Disk → Type 0
    RecallsBy from d = (image : Image) → IsCrashOf d image → NoChanceSeal l d image → IsKeptBy from image

    -- and no blob changes but those that the call may touch
    pub record RecallsAloneBy (MayTouch : Key → Type 0) (from d : Disk) : Type 0 where
      pub recalls : RecallsBy from d
      pub others : (q : Key) → (MayTouch q → ⊥) → d q ≡ from q

    -- Each image that a crash leaves without a chance seal is lawful, and keeps so much of what the image `old` keeps.
    abbrev pub KeepsAllBy : Image → Markers → Disk → Type 0
    KeepsAllBy old markers d = (image : Image) → IsCrashOf d image → NoChanceSeal l d image → KeepsBy old markers image

  -- The image `new` is lawful, and keeps of each section what `old` keeps. The records that it stores are the first ones that `old` stores.
  abbrev pub KeepsAs : Image → Markers → Image → Type 0
  KeepsAs = KeepsBy Same

  -- A crash of the disk `from` leaves the image `old` without a chance seal, and `new` keeps what that keeps, if it is lawful.
  abbrev pub IsKeptFrom : Disk → Image → Type 0
  IsKeptFrom = IsKeptBy Same

  -- Each image that a crash leaves now without a chance seal keeps just what a crash of the disk `from` would have kept.
  abbrev pub Recalls : Disk → Disk → Type 0
  Recalls = RecallsBy Same

  -- and no blob changes but those that the call may touch
  abbrev pub RecallsAlone : (Key → Type 0) → Disk → Disk → Type 0
  RecallsAlone = RecallsAloneBy Same

  -- each slot of a section's index blob whose seal holds in the image is one that the blob had there
  abbrev pub NoChanceSlots : Disk → Image → ℕ → Type 0
  NoChanceSlots d image s = pages.NoChanceSeal l.seal l.page_size (past (d (section_key l.index s))) (content_at image l.index s)

  -- Each frame whose seal holds in the values as they read, and which a record names that a crash leaves, is one that the values had there.
  abbrev pub NamesNoChance : Disk → Type 0
  NamesNoChance d = (image : Image) → IsCrashOf d image → (s : ℕ) → s < 2 ^ 64 → NoChanceSlots d image s
      → AllByRecursion (λ r. IsTrue (is_sound_in l (as_read d) s r) → WasThere (past (d (section_key l.values s))) (content_at (as_read d) l.values s) (l.place r)) (stored_records l image s)

  -- The disk may be opened: as it reads it has no chance seal, also at the places that a crash's records name; and no crash brings bytes back into
  -- a section's blob that is not there.
  pub record MayBeOpened (d : Disk) : Type 0 where
    pub no_chance : NoChanceSeal l d (as_read d)
    pub named : NamesNoChance d
    pub absent : (s : ℕ) → s < 2 ^ 64 → (d (section_key l.index s)).there ≡ false → HasNoBytes (d (section_key l.index s))
    pub values_absent : (s : ℕ) → s < 2 ^ 64 → (d (section_key l.values s)).there ≡ false → HasNoBytes (d (section_key l.values s))

  -- Each image that a crash leaves without a chance seal is lawful, and keeps just what the image `old` keeps.
  abbrev pub KeepsAll : Image → Markers → Disk → Type 0
  KeepsAll = KeepsAllBy Same

  -- No byte changes: a section's blob is as before, or settled as it read; a copy of the markers is being opened; any other blob is as before.
  pub record OnlyOpens (from d : Disk) : Type 0 where
    pub index : (s : ℕ) → IsSettling l.index (2 ^ 64 - 1) from (section_key l.index s) (d (section_key l.index s))
    pub values : (s : ℕ) → IsSettling l.values (2 ^ 64 - 1) from (section_key l.values s) (d (section_key l.values s))
    pub copies : (side : Side) → Opens (from (blob_of l.metadata side)) (d (blob_of l.metadata side))
    pub others : (q : Key) → (IsOwn l (λ _. ⊤) q → ⊥) → d q ≡ from q
