-- What an opening of an archive finds, and how far it has come.
use Rattle.std.specs.Prelude.{◌≡◌, ◌≢◌, ◌⊎◌, ◌↔◌, ℕ, ◌+◌, ◌*◌, ◌<◌, ◌≤◌, ◌^◌, List, [], length, map, take, Contains, Ok}
use Rattle.std.specs.List.{AllByRecursion}
use Rattle.std.specs.List.Sorted.{IsStrictlySortedBy}
use Rattle.std.specs.Ordering.{nat_cmp}
use Rattle.blob_device.specs.Disk.{Disk, Image, IsCrashOf}
use Rattle.value_codec.specs.declared.key.Key8.{Key8}
use Rattle.meta_store.specs.Opening.{PairOn}
use Rattle.meta_store.specs.declared.pair.Chosen.{Chosen}
use Rattle.sealed_pages.specs.Reads.{IsShort}
use Rattle.section_manager.specs.Sections.{section_key}
use Rattle.sealed_pages.specs.declared.page_blob.PageBlob.{PageBlob}
use Rattle.paired.specs.Crashes.{HoldMarkers, NoChanceSeal}
use Rattle.paired.specs.Kept.{Layout, Markers}
use Rattle.paired.specs.Records as stored
use Rattle.paired.specs.Replaying.{Run, IsDue, records_given}
use Rattle.archives.specs.Filing.{Filing, kept_entries}
use Rattle.archives.specs.IndexRecord.{index_of}
use Rattle.archives.specs.Lawful.{Lawful}
use Rattle.archives.specs.Machine.{section_of}
use Rattle.archives.specs.Rows.{Row, row_in}

module _ {F S : Type 0} {gs : _} (key_size : ℕ) (rows : ℕ → List Row) (run : Run F (PageBlob S gs)) (d : Disk) where
  -- Of each section the first records that the replay gives are entered, and the others are still to be given.
  pub record HasEntered : Type 0 where
    pub listed : (s : ℕ) → rows s ≡ map (row_in key_size) (take (length (rows s)) (records_given run d s))
    pub due : (s p : ℕ) → IsDue run d s p ↔ ((length (rows s) ≤ p) × (p < length (records_given run d s)))

-- The image holds markers, and what it keeps with them has this.
abbrev pub OfKept : Filing → Image → ((ℕ → List stored.Entry) → Type 0) → Type 0
OfKept f image P = (markers : Markers) × HoldMarkers f.layout image markers × P (kept_entries f image markers)

-- a record lies in another section than its index
abbrev pub HasStray : ℕ → (ℕ → List stored.Entry) → Type 0
HasStray items kept =
    (s : ℕ) × (e : stored.Entry) × (s < 2 ^ 64) × Contains (kept s) e × (section_of items (index_of e.stored) ≢ s)

-- more sections have records, or a section has more, than the limits allow
abbrev pub IsPastLimits : {X : Type 0} → ℕ → ℕ → (ℕ → List X) → Type 0
IsPastLimits sections per_section kept =
    ((ss : List ℕ) × IsStrictlySortedBy nat_cmp ss × AllByRecursion (λ s. (s < 2 ^ 64) × (kept s ≢ [])) ss
    × (sections < length ss))
    ⊎ ((s : ℕ) × (s < 2 ^ 64) × (per_section < length (kept s)))

-- the markers hold the greatest version that there is
abbrev pub HasNoVersion : Layout → Disk → Type 0
HasNoVersion l d = (chosen : Chosen Key8 ℕ) × PairOn l.markers l.metadata d (Ok chosen) × (2 ^ 64 ≤ chosen.version + 1)

-- each image that a crash leaves without a chance seal is lawful
abbrev pub LeavesLawful : Filing → Disk → Type 0
LeavesLawful f d =
    (image : Image) → IsCrashOf d image → NoChanceSeal f.layout d image → (markers : Markers) × Lawful f image markers

-- Page k has bytes of a record below the floor of its section, in bytes, and no matching slot covers it as far as the
-- record goes.
pub record FindsShort (l : Layout) (floor_of : ℕ → ℕ) (d : Disk) (k : ℕ) : Type 0 where
  pub section : ℕ
  pub position : ℕ
  pub below : (position + 1) * l.record_size ≤ floor_of section
  pub page : IsShort l.seal l.page_size (d (section_key l.index section)).content
      (position * l.record_size) l.record_size k
