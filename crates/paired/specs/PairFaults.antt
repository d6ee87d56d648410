-- Under which group the calls of a pair answer that the device failed: in a call of index or values, or in one of the markers.
use Rattle.std.specs.Prelude.{◌≡◌, ◌⊎◌, ℕ, ◌≤◌, Result}
use Rattle.std.specs.Result.{IsErrOf}
use Rattle.blob_device.specs.Disk.{Key, Disk}
use Rattle.blob_device.specs.Timeline.{Timeline, disk, Always}
use Rattle.blob_device.specs.declared.runtime.RError.TheVariants.{Fault}
use Rattle.sealed_pages.specs.Cutting.{StandsSettled}
use Rattle.sealed_pages.specs.declared.page_blob.PageBlob.{PageBlob}
use Rattle.section_manager.specs.Sections.{section_key, IsHeld}
use Rattle.section_manager.specs.declared.journal.Error.{Error}
use Rattle.section_manager.specs.declared.journal.Error.TheVariants.{Runtime, Full}
use Rattle.meta_store.specs.Store.{Store, Stands, contents_of}
use Rattle.value_codec.specs.declared.key.Key8.{Key8}
use Rattle.paired.specs.Kept.{IsMarked, marker_of}
use Rattle.paired.specs.Crashes.{IsCopy, Leaves}
use Rattle.paired.specs.Pair.{Pair, IsSafeOn, list_of, length_of, synced_length}
use Rattle.paired.specs.PairRefusing.{HasLostMarkers}

-- A call came to the markers and ended there: their version had no next one, or the device failed in a call of theirs.
abbrev pub StopsAtMarkers : {T : Type 0} → Result T Error → ℕ → ℕ → Type 0
StopsAtMarkers result before now = IsErrOf result Full ⊎ HasLostMarkers result before now

module _ {F S : Type 0} {gs : _} (p : Pair F (PageBlob S gs)) (IsNamed : ℕ → Type 0) where
  -- the blobs of the named sections that are held have settled
  pub record StandSettled (d : Disk) : Type 0 where
    pub index : (s : ℕ) → IsNamed s → IsHeld p.index.sections s → StandsSettled (d (section_key p.layout.index s))
    pub values : (s : ℕ) → IsNamed s → IsHeld p.values s → StandsSettled (d (section_key p.layout.values s))

  -- how much is synced of each section after a sync of the named ones: of these all
  pub record IsSyncedAfter (synced : ℕ → ℕ) : Type 0 where
    pub named : (s : ℕ) → IsNamed s → synced s ≡ length_of p s
    pub others : (s : ℕ) → (IsNamed s → ⊥) → synced s ≡ synced_length p s

  -- Sections settle first, then markers. Where the device failed in a call of index or values, no copy of the markers has changed, at no
  -- moment. Where the markers were full, or it failed in one of their calls, the named sections have settled, and each crash leaves their
  -- whole lists.
  pub record FaultsInOrder {T : Type 0} (result : Result T Error) (before now : ℕ) (old new : Timeline) : Type 0 where
    pub sections : IsErrOf result (Runtime Fault) → Always old new (λ d. (q : Key) → IsCopy p.layout q → d q ≡ disk old q)
    pub stands_settled : StopsAtMarkers result before now → StandSettled (disk new)
    pub leaves : StopsAtMarkers result before now → IsSafeOn p (disk old) → (synced : ℕ → ℕ) → IsSyncedAfter synced → Leaves p.layout (list_of p (disk old)) synced (λ _. ⊥) (disk new)

-- The markers below the bound were dropped, durably: the copies have settled, and hold the others and the floor, as they were, and no more.
pub record AreDropped {F B : Type 0} (p : Pair F B) (least : ℕ) (d : Disk) : Type 0 where
  pub store : Store Key8 ℕ
  pub here : store.partition ≡ p.layout.metadata
  pub stands : Stands p.layout.markers store (contents_of store) d
  pub marked : (s m : ℕ) → IsMarked store.entries s m → (least ≤ s) × IsMarked p.store.entries s m
  pub kept : (s : ℕ) → least ≤ s → marker_of store.entries s ≡ marker_of p.store.entries s
  pub floor : store.floor ≡ p.store.floor
