-- What a sync of sections makes of a pair, and leaves of its blobs at each moment.
use Rattle.std.specs.Prelude.{◌≡◌, ◌≢◌, ◌↔◌, ◌⊎◌, ℕ}
use Rattle.blob_device.specs.Disk.{Key}
use Rattle.blob_device.specs.Timeline.{Timeline, disk, Always}
use Rattle.sealed_pages.specs.declared.page_blob.PageBlob.{PageBlob}
use Rattle.section_manager.specs.Sections.{IsHeld, IsSame, SameBounds}
use Rattle.meta_store.specs.Blobs.{blob_of, other_side}
use Rattle.meta_store.specs.Crashes.{Mapping}
use Rattle.meta_store.specs.Store.{contents_of}
use Rattle.paired.specs.glob.Sections as glob
use Rattle.paired.specs.Kept.{Markers, IsMarked, IsSameLayout, marker_of}
use Rattle.paired.specs.Crashes.{IsCopy, IsIndexOf, IsOwn, IsValuesOf, InOrder, Keeping}
use Rattle.paired.specs.Pair.{Pair, IsSafeOn, IsMoving, list_of, length_of, synced_length}

-- The markers of sections that are not active were moved, in one write of the copies.
pub record MovesMarkers {F B : Type 0} (p : Pair F B) (IsActive : ℕ → Type 0) (old new : Timeline) : Type 0 where
  -- to these
  pub moved : Markers
  -- each was there, or is what was synced of its section
  pub marked : (s m : ℕ) → IsMarked moved.entries s m
      → IsMarked p.store.entries s m ⊎ ((IsActive s → ⊥) × (m ≡ synced_length p s))
  -- the floor stays
  pub floor : moved.floor ≡ p.store.floor
  -- At each moment, also where the call fails, the copies hold the markers as they were, or these;
  -- no other blob changes.
  pub moments : Mapping p.layout.markers p.layout.metadata (contents_of p.store) moved old new

module _ {F S : Type 0} {gs : _} (p : Pair F (PageBlob S gs)) (IsNamed IsActive : ℕ → Type 0) where
  -- The pair r is what a sync of the named sections made of p, which moved the markers of the sections that are not active.
  pub record IsSyncOf (r : Pair F (PageBlob S gs)) : Type 0 where
    pub lengths : (s : ℕ) → length_of r s ≡ length_of p s
    pub sizes : (s : ℕ) → glob.section_size r.values s ≡ glob.section_size p.values s
    pub held : (s : ℕ) → IsHeld r.index.sections s ↔ IsHeld p.index.sections s
    pub values_held : (s : ℕ) → IsHeld r.values s ↔ IsHeld p.values s
    -- What was synced of the named sections is all of them. No other section changes.
    pub named : (s : ℕ) → IsNamed s → synced_length r s ≡ length_of p s
    pub settled : (s : ℕ) → IsNamed s → IsHeld p.values s → glob.IsAllSettled r.values s
    pub same : (s : ℕ) → (IsNamed s → ⊥) → IsSame p.index.sections r.index.sections s × IsSame p.values r.values s
    pub others : (s : ℕ) → (IsNamed s → ⊥) → synced_length r s ≡ synced_length p s
    -- The marker of each section that is not active is then what was synced of it; no other moves. Each marker was there, or was moved to
    -- another number. The floor of the markers stays.
    pub markers : (s : ℕ) → (IsActive s → ⊥) → marker_of r.store.entries s ≡ synced_length r s
    pub active : (s : ℕ) → IsActive s → marker_of r.store.entries s ≡ marker_of p.store.entries s
    pub marked : (s m : ℕ) → IsMarked r.store.entries s m → IsMarked p.store.entries s m ⊎ ((IsActive s → ⊥) × (m ≡ synced_length r s) × (m ≢ marker_of p.store.entries s))
    pub still : (((s : ℕ) × IsMoving p IsNamed IsActive s) → ⊥) → r.store ≡ p.store
    pub marker_floor : r.store.floor ≡ p.store.floor
    pub bounds : SameBounds p.index.sections r.index.sections × SameBounds p.values r.values
    pub layout : IsSameLayout p.layout r.layout

  -- What such a sync leaves at each moment, also where it fails.
  pub record SyncKeeps (old new : Timeline) : Type 0 where
    -- Each crash leaves of each section of a safe pair a prefix of its list that holds what was synced; the markers are true; no blob changes but
    -- those of the named sections, and of the markers where one moves.
    pub moments : IsSafeOn p (disk old) → Keeping p.layout (list_of p (disk old)) (synced_length p) (λ _. ⊥) (IsOwn p.layout IsNamed) old new
    pub alone : (((s : ℕ) × IsMoving p IsNamed IsActive s) → ⊥) → Always old new (λ d. (q : Key) → IsCopy p.layout q → d q ≡ disk old q)
    -- Also of a pair that is not sound: the markers are written over their older copy, and no other blob changes.
    pub untouched : Always old new (λ d. (q : Key) → (IsOwn p.layout (λ s. IsNamed s × IsHeld p.index.sections s) q → ⊥) → d q ≡ disk old q)
    pub newer_stays : Always old new (λ d. d (blob_of p.layout.metadata (other_side p.store.older)) ≡ disk old (blob_of p.layout.metadata (other_side p.store.older)))
    -- Records first, then values, then markers.
    pub order : InOrder (IsIndexOf p.layout IsNamed) (IsValuesOf p.layout IsNamed) old new
    pub markers_last : InOrder (λ q. IsIndexOf p.layout IsNamed q ⊎ IsValuesOf p.layout IsNamed q) (IsCopy p.layout) old new
