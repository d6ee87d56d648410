-- What the calls promise that remove sections of a pair.
use Rattle.std.specs.Prelude.{◌≡◌, ◌↔◌, ◌⊎◌, ◌≤◌, ◌<◌, ◌+◌, ◌^◌, ℕ, Bool, None, false, Result, IfOk, OnOk, OnErr, IsTrue}
use Rattle.std.specs.Result.{IsErrOf}
use Rattle.blob_device.specs.Disk.{Key, nothing}
use Rattle.blob_device.specs.Timeline.{Timeline, disk, Always}
use Rattle.blob_device.specs.declared.device.Device as device
use Rattle.blob_device.specs.declared.runtime.RError.TheVariants.{Fault}
use Rattle.meta_store.specs.Blobs.{blob_of, other_side}
use Rattle.sealed_pages.specs.declared.page_blob.PageBlob.{PageBlob}
use Rattle.sealed_pages.specs.declared.write_blob.WriteBlob.{WriteBlob}
use Rattle.section_manager.specs.declared.buffer.SectionBuffer as buffer
use Rattle.section_manager.specs.declared.journal.Error.{Error}
use Rattle.section_manager.specs.declared.journal.Error.TheVariants.{Full, Runtime}
use Rattle.section_manager.specs.declared.sealed.AppendFactory.{AppendFactory}
use Rattle.section_manager.specs.declared.unsealed.WriteFactory.{WriteFactory}
use Rattle.section_manager.specs.Lasting.{Going}
use Rattle.section_manager.specs.Refusing.{HasFailed}
use Rattle.section_manager.specs.Sections.{Sections, key_of, IsHeld, IsSame, SamePlace}
use Rattle.section_manager.specs.Setting.{Setting}
use Rattle.paired.specs.Crashes.{IsCopy, IsIndexOf, IsOneOf, IsOwn, IsValuesOf, InOrder, Keeping}
use Rattle.paired.specs.Kept.{IsSameLayout, IsMarked, marker_of}
use Rattle.paired.specs.Pair.{Pair, IsSafeOn, IsSoundOn, list_of, synced_length}
use Rattle.paired.specs.PairFaults.{AreDropped}
use Rattle.paired.specs.PairRefusing.{HasLostMarkers}
use Rattle.paired.specs.PairUse.{IsPairOver}

module _ {D S T C : Type 0} {gs : _} (pages : buffer.Ghosts (PageBlob S gs))
    (gives : AppendFactory S → Setting) (dev : device.Ghosts D)
    (p : Pair (AppendFactory S) (PageBlob S gs)) (codec : C) (old new : D)
    (see : T → Pair (AppendFactory S) (PageBlob S gs)) (config : T → C) where
  -- the sections of the pair's records, and of its values
  abbrev records : Sections (AppendFactory S) (PageBlob S gs)
  records = p.index.sections

  abbrev values : Sections WriteFactory WriteBlob
  values = p.values

  -- the disk's history before the call, and then
  abbrev early : Timeline
  early = dev.time old

  abbrev late : Timeline
  late = dev.time new

  module _ (least : ℕ) where
    -- a section below the bound has a marker
    abbrev IsAnyMarked : Type 0
    IsAnyMarked = (s : ℕ) × (s < least) × ((m : ℕ) × IsMarked p.store.entries s m)

    -- the newer copy of the markers
    abbrev newer : Key
    newer = blob_of p.layout.metadata (other_side p.store.older)

    -- The sections below a bound are removed: first their markers, durably, then their records, the
    -- oldest section first, then their values.
    pub record PrunesPair (was : T → Bool) (result : Result T Error) : Type 0 where
      -- the pair may be used
      pub over : IfOk result (λ r. IsPairOver pages gives dev (see r) new)
      -- it is sound, if it was
      pub sound : dev.Tells → IsSoundOn p (disk early)
          → IfOk result (λ r. IsSoundOn (see r) (disk late))
      -- it holds no section below the bound,
      pub removed : IfOk result (λ r. (s : ℕ) → s < least → ((see r).index.sections.held s ≡ None)
          × ((see r).values.held s ≡ None))
      -- and has the others as they were,
      pub stays : IfOk result (λ r. (s : ℕ) → least ≤ s → IsSame records (see r).index.sections s
          × IsSame values (see r).values s)
      -- with their lists,
      pub lists : dev.Tells
          → IfOk result (λ r. (s : ℕ) → least ≤ s → list_of (see r) (disk late) s
          ≡ list_of p (disk early) s)
      -- what was synced of them,
      pub synced : IfOk result (λ r. (s : ℕ) → least ≤ s → synced_length (see r) s
          ≡ synced_length p s)
      -- and their markers
      pub markers : IfOk result (λ r. (s : ℕ) → least ≤ s → marker_of (see r).store.entries s
          ≡ marker_of p.store.entries s)
      -- none below the bound has one
      pub unmarked : IfOk result (λ r. (s : ℕ) → s < least → marker_of (see r).store.entries s ≡ 0)
      -- the floor of the markers is no bound of sections yet: it stays
      pub marker_floor : IfOk result (λ r. (see r).store.floor ≡ p.store.floor)
      -- each marker was there
      pub marked : IfOk result (λ r. (s m : ℕ) → IsMarked (see r).store.entries s m → (least ≤ s)
          × IsMarked p.store.entries s m)
      -- the answer is whether a section was removed
      pub flag : IfOk result (λ r. IsTrue (was r) ↔ ((s : ℕ) × IsHeld records s × (s < least)))
      -- then the bound is the floor,
      pub floor : IfOk result (λ r. IsTrue (was r) → (see r).index.sections.floor ≡ least)
      -- and else the floor stays
      pub same_floor : IfOk result (λ r. was r ≡ false → (see r).index.sections.floor
          ≡ records.floor)
      -- places stay,
      pub place : IfOk result (λ r. SamePlace records (see r).index.sections
          × SamePlace values (see r).values)
      -- and so does the layout
      pub layout : IfOk result (λ r. IsSameLayout p.layout (see r).layout)
      -- the codec is told what it was
      pub codec_config : IfOk result (λ r. config r ≡ codec)
      -- at every moment, also where the call fails, each crash leaves of each section a prefix of its
      -- list that holds what was synced, or nothing of one below the bound; the markers are true; no
      -- blob changes but those of sections below the bound, and of the markers
      pub moments : dev.Tells → IsSafeOn p (disk early)
          → Keeping p.layout (list_of p (disk early)) (synced_length p) (λ s. s < least)
          (IsOwn p.layout (λ s. s < least)) early late
      -- the markers change only where one goes
      pub alone : dev.Tells → (IsAnyMarked → ⊥)
          → Always early late (λ d. (q : Key) → IsCopy p.layout q → d q ≡ disk early q)
      -- also of a pair that is not sound no other blob changes: of records and of values only those
      -- that are held below the bound;
      pub untouched : dev.Tells
          → Always early late (λ d. (q : Key)
          → (IsOneOf p.layout (λ s. (s < least) × IsHeld records s) (λ s. (s < least)
          × IsHeld values s) q → ⊥) → d q ≡ disk early q)
      -- the markers are written over their older copy
      pub newer_stays : dev.Tells → Always early late (λ d. d (newer) ≡ disk early (newer))
      -- markers change first,
      pub markers_first : dev.Tells
          → InOrder (IsCopy p.layout) (IsIndexOf p.layout (λ s. s < least)) early late
      -- then records, then values,
      pub order : dev.Tells
          → InOrder (IsIndexOf p.layout (λ s. s < least))
          (IsValuesOf p.layout (λ s. s < least)) early late
      -- the oldest section first,
      pub ascending : dev.Tells
          → Always early late (Going records (λ s. IsHeld records s
          × (s < least)) (λ s t. s < t) (disk early))
      -- of the values too
      pub values_ascending : dev.Tells
          → Always early late (Going values (λ s. IsHeld values s
          × (s < least)) (λ s t. s < t) (disk early))
      -- no blob is there below the bound,
      pub gone : dev.Tells → OnOk result ((s : ℕ) → s < least → s < 2 ^ 64
          → (IsTrue (disk late (key_of records s)).there → ⊥)
          × (IsTrue (disk late (key_of values s)).there → ⊥))
      -- and no crash brings one back
      pub gone_all : dev.Tells
          → OnOk result ((s : ℕ) → s < least
          → (IsHeld records s → disk late (key_of records s) ≡ nothing)
          × (IsHeld values s → disk late (key_of values s) ≡ nothing))
      -- where none is held below the bound, no call of the device is made
      pub idle : ((s : ℕ) → IsHeld records s → least ≤ s) → new ≡ old
      -- only entries of sections below the bound and of the markers change
      pub entries : (q : Key) → (IsOwn p.layout (λ s. s < least) q → ⊥) → dev.opened new q
          ≡ dev.opened old q
      -- `Full` comes exactly where a marker goes and the version of the markers would pass the greatest
      -- `u64`: only then,
      pub full : IsErrOf result Full → (2 ^ 64 ≤ p.store.version + 1) × IsAnyMarked
      -- and always, unless another error comes,
      pub no_version : 2 ^ 64 ≤ p.store.version + 1 → IsAnyMarked → OnOk result ⊥
      -- with no call of the device
      pub full_idle : IsErrOf result Full → new ≡ old
      -- the device fails in a call of the markers only where one goes,
      pub lost : HasLostMarkers result (dev.faults old) (dev.faults new) → IsAnyMarked
      -- and then no section has lost anything
      pub lost_first : dev.Tells → HasLostMarkers result (dev.faults old) (dev.faults new)
          → (q : Key) → (IsIndexOf p.layout (λ s. s < least) q
          ⊎ IsValuesOf p.layout (λ s. s < least) q) → disk late q ≡ disk early q
      -- where it fails later, the markers below the bound were dropped, durably
      pub fault : dev.Tells → IsErrOf result (Runtime Fault) → AreDropped p least (disk late)
      -- faults never fall
      pub faults : dev.faults old ≤ dev.faults new
      -- no other error comes than by memory, the device or the markers
      pub cause : OnErr result (IsErrOf result Full
          ⊎ (HasFailed result (dev.faults old) (dev.faults new)
          ⊎ HasLostMarkers result (dev.faults old) (dev.faults new)))
