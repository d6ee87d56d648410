-- What the calls promise that settle sections of a pair.
use Rattle.std.specs.Prelude.{◌≡◌, ◌↔◌, ◌⊎◌, ◌≤◌, ◌+◌, ◌^◌, ℕ, Result, IfOk, OnOk, OnErr}
use Rattle.std.specs.Result.{IsErrOf}
use Rattle.blob_device.specs.Disk.{Key}
use Rattle.blob_device.specs.Timeline.{Timeline, disk, Always}
use Rattle.blob_device.specs.declared.device.Device as device
use Rattle.sealed_pages.specs.declared.page_blob.PageBlob.{PageBlob}
use Rattle.sealed_pages.specs.declared.write_blob.WriteBlob.{WriteBlob}
use Rattle.section_manager.specs.declared.buffer.SectionBuffer as buffer
use Rattle.section_manager.specs.declared.journal.Error.{Error}
use Rattle.section_manager.specs.declared.journal.Error.TheVariants.{Full}
use Rattle.section_manager.specs.declared.sealed.AppendFactory.{AppendFactory}
use Rattle.section_manager.specs.declared.unsealed.WriteFactory.{WriteFactory}
use Rattle.section_manager.specs.Lasting.{IsUnsettled}
use Rattle.section_manager.specs.managing.Settling.{IsAnyBelow}
use Rattle.section_manager.specs.Refusing.{HasFailed, IsPruned}
use Rattle.section_manager.specs.Sections.{Sections, IsHeld, IsSame, SameBounds}
use Rattle.section_manager.specs.Setting.{Setting}
use Rattle.paired.specs.Crashes.{IsBlobOf, IsIndexOf, IsOwn, IsValuesOf, InOrder, Keeping}
use Rattle.paired.specs.Kept.{IsSameLayout}
use Rattle.paired.specs.Pair.{Pair, IsSafeOn, IsSoundOn, IsMoving, list_of, length_of, synced_length}
use Rattle.paired.specs.PairFaults.{StandSettled, FaultsInOrder}
use Rattle.paired.specs.PairRefusing.{HasLostMarkers}
use Rattle.paired.specs.PairSync.{IsSyncOf, SyncKeeps}
use Rattle.paired.specs.PairUse.{IsPairOver}
use Rattle.paired.specs.glob.Sections as glob

module _ {D S T C : Type 0} {gs : _} (pages : buffer.Ghosts (PageBlob S gs))
    (gives : AppendFactory S → Setting) (dev : device.Ghosts D)
    (p : Pair (AppendFactory S) (PageBlob S gs)) (codec : C) (old new : D)
    (see : T → Pair (AppendFactory S) (PageBlob S gs)) (config : T → C) where
  -- the sections of the pair's records, and of its values
  abbrev records : Sections (AppendFactory S) (PageBlob S gs)
  records = p.index.sections

  abbrev values : Sections WriteFactory WriteBlob
  values = p.values

  -- the disk's history before the call, and then
  abbrev early : Timeline
  early = dev.time old

  abbrev late : Timeline
  late = dev.time new

  module _ (IsNamed IsActive : ℕ → Type 0) where
    -- a marker moves
    abbrev IsAnyMoving : Type 0
    IsAnyMoving = (s : ℕ) × IsMoving p IsNamed IsActive s

    -- The named sections are settled, records first, then values; then the markers of the sections that
    -- are not active are moved.
    pub record SyncsTracked (result : Result T Error) : Type 0 where
      -- the pair may be used
      pub over : IfOk result (λ r. IsPairOver pages gives dev (see r) new)
      -- it is sound, if it was,
      pub sound : dev.Tells → IsSoundOn p (disk early)
          → IfOk result (λ r. IsSoundOn (see r) (disk late))
      -- and its lists are as before
      pub lists : dev.Tells
          → IfOk result (λ r. (s : ℕ) → list_of (see r) (disk late) s ≡ list_of p (disk early) s)
      -- all of the named sections is synced, and the markers of the sections that are not active are
      -- moved to what was synced of these
      pub synced : IfOk result (λ r. IsSyncOf p IsNamed IsActive (see r))
      -- the codec is told what it was
      pub codec_config : IfOk result (λ r. config r ≡ codec)
      -- at every moment, also where the call fails, each crash leaves of each section a prefix of its
      -- list that holds what was synced, and markers that are true; records change first, then values,
      -- then markers, and no other blob
      pub moments : dev.Tells → SyncKeeps p IsNamed IsActive early late
      -- where one of the named sections is below the floor, the call is refused, and only then,
      pub guard : IsPruned result records.floor ↔ IsAnyBelow IsNamed records.floor
      -- with no call of the device
      pub refuses : IsAnyBelow IsNamed records.floor → new ≡ old
      -- where nothing is left to settle and no marker moves, no call of the device is made
      pub idle : ((s : ℕ) → IsNamed s → IsUnsettled pages records s ⊎ glob.IsUnsettled values s → ⊥)
          → (IsAnyMoving → ⊥) → new ≡ old
      -- only entries of the named sections and of the markers change
      pub entries : (q : Key) → (IsOwn p.layout IsNamed q → ⊥) → dev.opened new q ≡ dev.opened old q
      -- `Full` comes exactly where a marker moves and the version of the markers would pass the
      -- greatest `u64`:
      pub full : IsErrOf result Full → (2 ^ 64 ≤ p.store.version + 1) × IsAnyMoving
      -- only then, and always, unless another error comes
      pub no_version : 2 ^ 64 ≤ p.store.version + 1 → IsAnyMoving → OnOk result ⊥
      -- the device fails in a call of the markers only where one moves
      pub lost : HasLostMarkers result (dev.faults old) (dev.faults new) → IsAnyMoving
      -- where it fails in a call of index or values, no copy of the markers has changed; where the
      -- markers are full, or it fails in one of their calls, the named sections have settled
      pub fault : dev.Tells
          → FaultsInOrder p IsNamed result (dev.faults old) (dev.faults new) early late
      -- faults never fall
      pub faults : dev.faults old ≤ dev.faults new
      -- no other error comes than by memory, the device or the markers
      pub cause : OnErr result (IsPruned result records.floor
          ⊎ (IsErrOf result Full
          ⊎ (HasFailed result (dev.faults old) (dev.faults new)
          ⊎ HasLostMarkers result (dev.faults old) (dev.faults new))))

  module _ (IsNamed : ℕ → Type 0) where
    -- The named sections are settled, records first, then values. No marker moves.
    pub record SettlesPair (result : Result T Error) : Type 0 where
      -- the pair may be used
      pub over : IfOk result (λ r. IsPairOver pages gives dev (see r) new)
      -- it is sound, if it was,
      pub sound : dev.Tells → IsSoundOn p (disk early)
          → IfOk result (λ r. IsSoundOn (see r) (disk late))
      -- and its lists are as before,
      pub lists : dev.Tells
          → IfOk result (λ r. (s : ℕ) → list_of (see r) (disk late) s ≡ list_of p (disk early) s)
      -- as long,
      pub lengths : IfOk result (λ r. (s : ℕ) → length_of (see r) s ≡ length_of p s)
      -- with as many bytes of values
      pub sizes : IfOk result (λ r. (s : ℕ) → glob.section_size (see r).values s
          ≡ glob.section_size values s)
      -- sections are held as before,
      pub held : IfOk result (λ r. (s : ℕ) → IsHeld (see r).index.sections s ↔ IsHeld records s)
      -- also of the values
      pub values_held : IfOk result (λ r. (s : ℕ) → IsHeld (see r).values s ↔ IsHeld values s)
      -- those that are not named stay
      pub same : IfOk result (λ r. (s : ℕ) → (IsNamed s → ⊥)
          → IsSame records (see r).index.sections s × IsSame values (see r).values s)
      -- all of the named ones is synced,
      pub named : IfOk result (λ r. (s : ℕ) → IsNamed s → synced_length (see r) s ≡ length_of p s)
      -- and their values count as settled
      pub settled : IfOk result (λ r. (s : ℕ) → IsNamed s → IsHeld values s
          → glob.IsAllSettled (see r).values s)
      -- of the others what was synced stays
      pub others : IfOk result (λ r. (s : ℕ) → (IsNamed s → ⊥) → synced_length (see r) s
          ≡ synced_length p s)
      -- no marker moves
      pub store : IfOk result (λ r. (see r).store ≡ p.store)
      -- floors, ceilings and places stay,
      pub bounds : IfOk result (λ r. SameBounds records (see r).index.sections
          × SameBounds values (see r).values)
      -- and so does the layout
      pub layout : IfOk result (λ r. IsSameLayout p.layout (see r).layout)
      -- the codec is told what it was
      pub codec_config : IfOk result (λ r. config r ≡ codec)
      -- at every moment, also where the call fails, each crash leaves of each section of a safe pair a
      -- prefix of its list that holds what was synced
      pub moments : dev.Tells → IsSafeOn p (disk early)
          → Keeping p.layout (list_of p (disk early)) (synced_length p) (λ _. ⊥)
          (IsBlobOf p.layout IsNamed) early late
      -- only blobs of named sections change,
      pub alone : dev.Tells
          → Always early late (λ d. (q : Key) → (IsBlobOf p.layout IsNamed q → ⊥) → d q
          ≡ disk early q)
      -- of those only such as are held,
      pub untouched : dev.Tells
          → Always early late (λ d. (q : Key)
          → (IsBlobOf p.layout (λ s. IsNamed s × IsHeld records s) q → ⊥) → d q ≡ disk early q)
      -- and records change before values
      pub order : dev.Tells
          → InOrder (IsIndexOf p.layout IsNamed) (IsValuesOf p.layout IsNamed) early late
      -- then their blobs have settled
      pub rests : dev.Tells → OnOk result (StandSettled p IsNamed (disk late))
      -- where one of the named sections is below the floor, the call is refused, and only then,
      pub guard : IsPruned result records.floor ↔ IsAnyBelow IsNamed records.floor
      -- with no call of the device
      pub refuses : IsAnyBelow IsNamed records.floor → new ≡ old
      -- where nothing is left to settle, no call of the device is made
      pub idle : ((s : ℕ) → IsNamed s → IsUnsettled pages records s ⊎ glob.IsUnsettled values s → ⊥)
          → new ≡ old
      -- only entries of named sections change
      pub entries : (q : Key) → (IsBlobOf p.layout IsNamed q → ⊥) → dev.opened new q
          ≡ dev.opened old q
      -- faults never fall, and no other error comes than by memory or the device
      pub faults : dev.faults old ≤ dev.faults new
      pub cause : OnErr result (IsPruned result records.floor
          ⊎ HasFailed result (dev.faults old) (dev.faults new))
