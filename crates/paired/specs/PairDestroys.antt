-- What the call promises that removes all of a pair.
use Rattle.std.specs.Prelude.{◌≡◌, ◌⊎◌, ◌≤◌, ◌<◌, ◌^◌, ⊤, ℕ, Result, OnOk, OnErr, IsTrue}
use Rattle.std.specs.Result.{IsErrOf}
use Rattle.blob_device.specs.Disk.{Key, nothing}
use Rattle.blob_device.specs.Timeline.{Timeline, disk, Always}
use Rattle.blob_device.specs.declared.device.Device as device
use Rattle.blob_device.specs.declared.runtime.RError.TheVariants.{Fault}
use Rattle.meta_store.specs.declared.error.Side.{Side}
use Rattle.meta_store.specs.Blobs.{blob_of}
use Rattle.meta_store.specs.Removing.{Removes}
use Rattle.sealed_pages.specs.declared.page_blob.PageBlob.{PageBlob}
use Rattle.sealed_pages.specs.declared.write_blob.WriteBlob.{WriteBlob}
use Rattle.section_manager.specs.declared.journal.Error.{Error}
use Rattle.section_manager.specs.declared.journal.Error.TheVariants.{Runtime}
use Rattle.section_manager.specs.declared.sealed.AppendFactory.{AppendFactory}
use Rattle.section_manager.specs.declared.unsealed.WriteFactory.{WriteFactory}
use Rattle.section_manager.specs.Lasting.{Going}
use Rattle.section_manager.specs.Refusing.{HasFailed}
use Rattle.section_manager.specs.Sections.{Sections, key_of, IsHeld}
use Rattle.paired.specs.Crashes.{IsCopy, IsIndexOf, IsOneOf, IsOwn, IsValuesOf, InOrder, Keeping}
use Rattle.paired.specs.Pair.{Pair, IsSafeOn, list_of, synced_length}
use Rattle.paired.specs.PairRefusing.{HasLostMarkers}

module _ {D S : Type 0} {gs : _} (dev : device.Ghosts D)
    (p : Pair (AppendFactory S) (PageBlob S gs)) (old new : D) where
  -- the sections of the pair's records, and of its values
  abbrev records : Sections (AppendFactory S) (PageBlob S gs)
  records = p.index.sections

  abbrev values : Sections WriteFactory WriteBlob
  values = p.values

  -- the disk's history before the call, and then
  abbrev early : Timeline
  early = dev.time old

  abbrev late : Timeline
  late = dev.time new

  -- The markers are removed, then all records, then all values.
  pub record DestroysPair {T : Type 0} (result : Result T Error) : Type 0 where
    -- at every moment, also where the call fails, each crash leaves of each section a prefix of its
    -- list that holds what was synced, or nothing; the markers are true; no blob changes but the pair's
    pub moments : dev.Tells → IsSafeOn p (disk early)
        → Keeping p.layout (list_of p (disk early)) (synced_length p) (λ _. ⊤)
        (IsOwn p.layout (λ _. ⊤)) early late
    -- also of a pair that is not sound no other blob changes: of records and of values only those that
    -- are held;
    pub untouched : dev.Tells → Always early late (λ d. (q : Key)
        → (IsOneOf p.layout (IsHeld records) (IsHeld values) q → ⊥) → d q ≡ disk early q)
    -- markers go first,
    pub markers_first : dev.Tells
        → InOrder (IsCopy p.layout) (IsIndexOf p.layout (λ _. ⊤)) early late
    -- then records, then values,
    pub order : dev.Tells
        → InOrder (IsIndexOf p.layout (λ _. ⊤)) (IsValuesOf p.layout (λ _. ⊤)) early late
    -- the oldest section first,
    pub ascending : dev.Tells
        → Always early late (Going records (IsHeld records) (λ s t. s < t) (disk early))
    -- of the values too
    pub values_ascending : dev.Tells
        → Always early late (Going values (IsHeld values) (λ s t. s < t) (disk early))
    -- the markers are removed as they are: nothing is written to a copy first
    pub copies : dev.Tells → Always early late (λ d. (side : Side)
        → Removes (disk early (blob_of p.layout.metadata side)) (d (blob_of p.layout.metadata side)))
    -- no blob of a section is there then,
    pub gone : dev.Tells → OnOk result ((s : ℕ) → s < 2 ^ 64
        → (IsTrue (disk late (key_of records s)).there → ⊥)
        × (IsTrue (disk late (key_of values s)).there → ⊥))
    -- no crash brings one back,
    pub gone_all : dev.Tells → OnOk result ((s : ℕ)
        → (IsHeld records s → disk late (key_of records s) ≡ nothing)
        × (IsHeld values s → disk late (key_of values s) ≡ nothing))
    -- and neither the markers
    pub markers_gone : dev.Tells
        → OnOk result ((q : Key) → IsCopy p.layout q → disk late q ≡ nothing)
    -- only entries of the pair change
    pub entries : (q : Key) → (IsOwn p.layout (λ _. ⊤) q → ⊥) → dev.opened new q ≡ dev.opened old q
    -- faults never fall
    pub faults : dev.faults old ≤ dev.faults new
    -- where the device fails in the call of the markers, no section has lost anything;
    pub lost_first : dev.Tells → HasLostMarkers result (dev.faults old) (dev.faults new) → (q : Key)
        → (IsIndexOf p.layout (λ _. ⊤) q ⊎ IsValuesOf p.layout (λ _. ⊤) q)
        → disk late q ≡ disk early q
    -- where it fails later, the markers are gone
    pub fault : dev.Tells → IsErrOf result (Runtime Fault)
        → (q : Key) → IsCopy p.layout q → disk late q ≡ nothing
    -- no other error comes than by memory, the device or the markers
    pub cause : OnErr result (HasFailed result (dev.faults old) (dev.faults new)
        ⊎ HasLostMarkers result (dev.faults old) (dev.faults new))
