-- What the check of one section of an opened fixed journal asks, and what it answers: whether the
-- last of so many items is sealed, and is one.
use Rattle.std.specs.Prelude.{◌≡◌, ◌≢◌, ◌⊎◌, ◌↔◌, ℕ, ◌-◌, ◌*◌, ◌^◌, ◌<◌, ◌≤◌, List, Option, Some, None, Result, Err, IfOk, OnOk, OnErr, IsTrue, IsSomeAnd}
use Rattle.std.specs.Result.{IsErrOf}
use Rattle.blob_device.specs.Counts.{Rose}
use Rattle.blob_device.specs.Disk.{Key, Blob, Disk}
use Rattle.blob_device.specs.Opened.{OpenedList}
use Rattle.blob_device.specs.Timeline.{disk}
use Rattle.blob_device.specs.declared.device.Device as device
use Rattle.blob_device.specs.declared.runtime.RError.{RError}
use Rattle.blob_device.specs.declared.runtime.RError.TheVariants as runtime
use Rattle.value_codec.specs.declared.codec.Error as codec
use Rattle.sealed_pages.specs.declared.page_blob.PageBlob.{PageBlob}
use Rattle.sealed_pages.specs.Entries.{IsOpenAt}
use Rattle.sealed_pages.specs.Reading.{Unchanged}
use Rattle.sealed_pages.specs.Reads.{IsCovered, IsShort, PassesSize}
use Rattle.sealed_pages.specs.SealedPrefix.{adopted_size, data_from}
use Rattle.sealed_pages.specs.View.{view}
use Rattle.section_manager.specs.Entries.{OnlyOwnEntry}
use Rattle.section_manager.specs.Refusing.{HasFailed}
use Rattle.section_manager.specs.Sections.{Sections, section_key, IsHeld, IsOver}
use Rattle.section_manager.specs.Setting.{Setting}
use Rattle.section_manager.specs.declared.buffer.SectionBuffer as buffer
use Rattle.section_manager.specs.declared.journal.Damage.{Damage}
use Rattle.section_manager.specs.declared.journal.Error.{Error}
use Rattle.section_manager.specs.declared.journal.Error.TheVariants.{Codec, Corruption, Mem}
use Rattle.segments.specs.declared.fixed.preflighting.Target.{Target}
use Rattle.segments.specs.FixedFloors.{Floors, AreAdopted, IsBoundary, IsRefused, IsUnsealed}

-- The sections m stand as an opening made them.
pub record AreCheckable {F S : Type 0} {gs : _} (g : buffer.Ghosts (PageBlob S gs))
    (gives : F → Setting) (seal : List ℕ → ℕ) (told : Type 0) (m : Sections F (PageBlob S gs))
    (opened : OpenedList) (d : Disk) : Type 0 where
  -- none was pruned
  pub floor : m.floor ≡ 0
  -- they are those of the partition
  pub over : IsOver g gives told m opened d
  -- each is held by a buffer as adopting makes it
  pub adopted : told → AreAdopted seal m d
  -- those are held that are there, up to the bound
  pub held : told → (s : ℕ) → s < 2 ^ 64 → IsHeld m s
      ↔ (IsTrue (d (section_key m.partition s)).there × (s ≤ m.ceiling))

-- ---- what a check makes of the floors

module _ {A F S T : Type 0} {gs : _} (see : T → Floors A)
    (sections_of : T → Sections F (PageBlob S gs)) (floor_of : ℕ → ℕ)
    (boundary_of : ℕ → Option (Option A)) (aim : Option Target)
    (m : Sections F (PageBlob S gs)) (s : ℕ) where
  -- The section got a floor of so many bytes, with this last item below it.
  pub record TakesFloor (bytes : ℕ) (item : Option A) (r : Result T Error) : Type 0 where
    pub floor : IfOk r (λ x. (see x).floor_of s ≡ bytes)
    pub boundary : IfOk r (λ x. (see x).boundary_of s ≡ Some item)
    -- the others keep theirs
    pub floors : IfOk r (λ x. (q : ℕ) → q ≢ s → (see x).floor_of q ≡ floor_of q)
    pub boundaries : IfOk r (λ x. (q : ℕ) → q ≢ s → (see x).boundary_of q ≡ boundary_of q)
    -- nothing else changes
    pub sections : IfOk r (λ x. sections_of x ≡ m)
    pub target : IfOk r (λ x. (see x).target ≡ aim)
    -- nothing is answered but want of memory
    pub cause : OnErr r (IsErrOf r Mem)

  module _ {D : Type 0} (seal : List ℕ → ℕ) (P size : ℕ) (partition : List ℕ)
      (spelling : A → List ℕ) (accepted : A → Unit {0} → Type 0)
      (refusal : List ℕ → Unit {0} → Option codec.Error) (dev : device.Ghosts D)
      (g : buffer.Ghosts (PageBlob S gs)) (gives : F → Setting) (items : ℕ) (old new : D) where
    -- The marker of so many items of the section was checked.
    pub record ChecksMarker (r : Result T Error) : Type 0 where
      -- the sections are those of the partition
      pub over : IsOver g gives dev.Tells m (dev.opened new) (disk (dev.time new))
      -- and stay
      pub sections : IfOk r (λ x. sections_of x ≡ m)
      -- so does where a checkpoint cuts
      pub target : IfOk r (λ x. (see x).target ≡ aim)
      -- the section's floor is of so many items
      pub floor : IfOk r (λ x. (see x).floor_of s ≡ items * size)
      -- which a u64 counts
      pub fits : OnOk r (items * size < 2 ^ 64)
      -- and its blob is there
      pub there : dev.Tells → OnOk r (IsTrue (disk (dev.time old) (section_key partition s)).there)
      -- the last item below it is noted, if there is one
      pub empty : items ≡ 0 → IfOk r (λ x. (see x).boundary_of s ≡ Some None)
      pub boundary : dev.Tells → 0 < items → IfOk r (λ x. IsSomeAnd ((see x).boundary_of s)
          (λ o. IsSomeAnd o (IsBoundary seal P size spelling accepted
          (disk (dev.time old) (section_key partition s)).content items)))
      -- the other sections keep theirs
      pub floors : IfOk r (λ x. (q : ℕ) → q ≢ s → (see x).floor_of q ≡ floor_of q)
      pub boundaries : IfOk r (λ x. (q : ℕ) → q ≢ s → (see x).boundary_of q ≡ boundary_of q)
      -- the damage is the section's
      pub damage : dev.Tells → (x : Damage) → IsErrOf r (Corruption x) → (x.section ≡ s)
          × IsRefused seal P size (disk (dev.time old) (section_key partition s)) items x
      -- the codec's error is of its last item's bytes, where matching slots cover them
      pub refused : dev.Tells → (e : codec.Error) → IsErrOf r (Codec e) → (0 < items)
          × (refusal (data_from P (view (disk (dev.time old) (section_key partition s)).content)
          ((items - 1) * size) size) tt ≡ Some e)
          × IsCovered seal P (disk (dev.time old) (section_key partition s)).content
          ((items - 1) * size) size
      -- no blob changes
      pub unchanged : dev.Tells → Unchanged (dev.time old) (dev.time new)
      -- no other blob is read
      pub entries : OnlyOwnEntry (section_key partition s) (dev.opened old) (dev.opened new)
      -- faults are counted on
      pub faults : dev.faults old ≤ dev.faults new
      -- nothing else is answered but a fault or want of memory
      pub cause : OnErr r (((x : Damage) × IsErrOf r (Corruption x))
          ⊎ (((e : codec.Error) × IsErrOf r (Codec e))
          ⊎ HasFailed r (dev.faults old) (dev.faults new)))

-- ---- what is read of the section's blob

module _ {D : Type 0} (seal : List ℕ → ℕ) (P size : ℕ) (dev : device.Ghosts D) (k : Key)
    (end : ℕ) (old new : D) (items : ℕ) where
  -- the blob
  abbrev here : Blob
  here = disk (dev.time old) k

  -- The last of so many items in the blob at k, which ends there, was checked.
  pub record LooksBelow {A : Type 0} (spelling : A → List ℕ) (accepted : A → Unit {0} → Type 0)
      (refusal : List ℕ → Unit {0} → Option codec.Error) (s : ℕ) (r : Result A Error)
      : Type 0 where
    -- it is that item
    pub item : dev.Tells
        → IfOk r (IsBoundary seal P size spelling accepted here.content items)
    -- the damage is that it is not sealed
    pub damage : dev.Tells → (x : Damage) → IsErrOf r (Corruption x) → (x.section ≡ s)
        × IsUnsealed seal P size here items x
    -- the codec's error is of its bytes, where matching slots cover them
    pub refused : dev.Tells → (e : codec.Error) → IsErrOf r (Codec e) → (0 < items)
        × (refusal (data_from P (view here.content) ((items - 1) * size) size) tt ≡ Some e)
        × IsCovered seal P here.content ((items - 1) * size) size
    -- no blob changes
    pub unchanged : dev.Tells → Unchanged (dev.time old) (dev.time new)
    -- no other blob is read
    pub entries : OnlyOwnEntry k (dev.opened old) (dev.opened new)
    -- this one stays opened
    pub «open» : IsOpenAt (dev.opened new) k end
    -- faults are counted on
    pub faults : dev.faults old ≤ dev.faults new
    -- nothing else is answered but a fault or want of memory
    pub cause : OnErr r (((x : Damage) × IsErrOf r (Corruption x))
        ⊎ (((e : codec.Error) × IsErrOf r (Codec e))
        ⊎ HasFailed r (dev.faults old) (dev.faults new)))

  -- Its bytes were read.
  pub record ReadsLast {T : Type 0} (got : List ℕ) (r : Result T RError) : Type 0 where
    -- they are those of the blob's pages
    pub bytes : dev.Tells → OnOk r (got
        ≡ data_from P (view here.content) ((items - 1) * size) size)
    -- which matching slots cover
    pub checked : dev.Tells → OnOk r (IsCovered seal P here.content
        ((items - 1) * size) size)
    -- and which adopting finds
    pub within : dev.Tells → OnOk r (items * size ≤ adopted_size seal P here.content)
    -- a page is refused that none covers
    pub checksum : dev.Tells → (page : ℕ) → IsErrOf r (runtime.InvalidChecksum page)
        → IsShort seal P here.content ((items - 1) * size) size page
    -- bytes are missed that adopting does not find
    pub short : dev.Tells → IsErrOf r runtime.BlobInsufficientLength
        → PassesSize seal P here.content ((items - 1) * size) size
    -- no blob changes
    pub unchanged : dev.Tells → Unchanged (dev.time old) (dev.time new)
    -- no other blob is read
    pub entries : OnlyOwnEntry k (dev.opened old) (dev.opened new)
    -- this one stays opened
    pub «open» : IsOpenAt (dev.opened new) k end
    -- faults are counted on
    pub faults : dev.faults old ≤ dev.faults new
    -- nothing else is answered but a fault or want of memory
    pub cause : OnErr r ((r ≡ Err runtime.BlobInsufficientLength)
        ⊎ (((page : ℕ) × (r ≡ Err (runtime.InvalidChecksum page)))
        ⊎ ((r ≡ Err runtime.Mem)
        ⊎ ((r ≡ Err runtime.Fault) × Rose (dev.faults old) (dev.faults new)))))
