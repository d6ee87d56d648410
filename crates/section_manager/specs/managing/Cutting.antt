-- What the calls that shorten sections promise.
use Rattle.std.specs.Prelude.{◌≡◌, ◌≢◌, ◌⊎◌, ◌↔◌, ◌-◌, ◌≤◌, ◌<◌, ◌^◌, min, ℕ, Option, None, Some, IsSome, IsSomeAnd, Result, IfOk, OnOk, OnErr}
use Rattle.blob_device.specs.Disk.{Key, Disk, nothing}
use Rattle.blob_device.specs.Timeline.{disk, Always, Each}
use Rattle.blob_device.specs.declared.device.Device as device
use Rattle.section_manager.specs.declared.buffer.SectionBuffer as buffer
use Rattle.section_manager.specs.declared.journal.Error.{Error}
use Rattle.section_manager.specs.Entries.{OnlyOwnEntry, StartsNoRead}
use Rattle.section_manager.specs.Lasting.{Cutting, IsLonger, Truncating}
use Rattle.section_manager.specs.Leaving.{AllMoments, Leaves}
use Rattle.section_manager.specs.managing.Settling.{IsAnyBelow}
use Rattle.section_manager.specs.Refusing.{HasDamage, HasFailed, IsPruned}
use Rattle.section_manager.specs.Sections.{Sections, key_of, IsCut, IsGone, IsKeyOf, IsKnown, IsOver, IsSame, SameBounds, SamePlace}
use Rattle.section_manager.specs.Setting.{Setting}

-- over this disk the section, where it is longer, may be cut to n bytes
abbrev pub MayBeCut : {F B : Type 0} → buffer.Ghosts B → Sections F B → ℕ → ℕ → Disk → Type 0
MayBeCut {B = B} g m section n d = (u : B) → m.held section ≡ Some u → n < g.byte_count u
    → g.CanCut u (d (key_of m section)) n

module _ {F B D : Type 0} (g : buffer.Ghosts B) (gives : F → Setting) (dev : device.Ghosts D)
    (m : Sections F B) where
  -- One section was to be cut to n bytes. It is refused where `IsBelow` holds.
  pub record CutsOne (section n : ℕ) (IsBelow : Type 0) (old new : D)
      (result : Result (Sections F B) Error) : Type 0 where
    -- the sections are those of the partition again
    pub over : IfOk result (λ r. IsOver g gives dev.Tells r (dev.opened new) (disk (dev.time new)))
    -- where it was held, it is as the cut leaves it
    pub cut : IfOk result (λ r. (u : B) → m.held section ≡ Some u
        → IsSomeAnd (r.held section) (λ v. IsCut g dev.Tells n u v
        (disk (dev.time old) (key_of m section)) (disk (dev.time new) (key_of m section))))
    -- else it is not held
    pub absent : IfOk result (λ r. m.held section ≡ None → r.held section ≡ None)
    -- nothing of it becomes unopened
    pub unopened : IfOk result (λ r. r.unopened section ≡ m.unopened section)
    -- the other sections stay
    pub others : IfOk result (λ r. (q : ℕ) → q ≢ section → IsSame m r q)
    -- and so does the place with its bounds
    pub bounds : IfOk result (SameBounds m)
    -- At every moment each crash leaves of the blob what had settled, up to the cut; no other blob
    -- changes.
    pub moments : dev.Tells → AllMoments (key_of m section)
        (λ b. (u : B) → m.held section ≡ Some u → Leaves (g.NoChanceSeal u)
        (g.MayKeep u (disk (dev.time old) (key_of m section)) (min (g.settled u) n)) b)
        (dev.time old) (dev.time new)
    -- where it is not longer, no call of the device is made
    pub idle : (IsLonger g m section n → ⊥) → new ≡ old
    -- no other entry changes
    pub entries : OnlyOwnEntry (key_of m section) (dev.opened old) (dev.opened new)
    -- a buffer that starts no reads starts none here
    pub reads : (g.StartsReads → ⊥) → StartsNoRead (dev.opened old) (dev.opened new)
    -- it is refused for the floor exactly there,
    pub guard : IsPruned result m.floor ↔ IsBelow
    -- with no call of the device
    pub refuses : IsBelow → new ≡ old
    -- faults are counted on
    pub faults : dev.faults old ≤ dev.faults new
    -- no page is damaged, where the disk is told,
    pub damage : dev.Tells → HasDamage result → ⊥
    -- or the buffer starts no reads
    pub damage_unread : (g.StartsReads → ⊥) → HasDamage result → ⊥
    -- nothing else is answered but a fault or want of memory
    pub cause : OnErr result (IsPruned result m.floor
        ⊎ (HasDamage result ⊎ HasFailed result (dev.faults old) (dev.faults new)))

  -- The sections behind this one were to be removed, and this one to be cut to n bytes.
  pub record CutsBehind (section n : ℕ) (old new : D) (result : Result (Sections F B) Error)
      : Type 0 where
    -- the sections are those of the partition again
    pub over : IfOk result (λ r. IsOver g gives dev.Tells r (dev.opened new) (disk (dev.time new)))
    -- no later one is known
    pub later : IfOk result (λ r. (s : ℕ) → section < s → IsGone r s)
    -- the earlier ones stay
    pub earlier : IfOk result (λ r. (s : ℕ) → s < section → IsSame m r s)
    -- where this one was held, it is as the cut leaves it
    pub cut : IfOk result (λ r. (u : B) → m.held section ≡ Some u
        → IsSomeAnd (r.held section) (λ v. IsCut g dev.Tells n u v
        (disk (dev.time old) (key_of m section)) (disk (dev.time new) (key_of m section))))
    -- else it is not held
    pub absent : IfOk result (λ r. m.held section ≡ None → r.held section ≡ None)
    -- nothing of it becomes unopened
    pub unopened : IfOk result (λ r. r.unopened section ≡ m.unopened section)
    -- the place stays,
    pub place : IfOk result (SamePlace m)
    -- and the floor
    pub floor : IfOk result (λ r. r.floor ≡ m.floor)
    -- sections may be made without a bound
    pub lifted : IfOk result (λ r. r.ceiling ≡ 2 ^ 64 - 1)
    -- At every moment, also where the call fails, no blob is touched before those of all sections
    -- that go before it are gone, the section's own the last; each crash leaves of it what had
    -- settled, up to the cut.
    pub moments : dev.Tells → Always (dev.time old) (dev.time new)
        (Truncating g m section n (disk (dev.time old)))
    -- then the later ones are gone
    pub gone : dev.Tells → OnOk result ((s : ℕ) → IsKnown m s → section < s
        → disk (dev.time new) (key_of m s) ≡ nothing)
    -- where no later one is known, and this one is not longer, no call of the device is made
    pub idle : ((s : ℕ) → IsKnown m s → s ≤ section) → (IsLonger g m section n → ⊥) → new ≡ old
    -- the entries of later ones leave, and no other changes but its own
    pub entries : (q : Key) → q ≢ key_of m section → (dev.opened new q ≡ dev.opened old q)
        ⊎ (IsKeyOf m (λ s. IsKnown m s × (section < s)) q × (dev.opened new q ≡ None))
    -- buffers that start no reads start none here
    pub reads : (g.StartsReads → ⊥) → StartsNoRead (dev.opened old) (dev.opened new)
    -- a section below the floor is refused for that, and no other,
    pub guard : IsPruned result m.floor ↔ (section < m.floor)
    -- with no call of the device
    pub refuses : section < m.floor → new ≡ old
    -- faults are counted on
    pub faults : dev.faults old ≤ dev.faults new
    -- no page is damaged, where the disk is told,
    pub damage : dev.Tells → HasDamage result → ⊥
    -- or the buffer starts no reads
    pub damage_unread : (g.StartsReads → ⊥) → HasDamage result → ⊥
    -- nothing else is answered but a fault or want of memory
    pub cause : OnErr result (IsPruned result m.floor
        ⊎ (HasDamage result ⊎ HasFailed result (dev.faults old) (dev.faults new)))

  -- The sections that have a size were to be cut to that.
  pub record CutsEach (size_of : ℕ → Option ℕ) (old new : D) (result : Result (Sections F B) Error)
      : Type 0 where
    -- the sections are those of the partition again
    pub over : IfOk result (λ r. IsOver g gives dev.Tells r (dev.opened new) (disk (dev.time new)))
    -- each of them that was held is as the cut leaves it
    pub cut : IfOk result (λ r. (s n : ℕ) (u : B) → size_of s ≡ Some n → m.held s ≡ Some u
        → IsSomeAnd (r.held s) (λ v. IsCut g dev.Tells n u v
        (disk (dev.time old) (key_of m s)) (disk (dev.time new) (key_of m s))))
    -- none is held that was not
    pub absent : IfOk result (λ r. (s : ℕ) → m.held s ≡ None → r.held s ≡ None)
    -- the buffers of the others stay
    pub others : IfOk result (λ r. (s : ℕ) → size_of s ≡ None → r.held s ≡ m.held s)
    -- and what is unopened
    pub unopened : IfOk result (λ r. (s : ℕ) → r.unopened s ≡ m.unopened s)
    -- and the place with its bounds
    pub bounds : IfOk result (SameBounds m)
    -- At every moment each crash leaves of each what had settled, up to its cut; no other blob
    -- changes.
    pub moments : dev.Tells → Always (dev.time old) (dev.time new)
        (Each (Cutting g m size_of (disk (dev.time old))))
    -- where none is longer, no call of the device is made
    pub idle : ((s : ℕ) → IsSomeAnd (size_of s) (IsLonger g m s) → ⊥) → new ≡ old
    -- no entry changes but of one that is longer
    pub entries : (q : Key) → (IsKeyOf m (λ s. IsSomeAnd (size_of s) (IsLonger g m s)) q → ⊥)
        → dev.opened new q ≡ dev.opened old q
    -- buffers that start no reads start none here
    pub reads : (g.StartsReads → ⊥) → StartsNoRead (dev.opened old) (dev.opened new)
    -- where one of them is below the floor, it is refused for that, and not else,
    pub guard : IsPruned result m.floor ↔ IsAnyBelow (λ s. IsSome (size_of s)) m.floor
    -- with no call of the device
    pub refuses : IsAnyBelow (λ s. IsSome (size_of s)) m.floor → new ≡ old
    -- faults are counted on
    pub faults : dev.faults old ≤ dev.faults new
    -- no page is damaged, where the disk is told,
    pub damage : dev.Tells → HasDamage result → ⊥
    -- or the buffers start no reads
    pub damage_unread : (g.StartsReads → ⊥) → HasDamage result → ⊥
    -- nothing else is answered but a fault or want of memory
    pub cause : OnErr result (IsPruned result m.floor
        ⊎ (HasDamage result ⊎ HasFailed result (dev.faults old) (dev.faults new)))
