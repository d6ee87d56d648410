-- What the calls that remove sections promise.
use Rattle.std.specs.Prelude.{◌≡◌, ◌≢◌, ◌⊎◌, ◌↔◌, ◌-◌, ◌≤◌, ◌<◌, ◌^◌, ℕ, Bool, false, None, IsTrue, Result, IfOk, OnOk, OnErr}
use Rattle.blob_device.specs.Disk.{nothing}
use Rattle.blob_device.specs.Timeline.{disk, Always}
use Rattle.blob_device.specs.declared.device.Device as device
use Rattle.section_manager.specs.declared.buffer.SectionBuffer as buffer
use Rattle.section_manager.specs.declared.journal.Error.{Error}
use Rattle.section_manager.specs.declared.manager.removing.Doomed.{Doomed}
use Rattle.section_manager.specs.Doomed.{IsDoomed, GoesBefore}
use Rattle.section_manager.specs.Lasting.{EntriesLeave, IsGoing, Removing}
use Rattle.section_manager.specs.Leaving.{AllMoments}
use Rattle.section_manager.specs.Refusing.{HasFailed, IsPruned}
use Rattle.section_manager.specs.Sections.{Sections, key_of, IsGone, IsHeld, IsKeyOf, IsKnown, IsOver, IsSame, IsSection, SameBounds, SamePlace}
use Rattle.section_manager.specs.Setting.{Setting}

module _ {F B D : Type 0} (g : buffer.Ghosts B) (gives : F → Setting) (dev : device.Ghosts D)
    (m : Sections F B) where
  -- The blob of one section was to be removed, and the section forgotten.
  pub record Forgets (section : ℕ) (old new : D) (result : Result (Sections F B) Error)
      : Type 0 where
    -- the sections are those of the partition again
    pub over : IfOk result (λ n. IsOver g gives dev.Tells n (dev.opened new) (disk (dev.time new)))
    -- the section is not known
    pub removed : IfOk result (λ n. IsGone n section)
    -- the others stay
    pub others : IfOk result (λ n. (q : ℕ) → q ≢ section → IsSame m n q)
    -- and so does the place with its bounds
    pub bounds : IfOk result (SameBounds m)
    -- At every moment the blob is as before, under removal, or gone; no other blob changes.
    pub moments : dev.Tells → AllMoments (key_of m section)
        (IsGoing (disk (dev.time old) (key_of m section))) (dev.time old) (dev.time new)
    -- then it is gone
    pub gone : dev.Tells → OnOk result (disk (dev.time new) (key_of m section) ≡ nothing)
    -- its entry leaves, and no other changes
    pub entries : EntriesLeave (λ q. q ≡ key_of m section) (dev.opened old) (dev.opened new)
    -- faults are counted on
    pub faults : dev.faults old ≤ dev.faults new
    -- nothing is answered but a fault or want of memory
    pub cause : OnErr result (HasFailed result (dev.faults old) (dev.faults new))

  -- The doomed sections were to be removed, one after another.
  pub record RemovesAll (doomed : Doomed) (old new : D)
      (result : Result (Sections F B × Bool) Error) : Type 0 where
    -- the sections are those of the partition again
    pub over : IfOk result (λ r. IsOver g gives dev.Tells r.0 (dev.opened new)
        (disk (dev.time new)))
    -- the doomed ones are not known
    pub removed : IfOk result (λ r. (s : ℕ) → IsDoomed m doomed s → IsGone r.0 s)
    -- the others stay
    pub kept : IfOk result (λ r. (s : ℕ) → (IsDoomed m doomed s → ⊥) → IsSame m r.0 s)
    -- and so does the place with its bounds
    pub bounds : IfOk result (λ r. SameBounds m r.0)
    -- the answer is whether one of them was no leftover
    pub flag : IfOk result (λ r. IsTrue r.1 ↔ ((s : ℕ) × IsDoomed m doomed s × IsSection m s))
    -- At every moment no blob is touched before those of all that go before it are gone.
    pub moments : dev.Tells → Always (dev.time old) (dev.time new)
        (Removing m (IsDoomed m doomed) (GoesBefore doomed) (disk (dev.time old)))
    -- then all are gone
    pub gone : dev.Tells → OnOk result ((s : ℕ) → IsDoomed m doomed s
        → disk (dev.time new) (key_of m s) ≡ nothing)
    -- where none is doomed, no call of the device is made
    pub idle : ((s : ℕ) → IsDoomed m doomed s → ⊥) → new ≡ old
    -- their entries leave, and no other changes
    pub entries : EntriesLeave (IsKeyOf m (IsDoomed m doomed)) (dev.opened old) (dev.opened new)
    -- faults are counted on
    pub faults : dev.faults old ≤ dev.faults new
    -- nothing is answered but a fault or want of memory
    pub cause : OnErr result (HasFailed result (dev.faults old) (dev.faults new))

  -- The sections below `min` were to be removed.
  pub record Prunes (min : ℕ) (old new : D) (result : Result (Sections F B × Bool) Error)
      : Type 0 where
    -- the sections are those of the partition again
    pub over : IfOk result (λ r. IsOver g gives dev.Tells r.0 (dev.opened new)
        (disk (dev.time new)))
    -- none below is known
    pub removed : IfOk result (λ r. (s : ℕ) → s < min → IsGone r.0 s)
    -- the others stay
    pub kept : IfOk result (λ r. (s : ℕ) → min ≤ s → IsSame m r.0 s)
    -- and so does the place,
    pub place : IfOk result (λ r. SamePlace m r.0)
    -- and the ceiling
    pub ceiling : IfOk result (λ r. r.0.ceiling ≡ m.ceiling)
    -- the answer is whether there was one,
    pub flag : IfOk result (λ r. IsTrue r.1 ↔ ((s : ℕ) × IsSection m s × (s < min)))
    -- and then the floor is `min`,
    pub floor : IfOk result (λ r. IsTrue r.1 → r.0.floor ≡ min)
    -- else it stays
    pub same_floor : IfOk result (λ r. r.1 ≡ false → r.0.floor ≡ m.floor)
    -- At every moment, also where the call fails, no section's blob is touched before those of all
    -- older ones are gone.
    pub moments : dev.Tells → Always (dev.time old) (dev.time new)
        (Removing m (λ s. IsKnown m s × (s < min)) (λ s t. s < t) (disk (dev.time old)))
    -- then all are gone
    pub gone : dev.Tells → OnOk result ((s : ℕ) → IsKnown m s → s < min
        → disk (dev.time new) (key_of m s) ≡ nothing)
    -- where none below is known, no call of the device is made
    pub idle : ((s : ℕ) → IsKnown m s → min ≤ s) → new ≡ old
    -- their entries leave, and no other changes
    pub entries : EntriesLeave (IsKeyOf m (λ s. IsKnown m s × (s < min)))
        (dev.opened old) (dev.opened new)
    -- faults are counted on
    pub faults : dev.faults old ≤ dev.faults new
    -- nothing is answered but a fault or want of memory
    pub cause : OnErr result (HasFailed result (dev.faults old) (dev.faults new))

  -- One section was to be removed, if it was held.
  pub record RemovesOne (section : ℕ) (old new : D) (result : Result (Sections F B × Bool) Error)
      : Type 0 where
    -- the sections are those of the partition again
    pub over : IfOk result (λ r. IsOver g gives dev.Tells r.0 (dev.opened new)
        (disk (dev.time new)))
    -- the section is not held
    pub removed : IfOk result (λ r. r.0.held section ≡ None)
    -- the others stay,
    pub others : IfOk result (λ r. (q : ℕ) → q ≢ section → IsSame m r.0 q)
    -- what is unopened,
    pub unopened : IfOk result (λ r. r.0.unopened section ≡ m.unopened section)
    -- and the place with its bounds
    pub bounds : IfOk result (λ r. SameBounds m r.0)
    -- the answer is whether it was held
    pub flag : IfOk result (λ r. IsTrue r.1 ↔ IsHeld m section)
    -- At every moment the blob is as before, under removal, or gone; no other blob changes.
    pub moments : dev.Tells → AllMoments (key_of m section)
        (IsGoing (disk (dev.time old) (key_of m section))) (dev.time old) (dev.time new)
    -- the blob of one that was held is then gone
    pub gone : dev.Tells → IsHeld m section
        → OnOk result (disk (dev.time new) (key_of m section) ≡ nothing)
    -- for one that was not held no call of the device is made
    pub absent : m.held section ≡ None → new ≡ old
    -- its entry leaves, and no other changes
    pub entries : EntriesLeave (λ q. q ≡ key_of m section) (dev.opened old) (dev.opened new)
    -- a section below the floor is refused for that, and no other,
    pub guard : IsPruned result m.floor ↔ (section < m.floor)
    -- with no call of the device
    pub refuses : section < m.floor → new ≡ old
    -- faults are counted on
    pub faults : dev.faults old ≤ dev.faults new
    -- nothing else is answered but a fault or want of memory
    pub cause : OnErr result (IsPruned result m.floor
        ⊎ HasFailed result (dev.faults old) (dev.faults new))

  -- All sections were to be removed, and the floor and the ceiling lifted.
  pub record Clears (old new : D) (result : Result (Sections F B) Error) : Type 0 where
    -- the sections are those of the partition again
    pub over : IfOk result (λ n. IsOver g gives dev.Tells n (dev.opened new) (disk (dev.time new)))
    -- none is known
    pub removed : IfOk result (λ n. (s : ℕ) → IsGone n s)
    -- the place stays
    pub place : IfOk result (SamePlace m)
    -- nothing is pruned
    pub floor : IfOk result (λ n. n.floor ≡ 0)
    -- sections may be made without a bound
    pub ceiling : IfOk result (λ n. n.ceiling ≡ 2 ^ 64 - 1)
    -- At every moment, also where the call fails, no section's blob is touched before those of all
    -- older ones are gone.
    pub moments : dev.Tells → Always (dev.time old) (dev.time new)
        (Removing m (IsKnown m) (λ s t. s < t) (disk (dev.time old)))
    -- then no section's blob is there
    pub gone : dev.Tells → OnOk result ((s : ℕ) → s < 2 ^ 64
        → IsTrue (disk (dev.time new) (key_of m s)).there → ⊥)
    -- and those that were known are gone
    pub gone_all : dev.Tells → OnOk result ((s : ℕ) → IsKnown m s
        → disk (dev.time new) (key_of m s) ≡ nothing)
    -- their entries leave, and no other changes
    pub entries : EntriesLeave (IsKeyOf m (IsKnown m)) (dev.opened old) (dev.opened new)
    -- faults are counted on
    pub faults : dev.faults old ≤ dev.faults new
    -- nothing is answered but a fault or want of memory
    pub cause : OnErr result (HasFailed result (dev.faults old) (dev.faults new))

module _ {F B D T : Type 0} (dev : device.Ghosts D) (m : Sections F B) where
  -- All sections were to be removed, and the manager given up.
  pub record Destroys (old new : D) (result : Result T Error) : Type 0 where
    -- At every moment, also where the call fails, no section's blob is touched before those of all
    -- older ones are gone.
    pub moments : dev.Tells → Always (dev.time old) (dev.time new)
        (Removing m (IsKnown m) (λ s t. s < t) (disk (dev.time old)))
    -- then no section's blob is there
    pub gone : dev.Tells → OnOk result ((s : ℕ) → s < 2 ^ 64
        → IsTrue (disk (dev.time new) (key_of m s)).there → ⊥)
    -- and those that were known are gone
    pub gone_all : dev.Tells → OnOk result ((s : ℕ) → IsKnown m s
        → disk (dev.time new) (key_of m s) ≡ nothing)
    -- their entries leave, and no other changes
    pub entries : EntriesLeave (IsKeyOf m (IsKnown m)) (dev.opened old) (dev.opened new)
    -- faults are counted on
    pub faults : dev.faults old ≤ dev.faults new
    -- nothing is answered but a fault or want of memory
    pub cause : OnErr result (HasFailed result (dev.faults old) (dev.faults new))
