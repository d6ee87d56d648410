-- What the calls that settle sections promise.
use Rattle.std.specs.Prelude.{◌≡◌, ◌≢◌, ◌⊎◌, ◌↔◌, ◌≤◌, ◌<◌, ℕ, None, Some, false, Result, IfOk, OnErr, IsSomeAnd}
use Rattle.blob_device.specs.Disk.{Key}
use Rattle.blob_device.specs.Timeline.{disk, Always, Each}
use Rattle.blob_device.specs.declared.device.Device as device
use Rattle.section_manager.specs.declared.buffer.SectionBuffer as buffer
use Rattle.section_manager.specs.declared.journal.Error.{Error}
use Rattle.section_manager.specs.Entries.{OnlyOwnEntry, StartsNoRead}
use Rattle.section_manager.specs.Lasting.{IsUnsettled, Syncing}
use Rattle.section_manager.specs.Leaving.{AllMoments, Leaves}
use Rattle.section_manager.specs.Refusing.{HasFailed, IsPruned}
use Rattle.section_manager.specs.Sections.{Sections, key_of, IsKeyOf, IsOver, IsSame, IsSynced, SameBounds}
use Rattle.section_manager.specs.Setting.{Setting}

-- one of the sections that are named is below the floor
abbrev pub IsAnyBelow : (ℕ → Type 0) → ℕ → Type 0
IsAnyBelow IsNamed floor = (s : ℕ) × IsNamed s × (s < floor)

module _ {F B D : Type 0} (g : buffer.Ghosts B) (gives : F → Setting) (dev : device.Ghosts D)
    (m : Sections F B) where
  -- The named sections of m were to be settled. It is refused where `IsBelow` holds.
  pub record Settles (IsNamed : ℕ → Type 0) (IsBelow : Type 0) (old new : D)
      (result : Result (Sections F B) Error) : Type 0 where
    -- the sections are those of the partition again
    pub over : IfOk result (λ n. IsOver g gives dev.Tells n (dev.opened new) (disk (dev.time new)))
    -- each named section that was held is as a sync leaves it
    pub named : IfOk result (λ n. (s : ℕ) (u : B) → IsNamed s → m.held s ≡ Some u
        → IsSomeAnd (n.held s) (λ v. IsSynced g dev.Tells u v
        (disk (dev.time old) (key_of m s)) (disk (dev.time new) (key_of m s))))
    -- none is held that was not
    pub none : IfOk result (λ n. (s : ℕ) → m.held s ≡ None → n.held s ≡ None)
    -- the buffer of a section that is not named stays
    pub others : IfOk result (λ n. (s : ℕ) → (IsNamed s → ⊥) → n.held s ≡ m.held s)
    -- so does what is unopened
    pub unopened : IfOk result (λ n. (s : ℕ) → n.unopened s ≡ m.unopened s)
    -- and the place with its bounds
    pub bounds : IfOk result (SameBounds m)
    -- At every moment, also where the call fails, each crash leaves of the named sections what had
    -- settled; no other blob changes.
    pub moments : dev.Tells → Always (dev.time old) (dev.time new)
        (Each (Syncing g m IsNamed (disk (dev.time old))))
    -- where nothing named is unsettled, no call of the device is made
    pub idle : ((s : ℕ) (u : B) → IsNamed s → m.held s ≡ Some u → g.unsettled u ≡ false) → new ≡ old
    -- no entry changes but of a named section that is not settled
    pub entries : (q : Key) → (IsKeyOf m (λ s. IsNamed s × IsUnsettled g m s) q → ⊥)
        → dev.opened new q ≡ dev.opened old q
    -- buffers that start no reads start none here
    pub reads : (g.StartsReads → ⊥) → StartsNoRead (dev.opened old) (dev.opened new)
    -- it is refused for the floor exactly there,
    pub guard : IsPruned result m.floor ↔ IsBelow
    -- with no call of the device
    pub refuses : IsBelow → new ≡ old
    -- faults are counted on
    pub faults : dev.faults old ≤ dev.faults new
    -- nothing else is answered but a fault or want of memory
    pub cause : OnErr result (IsPruned result m.floor
        ⊎ HasFailed result (dev.faults old) (dev.faults new))

  -- One section was to be settled, if it is held.
  pub record SettlesOne (section : ℕ) (old new : D) (result : Result (Sections F B) Error)
      : Type 0 where
    -- the sections are those of the partition again
    pub over : IfOk result (λ n. IsOver g gives dev.Tells n (dev.opened new) (disk (dev.time new)))
    -- where it was held, it is as a sync leaves it
    pub did : IfOk result (λ n. (u : B) → m.held section ≡ Some u
        → IsSomeAnd (n.held section) (λ v. IsSynced g dev.Tells u v
        (disk (dev.time old) (key_of m section)) (disk (dev.time new) (key_of m section))))
    -- else it is not held
    pub absent : IfOk result (λ n. m.held section ≡ None → n.held section ≡ None)
    -- nothing of it becomes unopened
    pub unopened : IfOk result (λ n. n.unopened section ≡ m.unopened section)
    -- the other sections stay
    pub others : IfOk result (λ n. (q : ℕ) → q ≢ section → IsSame m n q)
    -- and so does the place with its bounds
    pub bounds : IfOk result (SameBounds m)
    -- At every moment each crash leaves of its blob what had settled; no other blob changes.
    pub moments : dev.Tells → AllMoments (key_of m section)
        (λ b. (u : B) → m.held section ≡ Some u → Leaves (g.NoChanceSeal u)
        (g.MayKeep u (disk (dev.time old) (key_of m section)) (g.settled u)) b)
        (dev.time old) (dev.time new)
    -- where it is settled, no call of the device is made
    pub idle : (IsUnsettled g m section → ⊥) → new ≡ old
    -- no other entry changes
    pub entries : OnlyOwnEntry (key_of m section) (dev.opened old) (dev.opened new)
    -- a buffer that starts no reads starts none here
    pub reads : (g.StartsReads → ⊥) → StartsNoRead (dev.opened old) (dev.opened new)
    -- faults are counted on
    pub faults : dev.faults old ≤ dev.faults new
    -- nothing is answered but a fault or want of memory
    pub cause : OnErr result (HasFailed result (dev.faults old) (dev.faults new))
