-- What the calls that open sections promise: of a partition, and of one section.
use Rattle.std.specs.Prelude.{◌≡◌, ◌≢◌, ◌⊎◌, ◌↔◌, ◌≤◌, ◌<◌, ◌^◌, ℕ, List, length, None, Some, IsSome, IsTrue, false, Result, Err, IfOk, OnOk, OnErr}
use Rattle.std.specs.List.{Contains}
use Rattle.std.specs.Result.{IsErrOf}
use Rattle.blob_device.specs.Change.{Make, done}
use Rattle.blob_device.specs.Disk.{Key, Disk}
use Rattle.blob_device.specs.Opened.{OpenedList}
use Rattle.blob_device.specs.Timeline.{disk, Always, Each}
use Rattle.blob_device.specs.declared.device.Device as device
use Rattle.sealed_pages.specs.Entries.{IsOpenAt}
use Rattle.sealed_pages.specs.Reading.{Unchanged}
use Rattle.section_manager.specs.declared.buffer.SectionBuffer as buffer
use Rattle.section_manager.specs.declared.journal.Error.{Error}
use Rattle.section_manager.specs.declared.journal.Error.TheVariants.{InvalidBlobName, Mem}
use Rattle.section_manager.specs.declared.unopened.Unopened.TheVariants.{Leftover, Section}
use Rattle.section_manager.specs.Entries.{OnlyOwnEntry, StartsNoRead}
use Rattle.section_manager.specs.Lasting.{IsOpening, IsSettling}
use Rattle.section_manager.specs.Leaving.{AllMoments}
use Rattle.section_manager.specs.managing.Lending.{IsPut, IsRefused}
use Rattle.section_manager.specs.Refusing.{HasFailed, IsForeign, IsPruned}
use Rattle.section_manager.specs.Sections.{Sections, section_key, key_of, HasOpened, IsHeld, IsKnown, IsOver, IsSame, IsSection, SameBounds, StandsOver}
use Rattle.section_manager.specs.Setting.{Setting}

module _ {F B D : Type 0} (g : buffer.Ghosts B) (gives : F → Setting) (dev : device.Ghosts D) where
  -- ---- the opening of a partition

  module _ (place : List ℕ) (maker : F) (bound : ℕ) where
    -- The sections of the partition were to be opened, up to the bound.
    pub record Inits (old new : D) (result : Result (Sections F B) Error) : Type 0 where
      -- the sections are those of the partition
      pub over : IfOk result (λ n. IsOver g gives dev.Tells n (dev.opened new)
          (disk (dev.time new)))
      -- those up to the bound are held,
      pub held : dev.Tells → IfOk result (λ n. (s : ℕ) → s < 2 ^ 64 → IsHeld n s
          ↔ (IsTrue (disk (dev.time old) (section_key place s)).there × (s ≤ bound)))
      -- and the later ones are known and unopened
      pub unopened : dev.Tells → IfOk result (λ n. (s : ℕ) → s < 2 ^ 64
          → (n.unopened s ≡ Some Section)
          ↔ (IsTrue (disk (dev.time old) (section_key place s)).there × (bound < s)))
      -- none is a leftover
      pub no_leftover : IfOk result (λ n. (s : ℕ) → n.unopened s ≢ Some Leftover)
      -- also where the disk is not told, what is known and not held stands above the bound
      pub later : IfOk result (λ n. (s : ℕ) → IsSome (n.unopened s) → bound < s)
      -- each buffer has the bytes that such a buffer has over its blob
      pub bytes : dev.Tells → IfOk result (λ n. (s : ℕ) (u : B) → n.held s ≡ Some u
          → g.bytes u (disk (dev.time new) (section_key place s)).content
          ≡ g.holds (gives maker) (disk (dev.time old) (section_key place s)).content)
      -- and has settled
      pub idle : IfOk result (λ n. (s : ℕ) (u : B) → n.held s ≡ Some u → g.unsettled u ≡ false)
      -- its partition is this one
      pub partition : IfOk result (λ n. n.partition ≡ place)
      -- the buffers are made by this factory
      pub factory : IfOk result (λ n. n.factory ≡ maker)
      -- nothing was pruned
      pub floor : IfOk result (λ n. n.floor ≡ 0)
      -- sections may be made up to the bound
      pub ceiling : IfOk result (λ n. n.ceiling ≡ bound)
      -- At every moment, also where the call fails, each section's blob is as before, or settled as
      -- it read; no other blob changes.
      pub moments : dev.Tells → Always (dev.time old) (dev.time new)
          (Each (IsSettling place bound (disk (dev.time old))))
      -- a partition that has a name that is no section's is refused,
      pub foreign : dev.Tells → (name : List ℕ) → IsForeign (disk (dev.time old)) place name
          → OnOk result ⊥
      -- then no blob's history changes,
      pub foreign_disk : dev.Tells → (name : List ℕ) → IsForeign (disk (dev.time old)) place name
          → Unchanged (dev.time old) (dev.time new)
      -- and none is opened
      pub foreign_entries : dev.Tells → (name : List ℕ) → IsForeign (disk (dev.time old)) place name
          → dev.opened new ≡ dev.opened old
      -- a name that is refused is no section's,
      pub name : (n : List ℕ) → result ≡ Err (InvalidBlobName n) → length n ≢ 8
      -- then nothing was opened,
      pub name_entries : (n : List ℕ) → result ≡ Err (InvalidBlobName n)
          → dev.opened new ≡ dev.opened old
      -- and it is there
      pub named : dev.Tells → (n : List ℕ) → result ≡ Err (InvalidBlobName n)
          → IsForeign (disk (dev.time old)) place n
      -- no entry changes but of sections up to the bound
      pub entries : (q : Key) → ((s : ℕ) → s ≤ bound → q ≢ section_key place s)
          → dev.opened new q ≡ dev.opened old q
      -- buffers that start no reads start none here
      pub reads : (g.StartsReads → ⊥) → StartsNoRead (dev.opened old) (dev.opened new)
      -- faults are counted on
      pub faults : dev.faults old ≤ dev.faults new
      -- nothing else is answered but a fault or want of memory
      pub cause : OnErr result (((n : List ℕ) × IsErrOf result (InvalidBlobName n))
          ⊎ HasFailed result (dev.faults old) (dev.faults new))

    -- So were the sections that a scan had found, of which no name is refused any more.
    pub record OpensFound (old new : D) (result : Result (Sections F B) Error) : Type 0 where
      pub inits : Inits old new result
      pub names : (n : List ℕ) → result ≢ Err (InvalidBlobName n)

  -- ---- one section

  -- The blob at k was opened, and a buffer of this factory made over it.
  pub record OpensBlob (k : Key) (maker : F) (old new : D) (result : Result B Error) : Type 0 where
    -- At every moment the blob is as before, settled as it read, or being made; no other changes.
    pub moments : dev.Tells → AllMoments k
        (IsOpening (disk (dev.time old) k)) (dev.time old) (dev.time new)
    -- the blob is there, and has settled
    pub made : dev.Tells → OnOk result (disk (dev.time new) k
        ≡ done Make (disk (dev.time old) k))
    -- the buffer stands over it
    pub stands : dev.Tells → IfOk result (λ u.
        g.Stands u (disk (dev.time new) k))
    -- with the bytes that such a buffer has over it
    pub bytes : dev.Tells → IfOk result (λ u.
        g.bytes u (disk (dev.time new) k).content
        ≡ g.holds (gives maker) (disk (dev.time new) k).content)
    -- which have settled
    pub idle : IfOk result (λ u. g.unsettled u ≡ false)
    -- it is of that blob
    pub key : IfOk result (λ u. g.key u ≡ k)
    -- as the factory makes them
    pub setting : IfOk result (λ u. g.setting u ≡ gives maker)
    -- its blob is opened
    pub «open» : IfOk result (λ u. IsOpenAt (dev.opened new) k (g.extent u))
    -- no other entry changes
    pub entries : OnlyOwnEntry k (dev.opened old) (dev.opened new)
    -- buffers that start no reads start none here
    pub reads : (g.StartsReads → ⊥) → StartsNoRead (dev.opened old) (dev.opened new)
    -- faults are counted on
    pub faults : dev.faults old ≤ dev.faults new
    -- nothing else is answered but a fault or want of memory
    pub cause : OnErr result (HasFailed result (dev.faults old) (dev.faults new))

  module _ (m : Sections F B) (section : ℕ) where
    -- The section's buffer was taken out, and the manager is n. One that was not held was made.
    pub record Takes (n : Sections F B) (old new : D) (result : Result B Error) : Type 0 where
      -- the sections are those of the partition again
      pub over : IsOver g gives dev.Tells n (dev.opened new) (disk (dev.time new))
      -- the buffer of a section that was held is as it was
      pub same : IfOk result (λ u. (w : B) → m.held section ≡ Some w → u ≡ w)
      -- that of another one has the bytes that such a buffer has over its blob,
      pub bytes : dev.Tells → m.held section ≡ None → IfOk result (λ u.
          g.bytes u (disk (dev.time new) (key_of m section)).content
          ≡ g.holds (gives m.factory) (disk (dev.time new) (key_of m section)).content)
      -- which have settled,
      pub idle : m.held section ≡ None → IfOk result (λ u. g.unsettled u ≡ false)
      -- and its blob is there, and has settled
      pub made : dev.Tells → m.held section ≡ None
          → OnOk result (disk (dev.time new) (key_of m section)
          ≡ done Make (disk (dev.time old) (key_of m section)))
      -- it stands over the section's blob
      pub stands : dev.Tells → IfOk result (λ u.
          g.Stands u (disk (dev.time new) (key_of m section)))
      -- it is the section's
      pub key : IfOk result (λ u. g.key u ≡ key_of m section)
      -- and as the factory makes them
      pub setting : IfOk result (λ u. g.setting u ≡ gives m.factory)
      -- its blob is opened
      pub «open» : IfOk result (λ u. IsOpenAt (dev.opened new) (key_of m section) (g.extent u))
      -- the section is no longer held
      pub out : OnOk result (n.held section ≡ None)
      -- and stays known
      pub known : OnOk result (n.unopened section ≡ Some Section)
      -- the other sections stay
      pub others : (q : ℕ) → q ≢ section → IsSame m n q
      -- after a refusal it is held as before,
      pub refused : OnErr result (n.held section ≡ m.held section)
      -- and at most a leftover where it was not known,
      pub still_section : OnErr result (IsSection n section → IsSection m section)
      -- but below the floor as it was
      pub guarded : section < m.floor → IsSame m n section
      -- the place with its bounds stays
      pub bounds : SameBounds m n
      -- of a section that is held no call of the device is made
      pub untouched : IsHeld m section → new ≡ old
      -- At every moment the section's blob is as before, settled as it read, or being made; no
      -- other blob changes.
      pub moments : dev.Tells → AllMoments (key_of m section)
          (IsOpening (disk (dev.time old) (key_of m section))) (dev.time old) (dev.time new)
      -- no other entry changes
      pub entries : OnlyOwnEntry (key_of m section) (dev.opened old) (dev.opened new)
      -- buffers that start no reads start none here
      pub reads : (g.StartsReads → ⊥) → StartsNoRead (dev.opened old) (dev.opened new)
      -- a section below the floor is refused for that, and no other,
      pub guard : IsPruned result m.floor ↔ (section < m.floor)
      -- with no call of the device
      pub refuses : section < m.floor → new ≡ old
      -- a section that is held is refused for want of memory alone
      pub held_cause : IsHeld m section → OnErr result (IsErrOf result Mem)
      -- faults are counted on
      pub faults : dev.faults old ≤ dev.faults new
      -- nothing else is answered but a fault or want of memory
      pub cause : OnErr result (IsPruned result m.floor
          ⊎ HasFailed result (dev.faults old) (dev.faults new))

    -- The section was made, if it was not held, and the manager is n.
    pub record Holds {T : Type 0} (n : Sections F B) (old new : D) (result : Result T Error)
        : Type 0 where
      -- the sections are those of the partition again
      pub over : IsOver g gives dev.Tells n (dev.opened new) (disk (dev.time new))
      -- the section is held,
      pub held : OnOk result (IsHeld n section)
      -- as before where it was
      pub same : OnOk result ((u : B) → m.held section ≡ Some u → n.held section ≡ Some u)
      -- else with the bytes that such a buffer has over its blob,
      pub bytes : dev.Tells → m.held section ≡ None → OnOk result ((u : B) → n.held section ≡ Some u
          → g.bytes u (disk (dev.time new) (key_of m section)).content
          ≡ g.holds (gives m.factory) (disk (dev.time new) (key_of m section)).content)
      -- which have settled,
      pub idle : m.held section ≡ None
          → OnOk result ((u : B) → n.held section ≡ Some u → g.unsettled u ≡ false)
      -- and its blob is there, and has settled
      pub made : dev.Tells → m.held section ≡ None
          → OnOk result (disk (dev.time new) (key_of m section)
          ≡ done Make (disk (dev.time old) (key_of m section)))
      -- the other sections stay
      pub others : (q : ℕ) → q ≢ section → IsSame m n q
      -- after a refusal it is as before, or a leftover
      pub refused : OnErr result (IsRefused section m n)
      -- the place with its bounds stays
      pub bounds : SameBounds m n
      -- of a section that is held no call of the device is made
      pub untouched : IsHeld m section → new ≡ old
      -- At every moment the section's blob is as before, settled as it read, or being made; no
      -- other blob changes.
      pub moments : dev.Tells → AllMoments (key_of m section)
          (IsOpening (disk (dev.time old) (key_of m section))) (dev.time old) (dev.time new)
      -- no other entry changes
      pub entries : OnlyOwnEntry (key_of m section) (dev.opened old) (dev.opened new)
      -- buffers that start no reads start none here
      pub reads : (g.StartsReads → ⊥) → StartsNoRead (dev.opened old) (dev.opened new)
      -- a section below the floor is refused for that, and no other,
      pub guard : IsPruned result m.floor ↔ (section < m.floor)
      -- with no call of the device
      pub refuses : section < m.floor → new ≡ old
      -- faults are counted on
      pub faults : dev.faults old ≤ dev.faults new
      -- nothing else is answered but a fault or want of memory
      pub cause : OnErr result (IsPruned result m.floor
          ⊎ HasFailed result (dev.faults old) (dev.faults new))

    -- The section's buffer was lent. One that was not held was made.
    pub record Creates (old new : D) (result : Result B Error) : Type 0 where
      -- the buffer of a section that was held is as it was
      pub same : IfOk result (λ u. (w : B) → m.held section ≡ Some w → u ≡ w)
      -- that of another one has the bytes that such a buffer has over its blob,
      pub bytes : dev.Tells → m.held section ≡ None → IfOk result (λ u.
          g.bytes u (disk (dev.time new) (key_of m section)).content
          ≡ g.holds (gives m.factory) (disk (dev.time new) (key_of m section)).content)
      -- which have settled,
      pub idle : m.held section ≡ None → IfOk result (λ u. g.unsettled u ≡ false)
      -- and its blob is there, and has settled
      pub made : dev.Tells → m.held section ≡ None
          → OnOk result (disk (dev.time new) (key_of m section)
          ≡ done Make (disk (dev.time old) (key_of m section)))
      -- it stands over the section's blob
      pub stands : dev.Tells → IfOk result (λ u.
          g.Stands u (disk (dev.time new) (key_of m section)))
      -- it is the section's
      pub key : IfOk result (λ u. g.key u ≡ key_of m section)
      -- and as the factory makes them
      pub setting : IfOk result (λ u. g.setting u ≡ gives m.factory)
      -- its blob is opened
      pub «open» : IfOk result (λ u. IsOpenAt (dev.opened new) (key_of m section) (g.extent u))
      -- of a section that is held no call of the device is made
      pub untouched : IsHeld m section → new ≡ old
      -- At every moment the section's blob is as before, settled as it read, or being made; no
      -- other blob changes.
      pub moments : dev.Tells → AllMoments (key_of m section)
          (IsOpening (disk (dev.time old) (key_of m section))) (dev.time old) (dev.time new)
      -- no other entry changes
      pub entries : OnlyOwnEntry (key_of m section) (dev.opened old) (dev.opened new)
      -- buffers that start no reads start none here
      pub reads : (g.StartsReads → ⊥) → StartsNoRead (dev.opened old) (dev.opened new)
      -- a section below the floor is refused for that, and no other,
      pub guard : IsPruned result m.floor ↔ (section < m.floor)
      -- with no call of the device
      pub refuses : section < m.floor → new ≡ old
      -- faults are counted on
      pub faults : dev.faults old ≤ dev.faults new
      -- nothing else is answered but a fault or want of memory
      pub cause : OnErr result (IsPruned result m.floor
          ⊎ HasFailed result (dev.faults old) (dev.faults new))

    -- The section that was found was to be opened, unless it is above the ceiling.
    pub record OpensNext (old new : D) (result : Result (Sections F B) Error) : Type 0 where
      -- the sections are those of the partition
      pub over : IfOk result (λ n. IsOver g gives dev.Tells n (dev.opened new)
          (disk (dev.time new)))
      -- up to the ceiling it is held,
      pub held : section ≤ m.ceiling → IfOk result (λ n. IsHeld n section)
      -- as before where it was
      pub same : IfOk result (λ n. (u : B) → m.held section ≡ Some u → n.held section ≡ Some u)
      -- else with the bytes that such a buffer has over its blob,
      pub bytes : dev.Tells → m.held section ≡ None → IfOk result (λ n. (u : B)
          → n.held section ≡ Some u → g.bytes u (disk (dev.time new) (key_of m section)).content
          ≡ g.holds (gives m.factory) (disk (dev.time new) (key_of m section)).content)
      -- which have settled
      pub idle : m.held section ≡ None → IfOk result (λ n. (u : B) → n.held section ≡ Some u
          → g.unsettled u ≡ false)
      -- above the ceiling it stays
      pub above : m.ceiling < section → IfOk result (λ n. IsSame m n section)
      -- the other sections stay,
      pub others : IfOk result (λ n. (q : ℕ) → q ≢ section → IsSame m n q)
      -- and the place with its bounds
      pub bounds : IfOk result (SameBounds m)
      -- above the ceiling no call of the device is made,
      pub passed : m.ceiling < section → new ≡ old
      -- and where it is held
      pub untouched : IsHeld m section → new ≡ old
      -- At every moment its blob is as before, settled as it read, or being made; no other changes.
      pub moments : dev.Tells → AllMoments (key_of m section)
          (IsOpening (disk (dev.time old) (key_of m section))) (dev.time old) (dev.time new)
      -- no other entry changes
      pub entries : OnlyOwnEntry (key_of m section) (dev.opened old) (dev.opened new)
      -- buffers that start no reads start none here
      pub reads : (g.StartsReads → ⊥) → StartsNoRead (dev.opened old) (dev.opened new)
      -- faults are counted on
      pub faults : dev.faults old ≤ dev.faults new
      -- nothing else is answered but a fault or want of memory
      pub cause : OnErr result (HasFailed result (dev.faults old) (dev.faults new))

  -- The sections of these numbers were to be opened, up to the ceiling.
  pub record OpensEach (m : Sections F B) (numbers : List ℕ) (old new : D)
      (result : Result (Sections F B) Error) : Type 0 where
    -- the sections are those of the partition
    pub over : IfOk result (λ n. IsOver g gives dev.Tells n (dev.opened new) (disk (dev.time new)))
    -- those up to the ceiling are held,
    pub held : IfOk result (λ n. (s : ℕ) → Contains numbers s → s ≤ m.ceiling → IsHeld n s)
    -- and the others stay
    pub passed : IfOk result (λ n. (s : ℕ) → (Contains numbers s × (s ≤ m.ceiling) → ⊥)
        → IsSame m n s)
    -- each buffer has the bytes that such a buffer has over its blob
    pub bytes : dev.Tells → IfOk result (λ n. (s : ℕ) (u : B) → n.held s ≡ Some u
        → g.bytes u (disk (dev.time new) (key_of m s)).content
        ≡ g.holds (gives m.factory) (disk (dev.time old) (key_of m s)).content)
    -- and has settled
    pub idle : IfOk result (λ n. (s : ℕ) (u : B) → n.held s ≡ Some u → g.unsettled u ≡ false)
    -- the place with its bounds stays
    pub bounds : IfOk result (SameBounds m)
    -- At every moment each section's blob is as before, or settled as it read; no other changes.
    pub moments : dev.Tells → Always (dev.time old) (dev.time new)
        (Each (IsSettling m.partition m.ceiling (disk (dev.time old))))
    -- no entry changes but of sections up to the ceiling
    pub entries : (q : Key) → ((s : ℕ) → s ≤ m.ceiling → q ≢ key_of m s)
        → dev.opened new q ≡ dev.opened old q
    -- buffers that start no reads start none here
    pub reads : (g.StartsReads → ⊥) → StartsNoRead (dev.opened old) (dev.opened new)
    -- faults are counted on
    pub faults : dev.faults old ≤ dev.faults new
    -- nothing else is answered but a fault or want of memory
    pub cause : OnErr result (HasFailed result (dev.faults old) (dev.faults new))

module _ {F B : Type 0} (g : buffer.Ghosts B) (gives : F → Setting) (m : Sections F B)
    (section : ℕ) where
  -- The buffer w was given to the section, and the manager is n.
  pub record Puts {T : Type 0} (w : B) (n : Sections F B) (result : Result T Error) : Type 0 where
    -- it is held there
    pub put : OnOk result (IsPut section w m n)
    -- after a refusal all is as before
    pub refused : OnErr result ((q : ℕ) → IsSame m n q)
    -- the place with its bounds stays
    pub bounds : SameBounds m n
    -- The manager's sections are those of the partition again, where the buffer is of the blob of
    -- the section, which is opened,
    pub opened : (list : OpenedList) → HasOpened g gives m list → g.setting w ≡ gives m.factory
        → IsOpenAt list (key_of m section) (g.extent w) → OnOk result (HasOpened g gives n list)
    -- and stands over it
    pub stands : (d : Disk) → StandsOver g m d → g.Stands w (d (key_of m section))
        → OnOk result (StandsOver g n d)
    -- nothing is answered but want of memory
    pub cause : OnErr result (IsErrOf result Mem)

-- A manager was made that knows the sections of these numbers, and has opened none.
pub record Knows {F B : Type 0} (place : List ℕ) (maker : F) (bound : ℕ) (numbers : List ℕ)
    (result : Result (Sections F B) Error) : Type 0 where
  -- none is held
  pub held : IfOk result (λ n. (s : ℕ) → n.held s ≡ None)
  -- these are unopened,
  pub unopened : IfOk result (λ n. (s : ℕ) → Contains numbers s → n.unopened s ≡ Some Section)
  -- and no other
  pub others : IfOk result (λ n. (s : ℕ) → (Contains numbers s → ⊥) → n.unopened s ≡ None)
  -- their numbers are those of sections
  pub number : IfOk result (λ n. (s : ℕ) → IsKnown n s → s < 2 ^ 64)
  -- its partition is this one
  pub partition : IfOk result (λ n. n.partition ≡ place)
  -- the buffers are made by this factory
  pub factory : IfOk result (λ n. n.factory ≡ maker)
  -- nothing was pruned
  pub floor : IfOk result (λ n. n.floor ≡ 0)
  -- sections may be made up to the bound
  pub ceiling : IfOk result (λ n. n.ceiling ≡ bound)
  -- nothing is answered but want of memory
  pub cause : OnErr result (IsErrOf result Mem)
