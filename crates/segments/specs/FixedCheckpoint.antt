-- What a checkpoint of a fixed journal asks of the blobs: each earlier section whole, and so many
-- bytes of its own. Why one is refused, and what is left once it is restored.
use Rattle.std.specs.Prelude.{⊤, ◌≡◌, ◌≢◌, ◌↔◌, ◌⊎◌, ℕ, ◌-◌, ◌/◌, ◌%◌, ◌^◌, ◌<◌, ◌≤◌, eqb, cond, false, List, length, Option, None, Some, Result, IfOk, OnErr, IsTrue, IsSome, IsSomeAnd}
use Rattle.std.specs.Result.{IsErrOf}
use Rattle.blob_device.specs.Disk.{Key, Disk}
use Rattle.blob_device.specs.Opened.{OpenedList}
use Rattle.blob_device.specs.Timeline.{disk, Always, Each}
use Rattle.blob_device.specs.declared.device.Device as device
use Rattle.sealed_pages.specs.Buffer.{size_of}
use Rattle.sealed_pages.specs.Reading.{Unchanged}
use Rattle.sealed_pages.specs.Reads.{IsCovered}
use Rattle.sealed_pages.specs.SealedPrefix.{sealed_prefix, adopted_size, data_from}
use Rattle.sealed_pages.specs.Shown.{shown}
use Rattle.sealed_pages.specs.View.{view}
use Rattle.sealed_pages.specs.declared.page_blob.PageBlob.{PageBlob}
use Rattle.sealed_pages.specs.declared.pages.Pages.{Pages}
use Rattle.value_codec.specs.declared.codec.Error as codec
use Rattle.section_manager.specs.Answers.{RefusesNames}
use Rattle.section_manager.specs.Lasting.{IsSettling}
use Rattle.section_manager.specs.Refusing.{HasDamage, HasFailed}
use Rattle.section_manager.specs.Sealed.{adopted_bytes, is_unsettled}
use Rattle.section_manager.specs.Sections.{Sections, section_key, key_of, IsHeld, IsKeyOf, IsKnown, IsOver}
use Rattle.section_manager.specs.Setting.{Setting}
use Rattle.section_manager.specs.declared.buffer.SectionBuffer as buffer
use Rattle.section_manager.specs.declared.journal.Damage.{Damage}
use Rattle.section_manager.specs.declared.journal.Error.{Error}
use Rattle.section_manager.specs.declared.journal.Error.TheVariants.{Codec, Corruption, InvalidBlobName}
use Rattle.section_manager.specs.declared.sealed.AppendFactory.{AppendFactory}
use Rattle.segments.specs.FixedBounds.{CuttingTail, IsTailCut, whole_of}
use Rattle.segments.specs.FixedFloors.{Floors, IsBoundary}
use Rattle.segments.specs.FixedLists.{Lists, section_bytes, section_size, IsJournal}
use Rattle.segments.specs.declared.fixed.preflighting.Target.{Target}

-- ---- what it asks

-- A checkpoint ends behind so many bytes of section `at`.
module _ (seal : List ℕ → ℕ) (P size : ℕ) (partition : List ℕ) (at bytes : ℕ) (d : Disk) where
  -- where the kept bytes of a section end: its own where it says, those of an earlier one where
  -- adopting its blob finds the end
  abbrev pub boundary_at : ℕ → ℕ
  boundary_at s = cond (eqb s at) bytes (adopted_size seal P (d (section_key partition s)).content)

  -- the checkpoint has a boundary in the section: it is its own, or an earlier one with a blob
  abbrev pub IsUnder : ℕ → Type 0
  IsUnder s = (s ≡ at) ⊎ ((s < at) × IsTrue (d (section_key partition s)).there)

  -- The boundary ends within an item.
  pub record IsPartial (s : ℕ) (x : Damage) : Type 0 where
    pub partial : boundary_at s % size ≢ 0
    -- the damage has its bytes
    pub kept : x.kept ≡ boundary_at s
    -- and those of its whole items
    pub wanted : x.wanted ≡ whole_of size (boundary_at s)

  -- The boundary is the checkpoint's own, above 0, and there is no blob.
  pub record IsCheckpointMissing (s : ℕ) (x : Damage) : Type 0 where
    pub own : s ≡ at
    pub some : 0 < bytes
    pub absent : (d (section_key partition s)).there ≡ false
    -- nothing is kept
    pub kept : x.kept ≡ 0
    -- of what was wanted
    pub wanted : x.wanted ≡ bytes

  -- The sealed prefix of the section's blob ends before the boundary.
  pub record IsCheckpointUnsealed (s : ℕ) (x : Damage) : Type 0 where
    pub there : IsTrue (d (section_key partition s)).there
    -- that prefix is kept
    pub kept : x.kept ≡ length (sealed_prefix seal P (d (section_key partition s)).content)
    -- all below the boundary was wanted
    pub wanted : x.wanted ≡ boundary_at s
    pub less : x.kept < x.wanted

  -- why the section is refused
  abbrev pub IsCheckpointRefused : ℕ → Damage → Type 0
  IsCheckpointRefused s x = IsPartial s x ⊎ (IsCheckpointMissing s x ⊎ IsCheckpointUnsealed s x)

  -- All that the checkpoint keeps of the section is sealed, and is whole items.
  pub record IsKept (s : ℕ) : Type 0 where
    pub whole : boundary_at s % size ≡ 0
    pub there : 0 < boundary_at s → IsTrue (d (section_key partition s)).there
    pub sealed : boundary_at s ≤ length (sealed_prefix seal P (d (section_key partition s)).content)

  module _ {V : Type 0} (spelling : V → List ℕ) (accepted : V → Unit {0} → Type 0) where
    -- The section was checked and not refused.
    pub record IsPassed (s : ℕ) : Type 0 where
      -- its boundary is behind a whole item
      pub whole : boundary_at s % size ≡ 0
      -- above 0 it has a blob
      pub there : 0 < boundary_at s → IsTrue (d (section_key partition s)).there
      -- and matching slots cover the last item, which is one
      pub last : 0 < boundary_at s
          → (v : V) × IsBoundary seal P size spelling accepted (d (section_key partition s)).content
          (boundary_at s / size) v
      -- what is cut is cut to no more than is sealed
      pub sealed : s ≡ at → bytes < adopted_size seal P (d (section_key partition s)).content
          → bytes ≤ length (sealed_prefix seal P (d (section_key partition s)).content)

  -- The last item below the section's boundary is none: its bytes are refused with e.
  pub record IsCheckpointItemRefused (refusal : List ℕ → Unit {0} → Option codec.Error) (s : ℕ)
      (e : codec.Error) : Type 0 where
    pub some : 0 < boundary_at s
    -- matching slots cover it
    pub covered : IsCovered seal P (d (section_key partition s)).content (boundary_at s - size) size
    -- the codec refuses its bytes
    pub refused : refusal (data_from P (view (d (section_key partition s)).content)
        (boundary_at s - size) size) tt ≡ Some e

-- ---- the check

-- What is left for `finish`: the journal j is cut to its checkpoint.
module _ {F S : Type 0} {gs : _} (g : buffer.Ghosts (PageBlob S gs)) (gives : F → Setting)
    (seal : List ℕ → ℕ) (size : ℕ)
    (told : Type 0) (j : Lists F (PageBlob S gs)) (t : Target) where
  pub record IsReady (opened : OpenedList) (d : Disk) : Type 0 where
    -- it may be used
    pub over : IsJournal g gives seal size told j opened d
    -- the checkpoint is no later than the bound of the opening
    pub bounded : t.section ≤ j.sections.ceiling
    -- nothing is pruned
    pub floor : j.sections.floor ≡ 0
    -- its end is behind a whole item
    pub whole : t.size % size ≡ 0
    -- and is the section's floor
    pub floor_is : j.floor_of t.section ≡ t.size
    -- the section, where it is held, has as many bytes
    pub reached : (u : PageBlob S gs) → j.sections.held t.section ≡ Some u → t.size
        ≤ size_of (shown u)
    -- a longer section is sealed as far
    pub sealed : told → (u : PageBlob S gs) → j.sections.held t.section ≡ Some u → t.size
        < size_of (shown u)
        → t.size ≤ length (sealed_prefix seal u.page_size (d (key_of j.sections t.section)).content)
    -- no other section owes a replay
    pub owes : (s : ℕ) → IsTrue (j.unrecovered s) → s ≡ t.section
    -- above 0 bytes the section is held
    pub there : 0 < t.size → IsHeld j.sections t.section
    -- all bytes have settled
    pub idle : (s : ℕ) (u : PageBlob S gs) → j.sections.held s ≡ Some u
        → is_unsettled (shown u) ≡ false

module _ {A : Type 0} (seal : List ℕ → ℕ) (P size : ℕ) (partition : List ℕ) (at bytes : ℕ)
    (spelling : A → List ℕ)
    (accepted : A → Unit {0} → Type 0) where
  -- The boundary of a section, as the check shows it.
  abbrev pub IsShown : Disk → ℕ → Option A → Type 0
  IsShown d s None = boundary_at seal P size partition at bytes d s ≡ 0
  IsShown d s (Some v) = (0 < boundary_at seal P size partition at bytes d s)
      × IsBoundary seal P size spelling accepted (d (section_key partition s)).content
      (boundary_at seal P size partition at bytes d s / size) v

  -- Of the sections that are named those with a boundary were checked, and no other section was.
  pub record AreChecked (IsNamed : ℕ → Type 0) (told : Type 0) (f : Floors A) (d : Disk) : Type 0
    where
      -- each shows its boundary
      pub shows : told → (s : ℕ) → IsNamed s → IsUnder seal P size partition at bytes d s
          → IsSomeAnd (f.boundary_of s) (IsShown d s)
      -- which is its floor
      pub floors : told → (s : ℕ) → IsNamed s → IsUnder seal P size partition at bytes d s
          → f.floor_of s ≡ boundary_at seal P size partition at bytes d s
      -- and was not refused
      pub passed : told → (s : ℕ) → IsNamed s → IsUnder seal P size partition at bytes d s
          → IsPassed seal P size partition at bytes d spelling accepted s
      -- no other section shows one
      pub others : (s : ℕ) → (IsNamed s → ⊥) → (f.boundary_of s ≡ None) × (f.floor_of s ≡ 0)
      -- nor does one that has none
      pub free : told → (s : ℕ) → (IsUnder seal P size partition at bytes d s → ⊥)
          → (f.boundary_of s ≡ None) × (f.floor_of s ≡ 0)

  -- The check has come so far: the sections k are still those that were opened, m, and the named
  -- ones were checked.
  pub record HasCome {F S : Type 0} {gs : _} (IsNamed : ℕ → Type 0) (told : Type 0)
      (m k : Sections F (PageBlob S gs)) (f : Floors A) (d : Disk) : Type 0 where
    -- none of them has changed
    pub same : k ≡ m
    -- the named ones with a boundary show it, and no other does
    pub checked : AreChecked IsNamed told f d
    -- also where no disk is told, an earlier one has no more bytes than its floor, and no fewer
    pub ends : (s : ℕ) → IsNamed s → s < at → IsHeld m s → f.floor_of s ≡ section_size m s

  -- What the check of a checkpoint found.
  pub record Found (told : Type 0) (f : Floors A) (d : Disk) : Type 0 where
    -- all sections with a boundary were checked
    pub checked : AreChecked (λ s. ⊤) told f d
    -- `finish` cuts there
    pub target : IsSomeAnd f.target (λ t. (t.section ≡ at) × (t.size ≡ bytes))

  module _ {S : Type 0} {gs : _} (g : buffer.Ghosts (PageBlob S gs))
      (gives : AppendFactory S → Setting) (told : Type 0) (pages : Pages) (write_buffer : ℕ) where
    -- The journal j was opened for the check, and nothing was written.
    pub record IsOpenedFor (j : Lists (AppendFactory S) (PageBlob S gs)) (opened : OpenedList)
        (from d : Disk) : Type 0 where
      -- `finish` may cut it
      pub ready : (t : Target) → (t.section ≡ at) × (t.size ≡ bytes)
          → IsReady g gives seal size told j t opened d
      -- it holds the sections up to the checkpoint's that are there
      pub held : told → (s : ℕ) → s < 2 ^ 64 → IsHeld j.sections s
          ↔ (IsTrue (from (section_key partition s)).there × (s ≤ at))
      -- and knows the later ones
      pub unopened : told → (s : ℕ) → s < 2 ^ 64 → IsSome (j.sections.unopened s)
          ↔ (IsTrue (from (section_key partition s)).there × (at < s))
      -- also where no disk is told, it knows no other but those
      pub later : (s : ℕ) → IsSome (j.sections.unopened s) → at < s
      -- each has the bytes that adopting its blob finds
      pub contents : told → (s : ℕ) → IsHeld j.sections s → section_bytes j.sections d s
          ≡ adopted_bytes seal P (from (section_key partition s)).content
      -- all of them have settled
      pub idle : (s : ℕ) (u : PageBlob S gs) → j.sections.held s ≡ Some u → is_unsettled (shown u)
          ≡ false
      -- the partition is that of the configuration
      pub partition_is : j.sections.partition ≡ partition
      -- so are the pages
      pub pages_are : j.sections.factory.pages ≡ pages
      -- and the write buffer
      pub write_buffer_is : j.sections.factory.write_buffer ≡ write_buffer
      -- the bound of the opening is the checkpoint's section
      pub ceiling : j.sections.ceiling ≡ at

  module _ {T D : Type 0} (refusal : List ℕ → Unit {0} → Option codec.Error) (dev : device.Ghosts D)
      (result : Result T Error) (old new : D) where
    -- An earlier section than this one, that has a boundary, was checked and not refused.
    abbrev pub PassesBelow : ℕ → Type 0
    PassesBelow n = (s : ℕ) → s < n → IsUnder seal P size partition at bytes (disk (dev.time old)) s
        → IsPassed seal P size partition at bytes (disk (dev.time old)) spelling accepted s

    -- A part of the check, over sections m that stay as they were opened: nothing is written.
    pub record Looks {F S : Type 0} {gs : _} (g : buffer.Ghosts (PageBlob S gs))
        (gives : F → Setting) (m : Sections F (PageBlob S gs)) (Ends : T → Type 0) : Type 0 where
      -- they are those of the partition
      pub over : IsOver g gives dev.Tells m (dev.opened new) (disk (dev.time new))
      -- this was found
      pub ends : IfOk result Ends
      -- no blob's history changes
      pub unchanged : dev.Tells → Unchanged (dev.time old) (dev.time new)
      -- no blob but those of sections up to the checkpoint's is read
      pub entries : (q : Key) → ((s : ℕ) → s ≤ at → q ≢ key_of m s) → dev.opened new q
          ≡ dev.opened old q
      -- the damage is that of the first section that is refused
      pub damage : dev.Tells → (x : Damage) → IsErrOf result (Corruption x)
          → IsUnder seal P size partition at bytes (disk (dev.time old)) x.section
          × IsCheckpointRefused seal P size partition at bytes (disk (dev.time old)) x.section x
          × PassesBelow x.section
      -- so is the codec's error
      pub refused : dev.Tells → (e : codec.Error) → IsErrOf result (Codec e) → (s : ℕ)
          × IsUnder seal P size partition at bytes (disk (dev.time old)) s
          × IsCheckpointItemRefused seal P size partition at bytes (disk (dev.time old)) refusal s e
          × PassesBelow s
      -- faults are counted on
      pub faults : dev.faults old ≤ dev.faults new
      -- nothing else is answered but a fault or want of memory
      pub cause : OnErr result (((x : Damage) × IsErrOf result (Corruption x))
          ⊎ (((e : codec.Error) × IsErrOf result (Codec e))
          ⊎ HasFailed result (dev.faults old) (dev.faults new)))

    -- A checkpoint was checked, and no byte was written.
    pub record Checks (Ends : T → Type 0) : Type 0 where
      -- at each moment, also where the call fails, each blob is as before, or settled as it read
      pub moments : dev.Tells → Always (dev.time old) (dev.time new)
          (Each (IsSettling partition at (disk (dev.time old))))
      -- this was found
      pub ends : IfOk result Ends
      -- a checkpoint that ends within an item is refused at once, and it alone before the names are
      -- looked at
      pub partial : bytes % size ≢ 0 → IsErrOf result
          (Corruption (record { section = at; kept = bytes; wanted = whole_of size bytes }))
          × (new ≡ old)
      -- then a name that is no section's is refused, also behind the checkpoint, before anything is
      -- opened
      pub names : bytes % size ≡ 0 → RefusesNames dev partition result old new
      -- the damage is that of a section with a boundary
      pub damage : dev.Tells → (x : Damage) → IsErrOf result (Corruption x)
          → IsUnder seal P size partition at bytes (disk (dev.time old)) x.section
          × IsCheckpointRefused seal P size partition at bytes (disk (dev.time old)) x.section x
      -- the first that is refused, where the checkpoint ends behind an item
      pub first : dev.Tells → bytes % size ≡ 0 → (x : Damage) → IsErrOf result (Corruption x)
          → PassesBelow x.section
      -- there is none where all that it keeps is sealed
      pub whole : dev.Tells → ((s : ℕ) → IsUnder seal P size partition at bytes
          (disk (dev.time old)) s → IsKept seal P size partition at bytes (disk (dev.time old)) s)
          → (x : Damage) → IsErrOf result (Corruption x) → ⊥
      -- the codec's error is that of the last item below a boundary, of the first section that is
      -- refused
      pub refused : dev.Tells → (e : codec.Error) → IsErrOf result (Codec e) → (s : ℕ)
          × IsUnder seal P size partition at bytes (disk (dev.time old)) s
          × IsCheckpointItemRefused seal P size partition at bytes (disk (dev.time old)) refusal s e
          × PassesBelow s
      -- the list of opened blobs changes for sections up to the checkpoint alone
      pub entries : (q : Key) → ((s : ℕ) → s ≤ at → q ≢ section_key partition s) → dev.opened new q
          ≡ dev.opened old q
      -- faults are counted on
      pub faults : dev.faults old ≤ dev.faults new
      -- nothing else is answered but a fault or want of memory
      pub cause : OnErr result (((n : List ℕ) × IsErrOf result (InvalidBlobName n))
          ⊎ (((x : Damage) × IsErrOf result (Corruption x))
          ⊎ (((e : codec.Error) × IsErrOf result (Codec e))
          ⊎ HasFailed result (dev.faults old) (dev.faults new))))

-- ---- what `finish` does

module _ {F S : Type 0} {gs : _} (g : buffer.Ghosts (PageBlob S gs)) (gives : F → Setting)
    (seal : List ℕ → ℕ) (size : ℕ) where
  module _ {D : Type 0} (dev : device.Ghosts D) (j : Lists F (PageBlob S gs))
      (result : Result (Lists F (PageBlob S gs)) Error) (old new : D) where
    -- Where markers were checked the journal is given as it was opened.
    pub record GivesCheckpoint : Type 0 where
      -- it is that one
      pub same : IfOk result (λ k. k ≡ j)
      -- no call of the device is made
      pub unchanged : new ≡ old
      -- it is never refused
      pub cause : OnErr result ⊥

    -- The journal k is restored: cut to the checkpoint, and no section owes a replay.
    pub record IsRestored (t : Target) (k : Lists F (PageBlob S gs)) : Type 0 where
      -- it may be used
      pub over : IsJournal g gives seal size dev.Tells k (dev.opened new) (disk (dev.time new))
      -- but for the replay that the section owed it is what the cut made of j
      pub cut : (i : Lists F (PageBlob S gs)) × IsTailCut g gives seal size dev.Tells j t.section
          t.size i (dev.opened new) (disk (dev.time old)) (disk (dev.time new))
          × (k.sections ≡ i.sections) × ((s : ℕ) → k.floor_of s ≡ i.floor_of s)
      -- no section owes a replay
      pub recovered : (s : ℕ) → k.unrecovered s ≡ false
      -- all bytes have settled
      pub idle : (s : ℕ) (u : PageBlob S gs) → k.sections.held s ≡ Some u
          → is_unsettled (shown u) ≡ false
      -- of the checkpoint's section there is what it says
      pub size_is : section_size k.sections t.section ≡ t.size

    -- Where a checkpoint was, all behind it is removed.
    pub record Restores (t : Target) : Type 0 where
      -- at each moment, also where the call fails
      pub moments : dev.Tells → Always (dev.time old) (dev.time new)
          (CuttingTail seal j t.section t.size (disk (dev.time old)))
      -- this is the journal then
      pub ends : IfOk result (IsRestored t)
      -- where there is nothing to remove or to cut, no call of the device is made
      pub idle : ((s : ℕ) → IsKnown j.sections s → s ≤ t.section)
          → (IsSomeAnd (j.sections.held t.section) (λ u. t.size < size_of (shown u)) → ⊥)
          → new ≡ old
      -- entries of removed blobs leave the list, and only the section's own changes
      pub entries : (q : Key) → q ≢ key_of j.sections t.section
          → (dev.opened new q ≡ dev.opened old q)
          ⊎ (IsKeyOf j.sections (λ s. IsKnown j.sections s × (t.section < s)) q
          × (dev.opened new q ≡ None))
      -- faults are counted on
      pub faults : dev.faults old ≤ dev.faults new
      -- no page is damaged, where the disk is told
      pub damage : dev.Tells → HasDamage result → ⊥
      -- nothing is answered but a fault or want of memory
      pub cause : OnErr result (HasDamage result ⊎ HasFailed result (dev.faults old)
          (dev.faults new))

    -- What `finish` does, by what was checked.
    abbrev pub Finishes : Option Target → Type 0
    Finishes None = GivesCheckpoint
    Finishes (Some t) = Restores t
