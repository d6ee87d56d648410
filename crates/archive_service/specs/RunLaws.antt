-- What follows of a run over a prunable archive: what a completed sync outlasts, that the run is complete, and that a
-- run over what a crash left of it goes on from there.
use Rattle.std.specs.Prelude.{◌≡◌, ◌⊎◌, ⊤, ℕ, ◌+◌, ◌*◌, ◌<◌, ◌≤◌, ◌^◌, List, length, take, slice_get, Option, Some}
use Rattle.blob_device.specs.Counts.{Rose}
use Rattle.blob_device.specs.Disk.{Disk, Image, IsCrashOf, NothingPending, settled_disk}
use Rattle.blob_device.specs.Timeline.{Timeline, disk}
use Rattle.paired.specs.Crashes.{HoldMarkers, NoChanceSeal}
use Rattle.paired.specs.Kept.{Markers}
use Rattle.paired.specs.Opening.{as_read}
use Rattle.archives.specs.Changes.{Asked, Replied}
use Rattle.archives.specs.Filing.{Filing, kept}
use Rattle.archives.specs.Lawful.{Lawful}
use Rattle.archives.specs.Machine.{State, section_of}
use Rattle.archives.specs.Opening.{HasNoVersion}
use Rattle.archives.specs.Replies as reply
use Rattle.archives.specs.Standing.{IsStart, StandsFor}
use Rattle.archives.specs.declared.error.Error.{Error}
use Rattle.archives.specs.declared.error.Error.TheVariants.{Mem}
use Rattle.archive_service.specs.Causes.{Adds, IsRefusedAsFull, IsRefusedAsTooLarge, MustMoveNow}
use Rattle.archive_service.specs.Families.{AsksHeld, AsksStored, Family, DestroysAll, OpensAnew, PrunesBelow, PutsDurably, PutsRecord, SyncsAll, family_of}
use Rattle.archive_service.specs.PrunableKind.{prunable_kind}
use Rattle.archive_service.specs.Serves.{Serves, begin, disk_at, state_in, under_way}
use Rattle.archive_service.specs.declared.replies.End.{End}
use Rattle.archive_service.specs.declared.replies.End.TheVariants.{Failed}

-- once it got its reply, all that the state then has is durable
abbrev pub IsSyncing : Family → Type 0
IsSyncing (PutsDurably put) = ⊤
IsSyncing SyncsAll = ⊤
IsSyncing OpensAnew = ⊤
IsSyncing AsksHeld = ⊥
IsSyncing AsksStored = ⊥
IsSyncing (PutsRecord put) = ⊥
IsSyncing (PrunesBelow bound) = ⊥
IsSyncing DestroysAll = ⊥

-- it may take the records of a section away
abbrev pub MayTake : ℕ → Family → ℕ → Type 0
MayTake items (PrunesBelow bound) s = s < section_of items bound
MayTake items DestroysAll s = ⊤
MayTake items AsksHeld s = ⊥
MayTake items AsksStored s = ⊥
MayTake items (PutsRecord put) s = ⊥
MayTake items (PutsDurably put) s = ⊥
MayTake items SyncsAll s = ⊥
MayTake items OpensAnew s = ⊥

-- command i is one that syncs, and was carried out
pub record HasSynced (commands : List Asked) (replies : List Replied) (i : ℕ) : Type 0 where
  -- it is this one
  pub command : Asked
  -- by its place
  pub is : slice_get commands i ≡ Some command
  -- it was carried out
  pub done : slice_get replies i ≡ Some reply.Done
  -- it syncs
  pub syncs : IsSyncing (family_of command)

-- no command behind i, of the first n, takes the section away
abbrev pub IsSpared : ℕ → List Asked → ℕ → ℕ → ℕ → Type 0
IsSpared items commands i n s = (j : ℕ) (command : Asked) → i < j → j < n → slice_get commands j ≡ Some command
    → MayTake items (family_of command) s → ⊥

module _ (f : Filing) where
  -- each image that a crash leaves without a chance seal holds markers, and keeps the records of a section that are
  -- in the state, first
  abbrev pub KeepsRecords : State (List ℕ) → ℕ → Disk → Type 0
  KeepsRecords st s d = (image : Image) → IsCrashOf d image → NoChanceSeal f.layout d image
      → (markers : Markers) × HoldMarkers f.layout image markers
      × (take (length (st.lists s)) (kept f image markers s) ≡ st.lists s)

  -- An image that a crash left, with this state and this command under way, without a chance seal: a device that has
  -- it may be served, from a start state on, and stands for what was submitted by then.
  pub record IsNext (st : State (List ℕ)) (under_way : Option Asked) (image : Image) : Type 0 where
    -- nothing is pending
    pub nothing_pending : NothingPending (settled_disk image)
    -- these are its markers
    pub markers : Markers
    -- it is lawful by them
    pub lawful : Lawful f (as_read (settled_disk image)) markers
    -- this is the state
    pub next : State (List ℕ)
    -- from which a run over it starts
    pub start : IsStart f (as_read (settled_disk image)) markers next
    -- it stands for what was submitted by then
    pub stands : StandsFor f st under_way (as_read (settled_disk image))

  -- what is under way had a reason to be refused: a put by `Full` or `ValueTooLarge`, or a marker to move without a
  -- next version
  abbrev pub HadToRefuse : State (List ℕ) → Option Asked → Disk → Type 0
  HadToRefuse st under_way from = Adds f st under_way (λ r. IsRefusedAsFull f st r ⊎ IsRefusedAsTooLarge f st r)
      ⊎ (MustMoveNow f st from under_way × HasNoVersion f.layout from)

  -- Of a run, by the states after its replies.
  module _ (old new : Timeline) (commands : List Asked) (marks : List ℕ) (states : ℕ → State (List ℕ)) where
    -- After a completed sync each crash without a chance seal leaves each record of the state after it, until a
    -- prune or a destroy that covers it begins.
    pub record IsOutlasting (replies : List Replied) : Type 0 where
      -- while the command of a later mark is under way,
      pub moments : (i t s : ℕ) → HasSynced commands replies i → s < 2 ^ 64 → i + 2 ≤ t
          → t ≤ length marks → IsSpared f.items commands i t s
          → (m : ℕ) → 2 * begin old new marks t ≤ m → m ≤ 2 * begin old new marks (t + 1)
          → KeepsRecords (states (i + 1)) s (new.at m)
      -- and at the end, where each command that was begun has its reply
      pub rest : (i s : ℕ) → HasSynced commands replies i → s < 2 ^ 64
          → length marks ≡ length replies → IsSpared f.items commands i (length marks) s
          → KeepsRecords (states (i + 1)) s (disk new)

    -- Where no count of faults rose and nothing had to be refused, it was done, or memory was short.
    abbrev pub IsComplete : ℕ → ℕ → End → Type 0
    IsComplete faults_old faults_new end = (Rose faults_old faults_new → ⊥)
        → (HadToRefuse (state_in states (length marks)) (under_way commands (length marks))
        (disk_at old new marks (length marks)) → ⊥)
        → (e : Error) → end ≡ Failed e → e ≡ Mem

    -- what a crash left at a moment of stretch t may be served, and goes on from there
    abbrev pub GoesOn : Type 0
    GoesOn = (t m : ℕ) (image : Image) → t ≤ length marks → 2 * begin old new marks t ≤ m
        → m ≤ 2 * begin old new marks (t + 1)
        → IsCrashOf (new.at m) image → NoChanceSeal f.layout (new.at m) image
        → IsNext (state_in states t) (under_way commands t) image

module _ (f : Filing) (write_buffer value_buffer : ℕ) (old new : Timeline) (commands : List Asked) (marks : List ℕ)
    (faults_old faults_new : ℕ) (replies : List Replied)
    (end : End) where
  -- the run is one as promised
  abbrev pub IsServed : Type 0
  IsServed = Serves (prunable_kind f write_buffer value_buffer) old new commands marks faults_old faults_new replies end

  -- What follows of the promise, of the states that it speaks of.
  pub record RunLaws (served : IsServed) : Type 0 where
    -- what was synced outlasts each crash
    pub outlasting : IsOutlasting f old new commands marks served.states replies
    -- without faults and refusals it was done, or memory was short
    pub complete : IsComplete f old new commands marks served.states faults_old faults_new end
    -- a run over what a crash left goes on from there
    pub next : GoesOn f old new commands marks served.states
