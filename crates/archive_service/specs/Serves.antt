-- What a run of commands over a store promises: its replies are a run of the kind's machine, and at every moment,
-- whatever becomes of it, each crash leaves a lawful image that stands for what was submitted, with all that was
-- synced.
use Rattle.std.specs.Prelude.{◌≡◌, ◌≢◌, ◌⊎◌, ⊤, ℕ, zero, suc, ◌+◌, ◌*◌, ◌≤◌, ◌<◌, List, [], ◌∷◌, length, get_or, slice_get, Option, Some, None}
use Rattle.blob_device.specs.Counts.{Rose}
use Rattle.blob_device.specs.Disk.{Disk, Key, NothingPending}
use Rattle.blob_device.specs.Footprint.{Footprint, NoBound}
use Rattle.blob_device.specs.Timeline.{Timeline, disk, Stretches}
use Rattle.blob_device.specs.declared.device.Device as device
use Rattle.paired.specs.Opening.{as_read}
use Rattle.archives.specs.Changes.{Asked, NoneThere, Replied}
use Rattle.archives.specs.Commands.{Reopen}
use Rattle.archives.specs.Refusing.{IsFault}
use Rattle.archives.specs.declared.error.Error.{Error}
use Rattle.archives.specs.declared.error.Error.TheVariants.{Mem}
use Rattle.archive_service.specs.Kinds.{Kind}
use Rattle.archive_service.specs.declared.replies.End.{End}
use Rattle.archive_service.specs.declared.replies.End.TheVariants.{Done, Failed}

-- The call is cut into stretches. Stretch 0 goes from its beginning to the first mark: the archive is opened, and no
-- command is under way. Stretch i + 1 goes from mark i to the next one, or to the end: command i is under way, for
-- good where it ends in an error.
abbrev pub under_way : List Asked → ℕ → Option Asked
under_way commands zero = None
under_way commands (suc i) = slice_get commands i

-- the state in a stretch is the one after the replies before it
abbrev pub state_in : {St : Type 0} → (ℕ → St) → ℕ → St
state_in states zero = states 0
state_in states (suc i) = states i

-- the number of calls at which a stretch begins
abbrev pub begin : Timeline → Timeline → List ℕ → ℕ → ℕ
begin old new marks i = get_or (old.calls ∷ marks) i new.calls

-- How many commands were begun. Each has a mark: all of them where the run is done; else those that have a reply and
-- the one that failed. None was under way where the opening failed, or where there was no memory for a mark.
abbrev pub Begun : End → ℕ → ℕ → ℕ → Type 0
Begun Done commands marks replies = (marks ≡ commands) × (replies ≡ commands)
Begun (Failed e) commands marks replies =
    (marks ≤ commands) × ((marks ≡ replies + 1) ⊎ ((marks ≡ replies) × ((e ≡ Mem) ⊎ (replies ≡ 0))))

-- where a run failed, its error has P
abbrev pub IfFailed : End → (Error → Type 0) → Type 0
IfFailed Done P = ⊤
IfFailed (Failed e) P = P e

-- the disk at which stretch i begins
abbrev pub disk_at : Timeline → Timeline → List ℕ → ℕ → Disk
disk_at old new marks i = new.at (2 * begin old new marks i)

-- From one moment of a timeline to another, each blob but these stays as it was at the first.
abbrev pub StaysBut : Timeline → ℕ → ℕ → (Key → Type 0) → Type 0
StaysBut t from to MayChange = (m : ℕ) → from ≤ m → m ≤ to → (q : Key) → (MayChange q → ⊥) → t.at m q ≡ t.at from q

module _ (k : Kind) where
  -- The replies are those of a run over the first of the commands: state i is the one after i replies. What is held
  -- after a `Reopen` is what an opening of the image comes to, as it read at the command's first moment, so that its
  -- cut is no free choice. And no command got a reply that has to be refused. `first i` is the disk at the first
  -- moment of command i.
  pub record IsRun (first : ℕ → Disk) (commands : List Asked) (replies : List Replied)
      (states : ℕ → k.State) : Type 0 where
    -- no more replies than commands
    pub enough : length replies ≤ length commands
    -- each reply is a step
    pub steps : (i : ℕ) (command : Asked) (reply : Replied) → slice_get commands i ≡ Some command
        → slice_get replies i ≡ Some reply
        → k.Step (states i) command reply (states (i + 1))
    -- a reopening comes to the start state of what the disk kept
    pub reopened : (i : ℕ) → i < length replies → slice_get commands i ≡ Some Reopen
        → k.IsStart (as_read (first i)) (states (i + 1))
    -- no command was answered that has to be refused
    pub allowed : (i : ℕ) (command : Asked) → i < length replies
        → slice_get commands i ≡ Some command → k.MustRefuse (states i) (first i) command → ⊥

  module _ (old new : Timeline) (commands : List Asked) (marks : List ℕ) where
    -- The headline. The numbers are the device's counts of faults before and after.
    pub record Serves (faults_old faults_new : ℕ) (replies : List Replied) (end : End) : Type 0 where
      -- the state after each reply
      pub states : ℕ → k.State
      -- So many commands were begun, as over any device.
      pub begun : Begun end (length commands) (length marks) (length replies)
      -- The first one is the start state of the image as it read: what it keeps counts as submitted and synced.
      pub start : k.IsStart (as_read (disk old)) (states 0)
      -- Where the opening was done, it did not have to be refused.
      pub allowed : (marks ≢ []) ⊎ (end ≡ Done) → k.MustRefuse (states 0) (disk old) Reopen → ⊥
      -- The replies are a run from there.
      pub run : IsRun (λ i. disk_at old new marks (i + 1)) commands replies states
      -- At every moment, from the beginning of the call to its end, inside each call of the device, and after an
      -- error as well, each image that a crash leaves without a chance seal is lawful and stands for the state at
      -- that moment with the command under way.
      pub moments : Stretches old new (old.calls ∷ marks) (λ i. k.Leaves (state_in states i) (under_way commands i))
      -- Where each command that was begun has its reply, the end stands for the state behind the last of them, with
      -- none under way.
      pub rest : length marks ≡ length replies → k.Leaves (states (length replies)) None (disk new)
      -- An error has its cause, by the state and the command at which it came. Want of memory is free.
      pub stopped : (e : Error) → end ≡ Failed e → e ≢ Mem
          → k.IsCause (state_in states (length marks)) (under_way commands (length marks))
          (disk_at old new marks (length marks)) e
      -- A fault is the device's.
      pub fault : IfFailed end (λ e. IsFault e → Rose faults_old faults_new)
      -- A refusal writes nothing.
      pub unwritten : (e : Error) (command : Asked) → end ≡ Failed e → e ≢ Mem
          → under_way commands (length marks) ≡ Some command
          → k.Refuses (state_in states (length marks)) command e
          → StaysBut new (2 * begin old new marks (length marks)) (2 * new.calls) (λ q. ⊥)

    -- From any image on, on a device that tells its disk: of a run that got so many replies.
    pub record OverAnyImage (replied : ℕ) (end : End) : Type 0 where
      -- While a command is under way, to the start of the next one or to the end of the call, no blob changes but
      -- those that it may change: none by a lookup, and by a put that does not sync the two of its section.
      pub touched : (i : ℕ) (command : Asked) → i < length marks
          → slice_get commands i ≡ Some command
          → StaysBut new (2 * begin old new marks (i + 1)) (2 * begin old new marks (i + 2)) (k.MayChange command)
      -- What the store knows of itself after each reply.
      pub known : ℕ → k.Known
      -- What it knew once it was opened.
      pub found : marks ≢ [] → k.IsFound (disk old) (disk_at old new marks 1) (known 0)
      -- What a reply adds to it, also the last one.
      pub learns : (i : ℕ) (command : Asked) → i < replied
          → slice_get commands i ≡ Some command
          → k.Learns (known i) command (disk_at old new marks (i + 1)) (disk_at old new marks (i + 2)) (known (i + 1))
      -- Where a command got its reply, no blob that it clears away is there: by a prune those of the sections
      -- below its bound, and by a destroy all of the archive.
      pub cleared : (i : ℕ) (command : Asked) → i < replied → slice_get commands i ≡ Some command
          → NoneThere (k.Clears (known i) command) (disk_at old new marks (i + 2))
      -- A command that makes no call of the device ends where it began.
      pub quiet : (i : ℕ) (command : Asked) → i < length marks → slice_get commands i ≡ Some command
          → k.IsQuiet (known i) command
          → begin old new marks (i + 2) ≡ begin old new marks (i + 1)
      -- By what was known, no command got a reply that has to be refused.
      pub allowed : (i : ℕ) (command : Asked) → i < replied → slice_get commands i ≡ Some command
          → k.MustRefuseAnywhere (known i) (disk_at old new marks (i + 1)) command → ⊥
      -- Nor was an opening done that has to be.
      pub opened : (marks ≢ []) ⊎ (end ≡ Done) → k.MustRefuseAnywhere k.unknown (disk old) Reopen → ⊥
      -- An error has its cause by what was known.
      pub cause : (e : Error) → end ≡ Failed e → e ≢ Mem
          → k.IsCauseAnywhere (state_in known (length marks)) (under_way commands (length marks))
          (disk_at old new marks (length marks)) (disk new) e
      -- A refusal writes nothing.
      pub unwritten : (e : Error) (command : Asked) → end ≡ Failed e → e ≢ Mem
          → under_way commands (length marks) ≡ Some command
          → k.RefusesAnywhere (state_in known (length marks)) command e
          → StaysBut new (2 * begin old new marks (length marks)) (2 * new.calls) (λ q. ⊥)

  -- What serving promises of a device, once as it was and once as it is: how many commands were begun, and, over any
  -- device, that blobs of others are left alone, at every moment and in the list of opened blobs; which blobs each
  -- command touched and why it ended, over any image; and the headline, from a lawful image on of which nothing is
  -- pending.
  pub record ServesBy {D : Type 0} (dev : device.Ghosts D) (commands : List Asked) (marks : List ℕ)
      (replies : List Replied) (end : End)
      (old new : D) : Type 0 where
    -- So many commands were begun.
    pub begun : Begun end (length commands) (length marks) (length replies)
    -- A fault is the device's.
    pub fault : IfFailed end (λ e. IsFault e → Rose (dev.faults old) (dev.faults new))
    -- Blobs of others are left alone.
    pub footprint : Footprint dev k.IsOwn NoBound old new
    -- What holds over any image,
    pub anywhere : dev.Tells
        → OverAnyImage (dev.time old) (dev.time new) commands marks (length replies) end
    -- and from a lawful one on.
    pub serves : dev.Tells → NothingPending (disk (dev.time old))
        → k.Lawful (as_read (disk (dev.time old)))
        → Serves (dev.time old) (dev.time new) commands marks (dev.faults old) (dev.faults new) replies end
