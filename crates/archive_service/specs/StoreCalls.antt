-- What contracts promise of a store of a kind: of an opening, and of one command.
use Rattle.std.specs.Prelude.{◌≡◌, None, Some, Result, Ok, Err}
use Rattle.blob_device.specs.Counts.{Rose}
use Rattle.blob_device.specs.Disk.{Disk, Image, Key, NothingPending}
use Rattle.blob_device.specs.Footprint.{Footprint, NoBound}
use Rattle.blob_device.specs.Opened.{OpenedList}
use Rattle.blob_device.specs.Timeline.{Always, disk}
use Rattle.blob_device.specs.declared.device.Device as device
use Rattle.sealed_pages.specs.Reading.{Unchanged}
use Rattle.paired.specs.Opening.{as_read}
use Rattle.archives.specs.Changes.{Asked, NoneThere, Replied}
use Rattle.archives.specs.Commands.{Reopen}
use Rattle.archives.specs.Refusing.{IsFault}
use Rattle.archives.specs.declared.error.Error.{Error}
use Rattle.archive_service.specs.Kinds.{Kind}

-- What contracts see of the stores A of a kind, which are kept by one configuration.
pub record Serving (A V : Type 0) : Type 1 where
  -- of which kind they are
  pub kind : Kind
  -- a lawful image has a start state
  pub starts : (image : Image) → kind.Lawful image → (st : kind.State) × kind.IsStart image st
  -- the configuration is valid
  pub IsValid : Type 0
  -- it allows the value
  pub Accepts : V → Type 0
  -- the store is one of this configuration, and may be used with a device that has opened these blobs, over this disk
  -- where the device tells its disk
  pub IsUsable : A → Type 0 → OpenedList → Disk → Type 0
  -- the disk has what is held in good order
  pub IsSound : A → Disk → Type 0
  -- what is held over the disk
  pub state : A → Disk → kind.State
  -- what it knows of itself
  pub known : A → kind.Known

module _ {A V D : Type 0} (s : Serving A V) (dev : device.Ghosts D) where
  abbrev pub MayUse : A → D → Type 0
  MayUse a d = s.IsUsable a dev.Tells (dev.opened d) (disk (dev.time d))

  abbrev pub IsSoundOver : A → D → Type 0
  IsSoundOver a d = s.IsSound a (disk (dev.time d))

  abbrev pub state_over : A → D → s.kind.State
  state_over a d = s.state a (disk (dev.time d))

  -- ---- one command

  -- The store a gave the reply, and is now r.
  pub record Answered (a : A) (command : Asked) (r : A) (reply : Replied) (old new : D) : Type 0 where
    -- it goes on as a store of the configuration
    pub usable : MayUse r new
    -- it is sound where the old one was
    pub sound : dev.Tells → IsSoundOver a old → IsSoundOver r new
    -- from a sound store on, the reply is a step of the machine
    pub step : dev.Tells → IsSoundOver a old
        → s.kind.Step (state_over a old) command reply (state_over r new)
    -- a reopening comes to the start state of the image as it read when the command began
    pub reopened : dev.Tells → IsSoundOver a old → command ≡ Reopen
        → s.kind.IsStart (as_read (disk (dev.time old))) (state_over r new)
    -- the command did not have to be refused
    pub allowed : dev.Tells → IsSoundOver a old
        → s.kind.MustRefuse (state_over a old) (disk (dev.time old)) command → ⊥
    -- each crash now leaves what stands for the new state
    pub rest : dev.Tells → IsSoundOver a old
        → s.kind.Leaves (state_over r new) None (disk (dev.time new))
    -- over any image: what the store then knows
    pub learns : dev.Tells
        → s.kind.Learns (s.known a) command (disk (dev.time old)) (disk (dev.time new)) (s.known r)
    -- no blob that the command clears away is there
    pub cleared : dev.Tells → NoneThere (s.kind.Clears (s.known a) command) (disk (dev.time new))
    -- by what it knew the command did not have to be refused
    pub allowed_anywhere : dev.Tells
        → s.kind.MustRefuseAnywhere (s.known a) (disk (dev.time old)) command → ⊥

  -- The store a gave no reply.
  pub record Unanswered (a : A) (command : Asked) (e : Error) (old new : D) : Type 0 where
    -- from a sound store on, the error has its cause
    pub cause : dev.Tells → IsSoundOver a old
        → s.kind.IsCause (state_over a old) (Some command) (disk (dev.time old)) e
    -- a refusal writes nothing
    pub unwritten : dev.Tells → IsSoundOver a old → s.kind.Refuses (state_over a old) command e
        → Unchanged (dev.time old) (dev.time new)
    -- over any image: the cause by what the store knew
    pub anywhere : dev.Tells
        → s.kind.IsCauseAnywhere (s.known a) (Some command) (disk (dev.time old)) (disk (dev.time new)) e
    -- a refusal by that writes nothing
    pub unwritten_anywhere : dev.Tells → s.kind.RefusesAnywhere (s.known a) command e
        → Unchanged (dev.time old) (dev.time new)
    -- over any device
    pub fault : IsFault e → Rose (dev.faults old) (dev.faults new)

  abbrev pub AnswerEnds : A → Asked → Result (A × Replied) Error → D → D → Type 0
  AnswerEnds a command (Ok r) old new = Answered a command r.0 r.1 old new
  AnswerEnds a command (Err e) old new = Unanswered a command e old new

  -- One command, with its values as spelled, of the store a.
  pub record Answers (a : A) (command : Asked) (result : Result (A × Replied) Error) (old new : D) : Type 0 where
    -- at each moment, also where it fails, each crash leaves what stands for the state with the command under way
    pub moments : dev.Tells → IsSoundOver a old
        → Always (dev.time old) (dev.time new) (s.kind.Leaves (state_over a old) (Some command))
    -- from any image on: no blob is touched but those that the command may change
    pub alone : dev.Tells
        → Always (dev.time old) (dev.time new)
        (λ d. (q : Key) → (s.kind.MayChange command q → ⊥) → d q ≡ disk (dev.time old) q)
    -- over any device: blobs of others are left alone
    pub footprint : Footprint dev s.kind.IsOwn NoBound old new
    -- a command that makes no call of the device leaves it as it was
    pub quiet : dev.Tells → s.kind.IsQuiet (s.known a) command → new ≡ old
    -- the reply, or the error
    pub ends : AnswerEnds a command result old new

  -- ---- the opening

  -- The store r was opened.
  pub record IsOpened (r : A) (old new : D) : Type 0 where
    -- it is a store of the configuration
    pub usable : MayUse r new
    -- from a lawful image on, of which nothing is pending, it is sound
    pub sound : dev.Tells → NothingPending (disk (dev.time old))
        → s.kind.Lawful (as_read (disk (dev.time old))) → IsSoundOver r new
    -- its state is the start state of that image
    pub start : dev.Tells → NothingPending (disk (dev.time old))
        → s.kind.Lawful (as_read (disk (dev.time old)))
        → s.kind.IsStart (as_read (disk (dev.time old))) (state_over r new)
    -- no more than a reopening did the opening have to be refused
    pub allowed : dev.Tells → NothingPending (disk (dev.time old))
        → s.kind.Lawful (as_read (disk (dev.time old)))
        → s.kind.MustRefuse (state_over r new) (disk (dev.time old)) Reopen → ⊥
    -- each crash now leaves what stands for the state
    pub rest : dev.Tells → NothingPending (disk (dev.time old))
        → s.kind.Lawful (as_read (disk (dev.time old)))
        → s.kind.Leaves (state_over r new) None (disk (dev.time new))
    -- over any image: what the store then knows
    pub found : dev.Tells → s.kind.IsFound (disk (dev.time old)) (disk (dev.time new)) (s.known r)
    -- the opening did not have to be refused
    pub allowed_anywhere : dev.Tells
        → s.kind.MustRefuseAnywhere s.kind.unknown (disk (dev.time old)) Reopen → ⊥

  -- It was not. The causes are those of a start state, and over any image of what no store knows yet.
  pub record IsNotOpened (e : Error) (old new : D) : Type 0 where
    -- from a lawful image on, of which nothing is pending
    pub cause : dev.Tells → NothingPending (disk (dev.time old))
        → s.kind.Lawful (as_read (disk (dev.time old)))
        → (st : s.kind.State) → s.kind.IsStart (as_read (disk (dev.time old))) st
        → s.kind.IsCause st None (disk (dev.time old)) e
    -- over any image
    pub anywhere : dev.Tells → (known : s.kind.Known)
        → s.kind.IsCauseAnywhere known None (disk (dev.time old)) (disk (dev.time new)) e
    -- over any device
    pub fault : IsFault e → Rose (dev.faults old) (dev.faults new)

  abbrev pub OpeningEnds : Result A Error → D → D → Type 0
  OpeningEnds (Ok r) old new = IsOpened r old new
  OpeningEnds (Err e) old new = IsNotOpened e old new

  -- An opening by the configuration.
  pub record OpensStore (result : Result A Error) (old new : D) : Type 0 where
    -- at each moment each crash leaves what stands for the start state
    pub moments : dev.Tells → NothingPending (disk (dev.time old))
        → s.kind.Lawful (as_read (disk (dev.time old)))
        → (st : s.kind.State) → s.kind.IsStart (as_read (disk (dev.time old))) st
        → Always (dev.time old) (dev.time new) (s.kind.Leaves st None)
    -- over any device: blobs of others are left alone
    pub footprint : Footprint dev s.kind.IsOwn NoBound old new
    -- the store, or the error
    pub ends : OpeningEnds result old new
