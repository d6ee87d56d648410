-- What every archive promises of a call, whatever kind it is of: the call is the step of its command, at each moment
-- a crash leaves what stands for the state with that command under way, and no blob of anybody else is touched.
use Rattle.std.specs.Prelude.{◌≡◌, ◌⊎◌, ◌↔◌, ℕ, Bool, List, map, Option, Some, None, Result, Ok, Err, IfOk, IsTrue, option_map}
use Rattle.blob_device.specs.Counts.{Rose}
use Rattle.blob_device.specs.Disk.{Disk, Key}
use Rattle.blob_device.specs.Footprint.{Footprint, NoBound}
use Rattle.blob_device.specs.Opened.{OpenedList}
use Rattle.blob_device.specs.Timeline.{Always, disk}
use Rattle.blob_device.specs.declared.device.Device as device
use Rattle.sealed_pages.specs.Reading.{Unchanged}
use Rattle.archives.specs.Commands.{All, Command, Destroy, HasAt, IsOfEvery, IsOfSeveral, Start, Sync}
use Rattle.archives.specs.Finding.{Index, Wanted, get_command, has_command}
use Rattle.archives.specs.Machine as machine
use Rattle.archives.specs.Refusing.{IsFailure, IsFault}
use Rattle.archives.specs.Replies as reply
use Rattle.archives.specs.Replies.{Reply}
use Rattle.archives.specs.declared.error.Error.{Error}

-- commands and replies with keys as their bytes, and values as spelled
abbrev pub Asked : Type 0
Asked = Command (List ℕ)

abbrev pub Replied : Type 0
Replied = Reply (List ℕ)

-- no blob that has P is there
abbrev pub NoneThere : (Key → Type 0) → Disk → Type 0
NoneThere P d = (q : Key) → P q → IsTrue (d q).there → ⊥

-- a result whose value is seen so
abbrev pub outcome : {T U E : Type 0} → (T → U) → Result T E → Result U E
outcome see (Ok x) = Ok (see x)
outcome see (Err e) = Err e

-- What contracts see of the archives A of a kind, which keep values V.
pub record Meaning (A V : Type 0) : Type 1 where
  -- the states of its machine
  pub State : Type 0
  -- what one is as a state of the record machine
  pub seen : State → machine.State (List ℕ)
  -- and for how many indices a section of that has room
  pub items : A → ℕ
  -- the archive may be used with a device that has opened these blobs, over this disk where the device tells its disk
  pub IsUsable : A → Type 0 → OpenedList → Disk → Type 0
  -- the disk has what is held in good order, as it does from an opening of a lawful image on
  pub IsSound : A → Disk → Type 0
  -- what is held over the disk, with the spellings of values
  pub state : A → Disk → State
  -- in this archive the machine may give this reply to the command, and go on from one state to another
  pub Step : A → State → Asked → Replied → State → Type 0
  -- of a command that every archive has, each step is one of the record machine
  pub steps : (a : A) (st next : State) (command : Asked) (reply : Replied) → IsOfEvery command
      → Step a st command reply next → machine.Step (items a) (seen st) command reply (seen next)
  -- each crash of the disk without a chance seal leaves a lawful image that stands for the state, with this command
  -- under way
  pub Leaves : A → State → Option Asked → Disk → Type 0
  -- the blob is in a partition of the archive's, under a name that a blob of it may have
  pub IsOwn : A → Key → Type 0
  -- a record has this index: so it is in what is held, over a disk that is told
  pub has : A → ℕ → Bool
  -- so the state says it, over each disk that is told and over which the archive may be used
  pub has_index : (a : A) (told : Type 0) (opened : OpenedList) (d : Disk) → IsUsable a told opened d → told
      → (i : ℕ) → has a i ≡ machine.has_index (items a) (seen (state a d)) i
  -- its configuration allows the value
  pub Accepts : A → V → Type 0

-- Of an archive that may have several records at an index: each step of a command on these is one of the
-- record machine.
abbrev pub HasSeveral : {A V : Type 0} → Meaning A V → Type 0
HasSeveral {A} m = (a : A) (st next : m.State) (command : Asked) (reply : Replied)
    → IsOfSeveral command
    → m.Step a st command reply next
    → machine.Step (m.items a) (m.seen st) command reply (m.seen next)

-- One archive goes on as the other did: it takes just the same steps, leaves just the same, has just the same blobs,
-- and allows what that one does.
pub record IsAlike {A V : Type 0} (m : Meaning A V) (a r : A) : Type 0 where
  -- it takes just the same steps
  pub steps : (st next : m.State) (command : Asked) (reply : Replied)
      → m.Step a st command reply next ↔ m.Step r st command reply next
  -- crashes leave just the same of it
  pub leaves : (st : m.State) (under_way : Option Asked) (d : Disk)
      → m.Leaves a st under_way d ↔ m.Leaves r st under_way d
  -- the same blobs are its own
  pub own : (q : Key) → m.IsOwn r q ↔ m.IsOwn a q
  -- it allows each value that the other one does
  pub accepts : (v : V) → m.Accepts a v → m.Accepts r v
  -- its sections have room for as many indices
  pub items : m.items r ≡ m.items a

module _ {A V D : Type 0} (m : Meaning A V) (dev : device.Ghosts D) where
  -- the archive may be used with the device
  abbrev pub MayUse : A → D → Type 0
  MayUse a d = m.IsUsable a dev.Tells (dev.opened d) (disk (dev.time d))

  -- it is sound over the device's disk
  abbrev pub IsSoundOver : A → D → Type 0
  IsSoundOver a d = m.IsSound a (disk (dev.time d))

  -- its state over that disk
  abbrev pub state_over : A → D → m.State
  state_over a d = m.state a (disk (dev.time d))

  -- ---- calls that change an archive

  -- The archive a has carried out the command, and is now r. The step is one of its machine, and so of the record
  -- machine (`steps`).
  pub record Changed (a : A) (command : Asked) (r : A) (old new : D) : Type 0 where
    -- the new archive may be used
    pub over : MayUse r new
    -- it goes on as the old one did
    pub alike : IsAlike m a r
    -- it is sound where the old one was
    pub sound : dev.Tells → IsSoundOver a old → IsSoundOver r new
    -- the call was a step
    pub step : dev.Tells → IsSoundOver a old → m.Step a (state_over a old) command reply.Done (state_over r new)
    -- with no command under way each crash now leaves what stands for the new state
    pub rest : dev.Tells → IsSoundOver a old → m.Leaves r (state_over r new) None (disk (dev.time new))

  -- Where it fails and says that the device did, the device's count of faults rose.
  abbrev pub ChangeEnds : A → Asked → Result A Error → D → D → Type 0
  ChangeEnds a command (Ok r) old new = Changed a command r old new
  ChangeEnds a command (Err e) old new = IsFault e → Rose (dev.faults old) (dev.faults new)

  -- A call that carries out a command, and takes the archive.
  pub record Changes (a : A) (command : Asked) (result : Result A Error) (old new : D) : Type 0 where
    -- at each moment, also inside calls of the device and where the call fails
    pub moments : dev.Tells → IsSoundOver a old
        → Always (dev.time old) (dev.time new) (m.Leaves a (state_over a old) (Some command))
    -- no blob is touched but the archive's own
    pub footprint : Footprint dev (m.IsOwn a) NoBound old new
    -- how it ended
    pub ends : ChangeEnds a command result old new

  -- A put that makes all durable, by a sync or by one that is started: both commands are the same.
  abbrev pub ChangesDurably : A → (synced started : Asked) → Result A Error → D → D → Type 0
  ChangesDurably a synced started result old new = (command : Asked)
      → (command ≡ synced) ⊎ (command ≡ started)
      → Changes a command result old new

  -- A sync, or one that is started. It is a step also of an archive that is not sound.
  pub record Settles (a : A) (result : Result A Error) (old new : D) : Type 0 where
    -- what every change promises, of either command
    pub changes : (command : Asked) → (command ≡ Sync) ⊎ (command ≡ Start) → Changes a command result old new
    -- the call was a step, also where the archive is not sound
    pub step : dev.Tells → (command : Asked) → (command ≡ Sync) ⊎ (command ≡ Start)
        → IfOk result (λ r. m.Step a (state_over a old) command reply.Done (state_over r new))

  -- ---- the call that removes an archive

  -- The archive is gone, and the state of its machine is one that it comes to by the step.
  pub record Destroyed (a : A) (old new : D) : Type 0 where
    -- the state
    pub next : dev.Tells → IsSoundOver a old → m.State
    -- the call was a step to it
    pub step : (t : dev.Tells) (sound : IsSoundOver a old)
        → m.Step a (state_over a old) Destroy reply.Done (next t sound)
    -- no blob of the archive is there
    pub gone : dev.Tells → NoneThere (m.IsOwn a) (disk (dev.time new))
    -- each crash now leaves what stands for it
    pub rest : (t : dev.Tells) (sound : IsSoundOver a old)
        → m.Leaves a (next t sound) None (disk (dev.time new))

  abbrev pub DestroyEnds : A → Result Unit Error → D → D → Type 0
  DestroyEnds a (Ok done) old new = Destroyed a old new
  DestroyEnds a (Err e) old new = IsFault e → Rose (dev.faults old) (dev.faults new)

  -- A call that removes the archive a.
  pub record Destroys (a : A) (result : Result Unit Error) (old new : D) : Type 0 where
    -- at each moment, also where it fails, each crash leaves what stands for the state with the removal under
    -- way
    pub moments : dev.Tells → IsSoundOver a old
        → Always (dev.time old) (dev.time new) (m.Leaves a (state_over a old) (Some Destroy))
    -- no blob is touched but the archive's own
    pub footprint : Footprint dev (m.IsOwn a) NoBound old new
    -- how it ended
    pub ends : DestroyEnds a result old new

  -- ---- calls that ask

  -- Over a sound archive only the device or want of memory can keep it from answering.
  pub record IsUnanswered (a : A) (e : Error) (old new : D) : Type 0 where
    -- over a sound archive memory was short, or the device failed
    pub gives : dev.Tells → IsSoundOver a old → IsFailure (dev.faults old) (dev.faults new) e
    -- where it says that the device failed, the count of faults rose
    pub fault : IsFault e → Rose (dev.faults old) (dev.faults new)

  abbrev pub AskEnds : {R : Type 0} → A → Asked → (R → Replied) → Result R Error → D → D → Type 0
  AskEnds a command reply_of (Ok x) old new =
      dev.Tells → m.Step a (state_over a old) command (reply_of x) (state_over a new)
  AskEnds a command reply_of (Err e) old new = IsUnanswered a e old new

  -- A call that carries out a command, and only looks: no blob's history changes, and what is held stays.
  pub record Asks {R : Type 0} (a : A) (command : Asked) (reply_of : R → Replied) (result : Result R Error)
      (old new : D) : Type 0 where
    -- the archive may still be used
    pub over : MayUse a new
    -- no blob's history has changed
    pub unchanged : dev.Tells → Unchanged (dev.time old) (dev.time new)
    -- no blob is read but the archive's own
    pub footprint : Footprint dev (m.IsOwn a) NoBound old new
    -- how it ended
    pub ends : AskEnds a command reply_of result old new

  -- the value of what is wanted, where values are spelled so
  abbrev pub AsksValue : (V → List ℕ) → A → Wanted → Result (Option V) Error → D → D → Type 0
  AsksValue spelling a wanted = Asks a (get_command wanted) (λ v. reply.Value (option_map spelling v))

  -- all values at an index
  abbrev pub AsksAll : (V → List ℕ) → A → ℕ → Result (Option (List V)) Error → D → D → Type 0
  AsksAll spelling a index = Asks a (All index) (λ vs. reply.Values (option_map (map spelling) vs))

  -- whether a record has both this index and this key
  abbrev pub AsksAt : A → ℕ → List ℕ → Result Bool Error → D → D → Type 0
  AsksAt a index key = Asks a (HasAt index key) reply.Flag

  -- Whether it is there. By index it always answers, and does not touch the device.
  pub record AsksWhether (a : A) (wanted : Wanted) (result : Result Bool Error) (old new : D) : Type 0 where
    -- as every call that asks
    pub asks : Asks a (has_command wanted) reply.Flag result old new
    -- by index it answers without the device
    pub by_index : (i : ℕ) → wanted ≡ Index i → (result ≡ Ok (m.has a i)) × (new ≡ old)
