-- What a store of records is, that commands are served from: its states and steps, what its images mean, what crashes
-- may leave of it, which blobs are its own, and why it fails.
use Rattle.std.specs.Prelude.{Option}
use Rattle.blob_device.specs.Disk.{Disk, Image, Key}
use Rattle.archives.specs.Changes.{Asked, Replied}
use Rattle.archives.specs.declared.error.Error.{Error}

pub record Kind : Type 1 where
  -- ---- from a lawful image on

  -- the states that the store goes through
  pub State : Type 0
  -- a store may be opened over the image
  pub Lawful : Image → Type 0
  -- the state to which an opening of the image comes
  pub IsStart : Image → State → Type 0
  -- the store may give this reply to the command, and go on from one state to another
  pub Step : State → Asked → Replied → State → Type 0
  -- each crash of the disk without a chance seal leaves a lawful image that stands for the state with this command
  -- under way
  pub Leaves : State → Option Asked → Disk → Type 0
  -- the command that begins in the state, over the disk, gets no reply
  pub MustRefuse : State → Disk → Asked → Type 0
  -- the error refuses the command in a way that writes nothing
  pub Refuses : State → Asked → Error → Type 0
  -- why the error, if it is not want of memory, ends what was under way, which began over the disk
  pub IsCause : State → Option Asked → Disk → Error → Type 0
  -- ---- from any image on

  -- what the store knows of itself, also where the image is not lawful
  pub Known : Type 0
  -- what is known of one that was not opened
  pub unknown : Known
  -- what it knows once it was opened from one disk to another
  pub IsFound : Disk → Disk → Known → Type 0
  -- what it knows once the command got a reply, from one disk to another
  pub Learns : Known → Asked → Disk → Disk → Known → Type 0
  -- by what is known, no such blob is there once the command got a reply
  pub Clears : Known → Asked → Key → Type 0
  -- why the error, if it is not want of memory, ends what was under way, from one disk to another
  pub IsCauseAnywhere : Known → Option Asked → Disk → Disk → Error → Type 0
  -- by what is known, the command that begins over the disk gets no reply
  pub MustRefuseAnywhere : Known → Disk → Asked → Type 0
  -- by what is known, the error refuses the command in a way that writes nothing
  pub RefusesAnywhere : Known → Asked → Error → Type 0
  -- the command makes no call of the device
  pub IsQuiet : Known → Asked → Type 0
  -- ---- over any device

  -- the blobs of the store
  pub IsOwn : Key → Type 0
  -- those of them that the command may change
  pub MayChange : Asked → Key → Type 0
