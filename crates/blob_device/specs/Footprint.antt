-- What a call touches of a device: which blobs, how many reads it begins, and that faults are counted. One word for every layer.
use Rattle.std.specs.Prelude.{◌≡◌, ℕ, ◌+◌, ◌≤◌}
use Rattle.blob_device.specs.Disk.{Key, Disk}
use Rattle.blob_device.specs.Opened.{reads_of}
use Rattle.blob_device.specs.Timeline.{Always, disk}
use Rattle.blob_device.specs.declared.device.Device as device

-- each blob but those that may be touched is as on the disk `from`
abbrev pub SameElsewhere : (Key → Type 0) → Disk → Disk → Type 0
SameElsewhere MayTouch from d = (q : Key) → (MayTouch q → ⊥) → d q ≡ from q

-- A bound on reads is a relation: `AtMost q n` says that at most n reads of the blob q begin.

-- nothing is said of reads
abbrev pub NoBound : Key → ℕ → Type 0
NoBound q n = ⊥

-- no read begins
abbrev pub NoReads : Key → ℕ → Type 0
NoReads q n = n ≡ 0

-- as many reads as two calls begin, one after the other
pub record AtMostBoth (First Second : Key → ℕ → Type 0) (q : Key) (n : ℕ) : Type 0 where
  pub before : ℕ
  pub after : ℕ
  pub first : First q before
  pub second : Second q after
  pub sum : n ≡ before + after

-- no fewer reads than another bound
pub record AtLeastBound (AtMost : Key → ℕ → Type 0) (q : Key) (n : ℕ) : Type 0 where
  pub bound : ℕ
  pub holds : AtMost q bound
  pub within : bound ≤ n

-- A call went over the device from `old` to `new`. What is said of the disk is so where the device tells it.
pub record Footprint {D : Type 0} (dev : device.Ghosts D) (MayTouch : Key → Type 0) (AtMost : Key → ℕ → Type 0) (old new : D) : Type 0 where
  -- At each moment, also inside calls and after an error, every blob is as it was, but for those that the call may touch.
  pub alone : dev.Tells → Always (dev.time old) (dev.time new) (SameElsewhere MayTouch (disk (dev.time old)))
  -- The entries of all other blobs in the list of opened blobs stay.
  pub entries : (q : Key) → (MayTouch q → ⊥) → dev.opened new q ≡ dev.opened old q
  -- No more reads of a blob begin than the bound allows.
  pub reads : (q : Key) (n : ℕ) → AtMost q n → reads_of (dev.opened new q) ≤ reads_of (dev.opened old q) + n
  -- The count of faults never falls.
  pub faults : dev.faults old ≤ dev.faults new
