-- Which calls of a device in memory fail, and what a failing call answers and counts.
use Rattle.std.specs.Prelude.{◌≡◌, ℕ, Bool, true, false, ◌==◌, leb, cond, List, Option, Some, None, Result}
use Rattle.std.specs.List.{list_any}
use Rattle.std.specs.Result.{IsErr, IsErrOf}
use Rattle.blob_device.specs.declared.error.DevError.{DevError}
use Rattle.blob_device.specs.declared.error.DevError.TheVariants.{Fault, Mem}
use Rattle.blob_device.specs.Counts.{next}
use Rattle.blob_device.specs.Disk.{Key, put}
use Rattle.blob_device.specs.Change.{Change}
use Rattle.blob_device.specs.Timeline.{Timeline, disk}
use Rattle.blob_device.specs.Calls.{failing}

-- from some number on
abbrev pub from_fuse : Option ℕ → ℕ → Bool
from_fuse None n = false
from_fuse (Some first) n = leb first n

-- the call is in the list
abbrev pub is_listed : List ℕ → ℕ → Bool
is_listed failing n = list_any (λ k. k == n) failing

-- A call that is to fail raises the count of faults and does not answer Ok; any other call leaves the count and answers no fault.
pub record FailsAsTold {T : Type 0} (named : Bool) (result : Result T DevError) (faults_old faults_new : ℕ) : Type 0 where
  pub count : faults_new ≡ cond named (next faults_old) faults_old
  pub fault : IsErrOf result Fault → named ≡ true
  pub ok : named ≡ true → IsErr result

-- A change that failed left the first half of a write's bytes, or what the blob read as; one that found no memory left the disk as it was.
pub record LeavesAsFailed {T : Type 0} (k : Key) (change : Change) (result : Result T DevError) (old new : Timeline) : Type 0 where
  pub fault : IsErrOf result Fault → disk new ≡ put (disk old) k (failing change (disk old k))
  pub memory : IsErrOf result Mem → disk new ≡ disk old
