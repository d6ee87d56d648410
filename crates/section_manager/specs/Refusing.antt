-- When the calls on sections refuse.
use Rattle.std.specs.Prelude.{◌≢◌, ◌⊎◌, ℕ, List, length, IsTrue, Result}
use Rattle.std.specs.Result.{IsErrOf}
use Rattle.blob_device.specs.declared.runtime.RError.TheVariants.{Fault, InvalidChecksum}
use Rattle.blob_device.specs.Counts.{Rose}
use Rattle.blob_device.specs.Disk.{Disk}
use Rattle.section_manager.specs.declared.journal.Error.{Error}
use Rattle.section_manager.specs.declared.journal.Error.TheVariants.{Runtime, AlreadyPrunedToSection, Mem}

module _ {T : Type 0} (result : Result T Error) where
  -- there was no memory, or the device failed, and then its count of faults rose
  abbrev pub HasFailed : ℕ → ℕ → Type 0
  HasFailed before now = IsErrOf result Mem ⊎ (IsErrOf result (Runtime Fault) × Rose before now)

  -- the section is below the floor
  abbrev pub IsPruned : ℕ → Type 0
  IsPruned floor = IsErrOf result (AlreadyPrunedToSection floor)

  -- a page of the section's blob is damaged
  abbrev pub HasDamage : Type 0
  HasDamage = (page : ℕ) × IsErrOf result (Runtime (InvalidChecksum page))

-- a blob with this name is there in the partition, and the name is not eight bytes long
pub record IsForeign (d : Disk) (partition name : List ℕ) : Type 0 where
  pub there : IsTrue (d (partition, name)).there
  pub size : length name ≢ 8
