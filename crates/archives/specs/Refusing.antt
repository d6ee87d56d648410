-- When the calls of an archive refuse.
use Rattle.std.specs.Prelude.{◌≡◌, ◌⊎◌, ℕ}
use Rattle.blob_device.specs.Counts.{Rose}
use Rattle.blob_device.specs.declared.runtime.RError.TheVariants.{Fault}
use Rattle.meta_store.specs.declared.error.Error.TheVariants as metadata
use Rattle.section_manager.specs.declared.journal.Error.TheVariants as journal
use Rattle.archives.specs.declared.error.Error.{Error}
use Rattle.archives.specs.declared.error.Error.TheVariants.{Journal, Metadata, Mem}

-- the device failed, in a call of the records or values, or of the markers
abbrev pub IsFault : Error → Type 0
IsFault e = (e ≡ Journal (journal.Runtime Fault)) ⊎ (e ≡ Metadata (metadata.Runtime Fault))

-- there was no memory, or the device failed in a call of the records or values, and then its count of faults rose
-- from one number to another
abbrev pub IsFailure : ℕ → ℕ → Error → Type 0
IsFailure before now e = (e ≡ Mem) ⊎ ((e ≡ Journal (journal.Runtime Fault)) × Rose before now)

-- the device failed in a call of the markers, and its count of faults rose
abbrev pub IsLostMarkers : ℕ → ℕ → Error → Type 0
IsLostMarkers before now e = (e ≡ Metadata (metadata.Runtime Fault)) × Rose before now
