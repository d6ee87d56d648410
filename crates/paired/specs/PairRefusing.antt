-- When the calls of a pair refuse.
use Rattle.std.specs.Prelude.{ℕ, Result}
use Rattle.std.specs.Result.{IsErrOf}
use Rattle.blob_device.specs.declared.runtime.RError.TheVariants.{Fault}
use Rattle.blob_device.specs.Counts.{Rose}
use Rattle.meta_store.specs.declared.error.Error.TheVariants as metadata
use Rattle.section_manager.specs.declared.journal.Error.{Error}
use Rattle.section_manager.specs.declared.journal.Error.TheVariants.{Metadata}

-- the device failed in a call of the markers, and its count of faults rose
abbrev pub HasLostMarkers : {T : Type 0} → Result T Error → ℕ → ℕ → Type 0
HasLostMarkers result before now = IsErrOf result (Metadata (metadata.Runtime Fault)) × Rose before now
