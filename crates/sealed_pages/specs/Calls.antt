-- What the calls of buffers over sealed blobs have in common.
use Rattle.std.specs.Prelude.{◌≡◌, ◌⊎◌, Result, Err}
use Rattle.blob_device.specs.Counts.{Rose}
use Rattle.blob_device.specs.declared.device.Device as device
use Rattle.blob_device.specs.declared.runtime.RError.{RError}
use Rattle.blob_device.specs.declared.runtime.RError.TheVariants.{Fault, Mem}

-- memory was short, or the device failed
abbrev pub FailsBelow : {D T : Type 0} → device.Ghosts D → Result T RError → D → D → Type 0
FailsBelow dev result old new =
    (result ≡ Err Mem) ⊎ ((result ≡ Err Fault) × Rose (dev.faults old) (dev.faults new))
