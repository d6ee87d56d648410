-- What a buffer over a device answers where the device failed.
use Rattle.blob_device.specs.declared.error.DevError.{DevError}
use Rattle.blob_device.specs.declared.error.DevError.TheVariants as device
use Rattle.blob_device.specs.declared.runtime.RError.{RError}
use Rattle.blob_device.specs.declared.runtime.RError.TheVariants as runtime

-- a fault stays a fault, and want of memory stays want of memory
abbrev pub raised : DevError → RError
raised device.Fault = runtime.Fault
raised device.Mem = runtime.Mem
