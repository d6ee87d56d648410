-- What an error of a layer below becomes.
use Rattle.blob_device.specs.declared.error.DevError.{DevError}
use Rattle.blob_device.specs.declared.error.DevError.TheVariants as device
use Rattle.blob_device.specs.declared.runtime.RError.{RError}
use Rattle.blob_device.specs.declared.runtime.RError.TheVariants as runtime
use Rattle.meta_store.specs.declared.error.Error.{Error}
use Rattle.meta_store.specs.declared.error.Error.TheVariants.{Runtime, Mem}

-- a fault stays a fault, and want of memory stays want of memory
abbrev pub raised : DevError → Error
raised device.Fault = Runtime runtime.Fault
raised device.Mem = Mem

abbrev pub passed_on : RError → Error
passed_on runtime.Mem = Mem
passed_on runtime.Fault = Runtime runtime.Fault
passed_on (runtime.InvalidChecksum page) = Runtime (runtime.InvalidChecksum page)
passed_on runtime.BlobInsufficientLength = Runtime runtime.BlobInsufficientLength
passed_on runtime.OffsetOverflow = Runtime runtime.OffsetOverflow
