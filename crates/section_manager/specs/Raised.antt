-- What a journal answers where a lower layer answered this.
use Rattle.blob_device.specs.declared.error.DevError.{DevError}
use Rattle.blob_device.specs.Errors as errors
use Rattle.blob_device.specs.declared.runtime.RError.{RError}
use Rattle.blob_device.specs.declared.runtime.RError.TheVariants as runtime
use Rattle.value_codec.specs.declared.codec.Error as codec
use Rattle.value_codec.specs.declared.codec.Error.TheVariants as code
use Rattle.meta_store.specs.declared.error.Error as meta
use Rattle.meta_store.specs.declared.error.Error.TheVariants as store
use Rattle.section_manager.specs.declared.journal.Error.{Error}
use Rattle.section_manager.specs.declared.journal.Error.TheVariants.{Runtime, Metadata, Codec, Full, Mem}

-- want of memory stays want of memory, and is held in no other error
abbrev pub raised : RError → Error
raised runtime.Mem = Mem
raised e = Runtime e

abbrev pub raised_device : DevError → Error
raised_device e = raised (errors.raised e)

abbrev pub raised_codec : codec.Error → Error
raised_codec code.Mem = Mem
raised_codec e = Codec e

-- and a map that is full is a full store
abbrev pub raised_metadata : meta.Error → Error
raised_metadata store.Mem = Mem
raised_metadata store.Full = Full
raised_metadata e = Metadata e
