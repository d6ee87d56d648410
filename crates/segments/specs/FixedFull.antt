-- What an append answers where the buffer refused it.
use Rattle.blob_device.specs.declared.runtime.RError.{RError}
use Rattle.blob_device.specs.declared.runtime.RError.TheVariants.{OffsetOverflow}
use Rattle.section_manager.specs.declared.journal.Error.{Error}
use Rattle.section_manager.specs.declared.journal.Error.TheVariants.{Full}
use Rattle.section_manager.specs.Raised.{raised}

-- a blob that would pass 2^64 makes a full section
abbrev pub full_or_raised_of : RError → Error
full_or_raised_of OffsetOverflow = Full
full_or_raised_of e = raised e
