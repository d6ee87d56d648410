-- What an archive answers where a lower layer answered this.
use Rattle.meta_store.specs.declared.error.Error as meta
use Rattle.meta_store.specs.declared.error.Error.TheVariants as store
use Rattle.section_manager.specs.declared.journal.Error as journal
use Rattle.section_manager.specs.declared.journal.Error.TheVariants as section
use Rattle.archives.specs.declared.error.Error.{Error}
use Rattle.archives.specs.declared.error.Error.TheVariants.{Journal, Metadata, Full, Mem}

-- want of memory stays want of memory, and is held in no other error; nor is a map that is full
abbrev pub raised_metadata : meta.Error → Error
raised_metadata store.Mem = Mem
raised_metadata store.Full = Full
raised_metadata e = Metadata e

-- the same of a journal; where its map of markers failed, the map's error keeps its class
abbrev pub raised : journal.Error → Error
raised section.Mem = Mem
raised section.Full = Full
raised (section.Metadata e) = raised_metadata e
raised e = Journal e
