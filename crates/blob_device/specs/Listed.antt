-- The opened list that a device over files keeps.
use Rattle.std.specs.Option.{option_map}
use Rattle.blob_device.specs.declared.file_device.opened.Entry.{Entry}
use Rattle.blob_device.specs.declared.file_device.opened.OpenedBlobs.{OpenedBlobs}
use Rattle.blob_device.specs.Opened.{Opened, OpenedList}
use Rattle.blob_device.specs.Tables.{at_key}

abbrev pub shown : Entry → Opened
shown e = record { len = e.len; reads = e.reads }

abbrev pub listed : OpenedBlobs → OpenedList
listed o k = option_map shown (at_key o.entries.partitions k)
