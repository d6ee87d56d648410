-- What a device over files means.
use Rattle.std.specs.Prelude.{ℕ, Bool}
use Rattle.blob_device.specs.declared.file_device.FileDevice.{FileDevice}
use Rattle.blob_device.specs.Disk.{nothing}
use Rattle.blob_device.specs.Opened.{OpenedList}
use Rattle.blob_device.specs.Timeline.{Timeline}
use Rattle.blob_device.specs.Listed.{listed}

-- over a runtime, its files and its folders
module _ {R File Dir : Type 0} where
  -- the number of calls; of the disk nothing is known
  abbrev pub file_time : FileDevice R File Dir → Timeline
  file_time d = record { calls = d.calls; at = λ m k. nothing }

  abbrev pub file_faults : FileDevice R File Dir → ℕ
  file_faults d = d.faults

  -- whether a sync has failed
  abbrev pub file_lost : FileDevice R File Dir → Bool
  file_lost d = d.has_lost

  abbrev pub file_opened : FileDevice R File Dir → OpenedList
  file_opened d = listed d.opened
