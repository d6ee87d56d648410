-- What stopped a call on files, as the counts of the device see it.
use Rattle.std.specs.Prelude.{Bool, true, false, Result, Ok, Err}
use Rattle.blob_device.specs.declared.file_device.stop.Stop.{Stop}
use Rattle.blob_device.specs.declared.file_device.stop.Stop.TheVariants.{BadPartition, InUse, TooShort, Sync, Lost, System, NoMemory}

-- all but the want of memory are faults
abbrev pub is_fault : Stop → Bool
is_fault BadPartition = true
is_fault InUse = true
is_fault TooShort = true
is_fault (Sync p e) = true
is_fault Lost = true
is_fault (System p e) = true
is_fault NoMemory = false

-- a sync failed
abbrev pub is_failed_sync : Stop → Bool
is_failed_sync BadPartition = false
is_failed_sync InUse = false
is_failed_sync TooShort = false
is_failed_sync (Sync p e) = true
is_failed_sync Lost = false
is_failed_sync (System p e) = false
is_failed_sync NoMemory = false

-- the call stopped since a sync failed
abbrev pub has_failed_to_sync : {T : Type 0} → Result T Stop → Bool
has_failed_to_sync (Ok x) = false
has_failed_to_sync (Err s) = is_failed_sync s
