-- What calls leave of the list of opened blobs.
use Rattle.std.specs.Prelude.{◌≡◌, ◌≢◌, ◌≤◌}
use Rattle.blob_device.specs.Disk.{Key}
use Rattle.blob_device.specs.Opened.{OpenedList, reads_of}

-- no other blob's entry changed
abbrev pub OnlyOwnEntry : Key → OpenedList → OpenedList → Type 0
OnlyOwnEntry k old new = (q : Key) → q ≢ k → new q ≡ old q

-- no read began: no blob has more reads than before
abbrev pub StartsNoRead : OpenedList → OpenedList → Type 0
StartsNoRead old new = (q : Key) → reads_of (new q) ≤ reads_of (old q)
