-- What holds of an open blob between two steps.
use Rattle.std.specs.Prelude.{◌≤◌, IsSomeAnd, string_bytes}
use Rattle.blob_device.specs.Disk.{Key}
use Rattle.blob_device.specs.Opened.{OpenedList}
use Rattle.blob_device_tests.specs.declared.disk.Held.{Held}

-- where the blob stands
abbrev pub key_of : Held → Key
key_of h = (string_bytes h.partition, h.name.items)

-- the blob is in the list, and has at least this length there
abbrev pub IsHeld : Held → OpenedList → Type 0
IsHeld h opened = IsSomeAnd (opened (key_of h)) (λ o. h.len ≤ o.len)
