-- What holds of an open archive between two steps.
use Rattle.blob_device.specs.Disk.{Disk}
use Rattle.blob_device.specs.MemoryMeaning.{memory_opened, memory_time}
use Rattle.blob_device.specs.Opened.{OpenedList}
use Rattle.blob_device.specs.Timeline.{disk}
use Rattle.blob_device.specs.declared.memory.Memory.{Memory}

-- the archive may be used with the device, where this says when it may
abbrev pub IsOver : {A : Type 0} → (A → Type 0 → OpenedList → Disk → Type 0) → A → Memory → Type 0
IsOver usable a dev = usable a (Unit {0}) (memory_opened dev) (disk (memory_time dev))
