-- What the values that name a slot, and an opened blob, mean.
use Rattle.std.specs.Prelude.{Bool, true, false}
use Rattle.blob_device.specs.Disk.{Key}
use Rattle.sealed_pages.specs.declared.open_blob.OpenBlob.{OpenBlob}
use Rattle.sealed_pages.specs.declared.slot.Slot.{Slot}
use Rattle.sealed_pages.specs.declared.slot.Slot.TheVariants.{A, B}

-- whether it is slot B, as the definitions on places and lengths ask
abbrev pub is_b : Slot → Bool
is_b A = false
is_b B = true

-- which blob it is
abbrev pub opened_key : OpenBlob → Key
opened_key b = (b.partition.now, b.name.now)
