-- What an image holds.
use Rattle.std.specs.Prelude.{ℕ, List, Option}
use Rattle.std.specs.Option.{option_map}
use Rattle.blob_device.specs.declared.memory.image.Image.{Image}
use Rattle.blob_device.specs.Disk.{Key}
use Rattle.blob_device.specs.Tables.{at_key}

-- the bytes at each key
abbrev pub contents : Image → Key → Option (List ℕ)
contents i k = option_map (λ v. v.items) (at_key i.blobs.partitions k)
