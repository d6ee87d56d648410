-- What holds of an open store between two steps.
use Rattle.std.specs.Prelude.{ℕ, Option, IfSome}
use Rattle.value_codec.specs.declared.seal.Sha256Seal.{Sha256Seal}
use Rattle.value_codec.specs.contracts.numbers.U64Codec.TheImpl as number
use Rattle.value_codec.specs.contracts.seal.Sha256SealSeal.TheImpl as sealing
use Rattle.blob_device.specs.declared.memory.Memory.{Memory}
use Rattle.blob_device.specs.MemoryMeaning.{memory_opened, memory_time}
use Rattle.blob_device.specs.Timeline.{disk}
use Rattle.ordinal_store.specs.Shown.{shown}
use Rattle.ordinal_store.specs.Stores.{IsUsable}
use Rattle.ordinal_store.specs.declared.store.Ordinal.{Ordinal}

-- the store may be used with the device
abbrev pub IsOver : Ordinal ℕ Sha256Seal → Memory → Type 0
IsOver o dev = IsUsable (shown 8 sealing.ghosts.seal_of number.ghosts.refusal o) (Unit {0}) (memory_opened dev) (disk (memory_time dev))

-- the store, where one is open
abbrev pub MayBeOver : Option (Ordinal ℕ Sha256Seal) → Memory → Type 0
MayBeOver store dev = IfSome store (λ o. IsOver o dev)
