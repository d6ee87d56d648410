-- What holds of an open map between two steps.
use Rattle.std.specs.Prelude.{ℕ}
use Rattle.value_codec.specs.declared.key.Key8.{Key8}
use Rattle.value_codec.specs.declared.seal.Sha256Seal.{Sha256Seal}
use Rattle.value_codec.specs.contracts.key.Key8Ord.TheImpl as key_order
use Rattle.value_codec.specs.contracts.key.Key8Key.TheImpl as key
use Rattle.value_codec.specs.contracts.numbers.U64Codec.TheImpl as number
use Rattle.value_codec.specs.contracts.seal.Sha256SealSeal.TheImpl as sealing
use Rattle.blob_device.specs.declared.memory.Memory.{Memory}
use Rattle.blob_device.specs.MemoryMeaning.{memory_opened}
use Rattle.meta_store.specs.declared.metadata.Metadata.{Metadata}
use Rattle.meta_store.specs.Calls.{IsOpened}
use Rattle.meta_store.specs.Format.{Format, format_of}
use Rattle.meta_store.specs.Store.{shown, MayBeSynced}

-- how the map is stored: keys of eight bytes, numbers of eight
abbrev pub map_format : Format Key8 ℕ
map_format = format_of key_order.ghosts.cmp key.ghosts.key_bytes number.ghosts sealing.ghosts tt

-- each value may be stored, and the device has both blobs opened
pub record IsOver (map : Metadata Key8 ℕ Sha256Seal (Unit {0})) (dev : Memory) : Type 0 where
  pub storable : MayBeSynced map_format (shown map).entries
  pub opened : IsOpened (shown map).partition (memory_opened dev)
