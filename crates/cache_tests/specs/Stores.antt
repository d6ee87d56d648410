-- What is open may be used with the device.
use Rattle.std.specs.Prelude.{◌≡◌, ℕ}
use Rattle.blob_device.specs.MemoryMeaning.{memory_opened, memory_time}
use Rattle.blob_device.specs.Timeline.{disk}
use Rattle.blob_device.specs.declared.memory.Memory.{Memory}
use Rattle.cache_store.specs.Caches.{IsCache}
use Rattle.cache_store.specs.Shown as cache
use Rattle.cache_store.specs.declared.cache.Cache.{Cache}
use Rattle.cache_tests.specs.declared.store.Store.{Store}
use Rattle.cache_tests.specs.declared.store.Store.TheVariants.{Closed, Values}
use Rattle.section_manager.specs.Setting.{Setting}
use Rattle.section_manager.specs.contracts.sealed.PageBlobSectionBuffer.TheImpl as page_blob
use Rattle.section_manager.specs.declared.sealed.AppendFactory.{AppendFactory}
use Rattle.value_codec.specs.contracts.byte_value.ByteValueCodec.TheImpl as bytes
use Rattle.value_codec.specs.contracts.seal.Sha256Seal.{the_row}
use Rattle.value_codec.specs.contracts.seal.Sha256SealSeal.TheImpl as seal
use Rattle.value_codec.specs.declared.byte_value.ByteValue.{ByteValue}
use Rattle.value_codec.specs.declared.seal.Sha256Seal.{Sha256Seal}

-- how a factory cuts pages and buffers them
abbrev pub set_by : {S : Type 0} → AppendFactory S → Setting
set_by f = record {
  page_size = f.pages.page_size;
  capacity = f.write_buffer;
  cache_pages = f.pages.cache_pages;
}

-- a cache of bytes may be used
abbrev pub IsUsable : Memory → Cache ByteValue Sha256Seal ℕ seal.ghosts → Type 0
IsUsable dev c = IsCache (cache.shown bytes.ghosts.refusal c)
    (page_blob.ghosts the_row seal.ghosts seal.dict) set_by (Unit {0}) (memory_opened dev)
    (disk (memory_time dev))

-- So it may, and its codec takes values of at most so many bytes.
pub record IsCacheOf (most : ℕ) (c : Cache ByteValue Sha256Seal ℕ seal.ghosts) (dev : Memory)
    : Type 0 where
  pub over : IsUsable dev c
  pub limit : cache.config_of c ≡ most

-- a cache, or nothing
abbrev pub IsOpen : Memory → Store → Type 0
IsOpen dev Closed = Unit {0}
IsOpen dev (Values c most) = IsCacheOf most c dev
