-- The pair may be used over this device: as `IsPair` says, with its values in buffers without seals.
use Rattle.blob_device.specs.Timeline.{disk}
use Rattle.blob_device.specs.declared.device.Device as device
use Rattle.sealed_pages.specs.declared.page_blob.PageBlob.{PageBlob}
use Rattle.section_manager.specs.contracts.unsealed.WriteBlobSectionBuffer.TheImpl as buffer
use Rattle.section_manager.specs.contracts.unsealed.WriteFactoryBufferFactory.TheImpl as factory
use Rattle.section_manager.specs.declared.buffer.SectionBuffer as section_buffer
use Rattle.section_manager.specs.declared.sealed.AppendFactory.{AppendFactory}
use Rattle.section_manager.specs.Setting.{Setting}
use Rattle.paired.specs.Pair.{Pair, IsPair}

module _ {D S : Type 0} {gs : _} (pages : section_buffer.Ghosts (PageBlob S gs))
    (gives : AppendFactory S → Setting) (dev : device.Ghosts D) where
  abbrev pub IsPairOver : Pair (AppendFactory S) (PageBlob S gs) → D → Type 0
  IsPairOver p d = IsPair pages gives buffer.ghosts factory.ghosts.gives dev.Tells p (dev.opened d)
      (disk (dev.time d))
