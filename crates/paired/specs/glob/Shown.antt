-- What a glob shows of itself, and a glob under recovery.
use Rattle.blob_device.specs.Timeline.{disk}
use Rattle.blob_device.specs.declared.device.Device as device
use Rattle.sealed_pages.specs.declared.write_blob.WriteBlob.{WriteBlob}
use Rattle.section_manager.specs.contracts.unsealed.WriteBlobSectionBuffer.TheImpl as buffer
use Rattle.section_manager.specs.contracts.unsealed.WriteFactoryBufferFactory.TheImpl as factory
use Rattle.section_manager.specs.declared.unsealed.WriteFactory.{WriteFactory}
use Rattle.section_manager.specs.managing.Managed as manager
use Rattle.section_manager.specs.Sections.{Sections}
use Rattle.paired.specs.declared.glob.Glob.{Glob}
use Rattle.paired.specs.declared.glob.recovery.Recovery.{Recovery}
use Rattle.paired.specs.glob.Sections.{IsGlob}

-- its sections, and what the codec of its values is told
pub record Shown (C : Type 0) : Type 0 where
  pub sections : Sections WriteFactory WriteBlob
  pub codec_config : C

abbrev pub shown_glob : {V S C : Type 0} → Glob V S C → Shown C
shown_glob g = record { sections = manager.shown g.manager; codec_config = g.codec_config }

abbrev pub shown_recovery : {V S C : Type 0} → Recovery V S C → Shown C
shown_recovery r = record { sections = manager.shown r.manager; codec_config = r.codec_config }

-- such sections are a glob over this device
abbrev pub IsGlobOn : {D : Type 0} → device.Ghosts D → Sections WriteFactory WriteBlob → D → Type 0
IsGlobOn dev m d =
    IsGlob buffer.ghosts factory.ghosts.gives dev.Tells m (dev.opened d) (disk (dev.time d))
