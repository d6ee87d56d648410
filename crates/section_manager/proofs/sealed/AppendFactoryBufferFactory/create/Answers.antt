use Rattle.blob_device.specs.Timeline.{disk}
use Rattle.section_manager.proofs.buffers.SealedCalls.{adopts_bytes}
use Rattle.section_manager.proofs.sealed.AppendFactoryBufferFactory.create.Goals as goal

pub returns-clause-bytes : goal.returns-clause-bytes
returns-clause-bytes g c t rest = adopts_bytes g.S.Seal.seal_of c.args.self.now.pages.page_size (disk (g.D.Device.time c.args.dev.now) (c.args.partition.now, c.args.name.now)).content c.adopt.result
    c.adopt.ensures.page_size c.adopt.ensures.settled (c.adopt.ensures.size t) (c.adopt.ensures.backed t)
