use Rattle.blob_device.specs.Timeline.{disk}
use Rattle.sealed_pages.specs.Buffer.{key_of}
use Rattle.sealed_pages.specs.Shown.{shown}
use Rattle.sealed_pages.specs.lemmas.Unrecovered.{adopted_backed}
use Rattle.section_manager.proofs.buffers.SealedCalls.{uncut_moments, uncut_stands}
use Rattle.section_manager.proofs.sealed.PageBlobSectionBuffer.sync.Goals as goal

pub returns-clause-moments : goal.returns-clause-moments
returns-clause-moments g c t stands = uncut_moments g.S.Seal.seal_of (shown c.args.self) (key_of (shown c.args.self)) (g.D.Device.time c.args.dev.now) (g.D.Device.time c.sync.new.dev) c.args.self.settled stands.adopted (c.sync.ensures.crashes t) (c.sync.ensures.steady t)

pub returns-clause-stands : goal.returns-clause-stands
returns-clause-stands g c t stands = uncut_stands g.S.Seal.seal_of (shown c.args.self) (key_of (shown c.args.self)) (g.D.Device.time c.args.dev.now) (g.D.Device.time c.sync.new.dev) c.sync.result (λ v. shown v) stands (c.sync.ensures.rests t stands.rest) (c.sync.ensures.sealed t) (c.sync.ensures.unrecovered t)

pub returns-clause-bytes : goal.returns-clause-bytes
returns-clause-bytes g c t stands = c.sync.ensures.bytes t (adopted_backed g.S.Seal.seal_of (shown c.args.self) (disk (g.D.Device.time c.args.dev.now) (key_of (shown c.args.self))) stands.adopted)
