use Rattle.blob_device.specs.Timeline.{disk}
use Rattle.sealed_pages.specs.Buffer.{key_of}
use Rattle.sealed_pages.specs.Shown.{shown}
use Rattle.sealed_pages.specs.lemmas.Unrecovered.{adopted_backed}
use Rattle.section_manager.proofs.buffers.SealedCalls.{uncut_moments, stays}
use Rattle.section_manager.proofs.sealed.PageBlobSectionBuffer.start_sync.Goals as goal

pub returns-in_err-this-clause-moments : goal.returns-in_err-this-clause-moments
returns-in_err-this-clause-moments g c t stands = uncut_moments g.S.Seal.seal_of (shown c.args.self) (key_of (shown c.args.self)) (g.D.Device.time c.args.dev.now) (g.D.Device.time c.sync.new.dev) c.args.self.settled stands.adopted (c.sync.ensures.crashes t) (c.sync.ensures.steady t)

pub returns-clause-moments : goal.returns-clause-moments
returns-clause-moments g c t stands = uncut_moments g.S.Seal.seal_of (shown c.args.self) (key_of (shown c.args.self)) (g.D.Device.time c.args.dev.now) (g.D.Device.time c.sync.new.dev) c.args.self.settled stands.adopted (c.sync.ensures.crashes t) (c.sync.ensures.steady t)

pub returns-clause-stands : goal.returns-clause-stands
returns-clause-stands g c t stands = stays g.S.Seal.seal_of (shown c.args.self) (key_of (shown c.args.self)) (g.D.Device.time c.args.dev.now) (g.D.Device.time c.sync.new.dev) (shown c.in_ok-this.this) stands (c.in_ok-this.ensures.rests t stands.rest) (c.in_ok-this.ensures.sealed t) (c.in_ok-this.ensures.unrecovered t)

pub returns-clause-bytes : goal.returns-clause-bytes
returns-clause-bytes g c t stands = c.in_ok-this.ensures.bytes t (adopted_backed g.S.Seal.seal_of (shown c.args.self) (disk (g.D.Device.time c.args.dev.now) (key_of (shown c.args.self))) stands.adopted)
