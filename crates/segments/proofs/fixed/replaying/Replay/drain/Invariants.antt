use Rattle.section_manager.specs.contracts.sealed.PageBlobSectionBuffer.TheImpl as impl
use Rattle.segments.specs.FixedStepping.{way_of}
use Rattle.segments.specs.FixedWalking.{walk_of}
use Rattle.segments.proofs.replay.DrainLemmas.{Draining}
use Rattle.segments.proofs.fixed.replaying.Replay.drain.Given as goal

abbrev pub invariant-items : goal.invariant-items
invariant-items g l = Draining g.S.Seal.seal_of g.A.CodecFixed.SIZE (impl.ghosts g.row.S g.S.Seal g.S.Seal-dict) (λ f. record { page_size = f.pages.page_size; capacity = f.write_buffer; cache_pages = f.pages.cache_pages })
    g.A.Codec.spelling g.A.Codec.accepted g.D.Device.Tells (walk_of l.fn.self) (walk_of l.this) (g.D.Device.opened l.initial.dev) (g.D.Device.opened l.dev) (g.D.Device.time l.initial.dev) (g.D.Device.time l.dev)
    (g.D.Device.faults l.initial.dev) (g.D.Device.faults l.dev)

abbrev pub decreases-items : goal.decreases-items
decreases-items g l = way_of (walk_of l.this)
