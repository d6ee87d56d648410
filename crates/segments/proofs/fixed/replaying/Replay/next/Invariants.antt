use Rattle.std.specs.Prelude.{◌≡◌, true}
use Rattle.section_manager.specs.contracts.sealed.PageBlobSectionBuffer.TheImpl as impl
use Rattle.segments.specs.FixedStepping.{way_of}
use Rattle.segments.specs.FixedWalking.{walk_of}
use Rattle.segments.proofs.replay.Running.{Running}
use Rattle.segments.proofs.fixed.replaying.Replay.next.Given as goal

abbrev pub invariant-steps : goal.invariant-steps
invariant-steps g l = Running g.S.Seal.seal_of g.A.CodecFixed.SIZE (impl.ghosts g.row.S g.S.Seal g.S.Seal-dict) (λ f. record { page_size = f.pages.page_size; capacity = f.write_buffer; cache_pages = f.pages.cache_pages }) g.D.Device.Tells
    (walk_of l.fn.self) (g.D.Device.opened l.initial.dev) (g.D.Device.time l.initial.dev) (g.D.Device.faults l.initial.dev) (walk_of l.self) (g.D.Device.opened l.dev) (g.D.Device.time l.dev) (g.D.Device.faults l.dev)
    × ((walk_of l.fn.self).ended ≡ true → (l.self ≡ l.fn.self) × (l.dev ≡ l.initial.dev))

abbrev pub decreases-steps : goal.decreases-steps
decreases-steps g l = way_of (walk_of l.self)
