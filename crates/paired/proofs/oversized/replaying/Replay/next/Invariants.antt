use Rattle.std.specs.Prelude.{◌≡◌, true}
use Rattle.section_manager.specs.contracts.sealed.PageBlobSectionBuffer.TheImpl as page_blob
use Rattle.segments.specs.FixedStepping.{way_of}
use Rattle.segments.specs.FixedWalking.{walk_of}
use Rattle.paired.specs.ReplayShown.{limits_of, run_of}
use Rattle.paired.specs.lemmas.next.Glue.{SameParts}
use Rattle.paired.specs.lemmas.next.Going.{Running}
use Rattle.paired.specs.lemmas.pair.Synced.{page_setting}
use Rattle.paired.proofs.oversized.replaying.Replay.next.Given as goal

abbrev pub invariant-records : goal.invariant-records
invariant-records g l = Running (page_blob.ghosts g.row.S g.S.Seal g.S.Seal-dict) page_setting (λ f. record { page_size = 1; capacity = f.capacity; cache_pages = 0 }) g.D.Device.Tells (run_of g.I.Record.place l.fn.self)
    (g.D.Device.opened l.initial.dev) (g.D.Device.time l.initial.dev) (g.D.Device.faults l.initial.dev)
    (walk_of l.self.index) (limits_of l.self.ends) l.self.ended_section l.self.has_failed (g.D.Device.opened l.dev) (g.D.Device.time l.dev) (g.D.Device.faults l.dev)
    × SameParts g.I.Record.place l.fn.self l.self × ((walk_of l.fn.self.index).ended ≡ true → l.dev ≡ l.initial.dev)

abbrev pub decreases-records : goal.decreases-records
decreases-records g l = way_of (walk_of l.self.index)
