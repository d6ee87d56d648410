use Rattle.std.proofs.Common.{◌≡◌, ◌≤◌, ◌-◌, length}
use Rattle.blob_device.specs.Timeline.{disk}
use Rattle.sealed_pages.specs.Readers.{reading, next_of, missing_of, IsReplayOf, ReadsUnread, SameReader}
use Rattle.sealed_pages.specs.Reading.{Unchanged}
use Rattle.sealed_pages.specs.lemmas.looking.Replay.{PageReads}
use Rattle.sealed_pages.proofs.replay.PageReplay.ensure.Given as goal

abbrev pub invariant-fill : goal.invariant-fill
invariant-fill g l = record {
  have_is : l.have ≡ length (reading l.self).bytes;
  same : SameReader (reading l.fn.self) (reading l.self);
  grows : length (reading l.fn.self).bytes ≤ length (reading l.self).bytes;
  replays : g.D.Device.Tells → IsReplayOf g.S.Seal.seal_of (disk (g.D.Device.time l.initial.dev) (reading l.fn.self).key).content (reading l.fn.self) → IsReplayOf g.S.Seal.seal_of (disk (g.D.Device.time l.initial.dev) (reading l.fn.self).key).content (reading l.self);
  reads : PageReads l.fn.self.page_size (next_of (reading l.fn.self)) (missing_of (reading l.fn.self) l.n) (next_of (reading l.self)) (reading l.fn.self).key (g.D.Device.opened l.initial.dev) (g.D.Device.opened l.dev);
  once : ReadsUnread (reading l.fn.self) (reading l.self) (g.D.Device.opened l.initial.dev) (g.D.Device.opened l.dev);
  still : l.n ≤ length (reading l.fn.self).bytes → l.dev ≡ l.initial.dev;
  faults : g.D.Device.faults l.initial.dev ≤ g.D.Device.faults l.dev;
  unchanged : g.D.Device.Tells → Unchanged (g.D.Device.time l.initial.dev) (g.D.Device.time l.dev);
}

abbrev pub decreases-fill : goal.decreases-fill
decreases-fill g l = l.want - l.have
