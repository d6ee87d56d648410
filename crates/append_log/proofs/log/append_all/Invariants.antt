use Rattle.std.proofs.Common.{◌≡◌, ◌≢◌, ◌<◌, ◌≤◌, ◌^◌, length}
use Rattle.blob_device.specs.Disk.{Key}
use Rattle.blob_device.specs.Timeline.{disk}
use Rattle.append_log.specs.Appended.{Grown, grown}
use Rattle.append_log.proofs.log.append_all.Given as goal

abbrev pub invariant-records : goal.invariant-records
invariant-records g l = record {
  faults : g.D.Device.faults l.initial.dev ≤ g.D.Device.faults l.dev;
  count : length l.marks.items ≡ l.record-index;
  entries : (q : Key) → q ≢ (l.partition, l.name) → g.D.Device.opened l.dev q ≡ g.D.Device.opened l.initial.dev q;
  told : g.D.Device.Tells → Grown (l.partition, l.name) (disk (g.D.Device.time l.initial.dev) (l.partition, l.name)).content l.records (g.D.Device.time l.initial.dev) (g.D.Device.time l.dev) l.marks.items;
  room : g.D.Device.Tells → 0 < l.record-index → length (grown (disk (g.D.Device.time l.initial.dev) (l.partition, l.name)).content l.records l.record-index) < 2 ^ 64;
}
