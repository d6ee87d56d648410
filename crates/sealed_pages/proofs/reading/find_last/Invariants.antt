use Rattle.std.proofs.Common.{◌≡◌, ◌≤◌, ◌+◌, ◌/◌, length}
use Rattle.blob_device.specs.Timeline.{disk}
use Rattle.sealed_pages.specs.SealedPrefix.{size_below, adopted_size}
use Rattle.sealed_pages.specs.Reading.{Unchanged, OnlyRead}
use Rattle.sealed_pages.proofs.reading.find_last.Given as goal

abbrev pub invariant-back : goal.invariant-back
invariant-back g l = record {
  low : l.page ≤ l.blob.end / (l.blob.page_size + 12) + 1;
  few : l.page ≤ l.initial.page;
  buf : length l.buf ≡ l.blob.page_size + 12;
  faults : g.D.Device.faults l.initial.dev ≤ g.D.Device.faults l.dev;
  entries : OnlyRead (l.blob.partition.now, l.blob.name.now) (g.D.Device.opened l.initial.dev) (g.D.Device.opened l.dev);
  unchanged : g.D.Device.Tells → Unchanged (g.D.Device.time l.initial.dev) (g.D.Device.time l.dev);
  none : g.D.Device.Tells → size_below g.S.Seal.seal_of l.blob.page_size (disk (g.D.Device.time l.initial.dev) (l.blob.partition.now, l.blob.name.now)).content l.page ≡ adopted_size g.S.Seal.seal_of l.blob.page_size (disk (g.D.Device.time l.initial.dev) (l.blob.partition.now, l.blob.name.now)).content;
}

abbrev pub decreases-back : goal.decreases-back
decreases-back g l = l.page
