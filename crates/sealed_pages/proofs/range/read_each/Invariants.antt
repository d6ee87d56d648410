use Rattle.std.proofs.Common.{◌≡◌, ◌≤◌, ◌<◌, ◌+◌, ◌-◌, ◌*◌, ◌/◌, ℕ, length, get_or}
use Rattle.blob_device.specs.Timeline.{disk}
use Rattle.sealed_pages.specs.Entries.{ReadsAtMost}
use Rattle.std.specs.Map.{keys_of}
use Rattle.sealed_pages.specs.Cached.{held_in, uncached, AreCachedOf}
use Rattle.sealed_pages.specs.Reading.{Unchanged}
use Rattle.sealed_pages.specs.Reads.{IsWanted, needed}
use Rattle.sealed_pages.specs.SealedPrefix.{place}
use Rattle.sealed_pages.specs.Slots.{page_length}
use Rattle.sealed_pages.specs.View.{view}
use Rattle.sealed_pages.proofs.range.read_each.Given as goal

abbrev pub invariant-pages : goal.invariant-pages
invariant-pages g l = record {
  page_buf : length l.page_buf ≡ l.source.blob.page_size + 12;
  within : l.at ≤ length l.out;
  in_page : l.skip < l.source.blob.page_size;
  place_is : l.at < length l.out → l.page * l.source.blob.page_size + l.skip ≡ l.offset + l.at;
  reached : 0 < l.at → (l.skip ≡ 0) × (l.offset + l.at ≤ l.page * l.source.blob.page_size);
  from : l.offset / l.source.blob.page_size ≤ l.page;
  idle : l.at ≡ 0 → l.dev ≡ l.initial.dev;
  visited : l.at ≡ 0 → l.page ≡ l.offset / l.source.blob.page_size;
  last : 0 < l.at → (l.page - 1) * l.source.blob.page_size < l.offset + l.at;
  reads : ReadsAtMost (uncached (keys_of (held_in l.source.cache.now)) (l.offset / l.source.blob.page_size) (l.page - l.offset / l.source.blob.page_size)) (l.source.blob.partition.now, l.source.blob.name.now) (g.D.Device.opened l.initial.dev) (g.D.Device.opened l.dev);
  faults : g.D.Device.faults l.initial.dev ≤ g.D.Device.faults l.dev;
  unchanged : g.D.Device.Tells → Unchanged (g.D.Device.time l.initial.dev) (g.D.Device.time l.dev);
  bytes : g.D.Device.Tells → AreCachedOf g.S.Seal.seal_of l.source.blob.page_size (disk (g.D.Device.time l.initial.dev) (l.source.blob.partition.now, l.source.blob.name.now)).content (held_in l.source.cache.now) → (i : ℕ) → i < l.at → get_or l.out i 0 ≡ view (disk (g.D.Device.time l.initial.dev) (l.source.blob.partition.now, l.source.blob.name.now)).content (place l.source.blob.page_size (l.offset + i));
  covered : g.D.Device.Tells → AreCachedOf g.S.Seal.seal_of l.source.blob.page_size (disk (g.D.Device.time l.initial.dev) (l.source.blob.partition.now, l.source.blob.name.now)).content (held_in l.source.cache.now) → (k : ℕ) → k < l.page → IsWanted l.source.blob.page_size l.offset (length l.out) k → needed l.source.blob.page_size l.offset (length l.out) k ≤ page_length g.S.Seal.seal_of l.source.blob.page_size (disk (g.D.Device.time l.initial.dev) (l.source.blob.partition.now, l.source.blob.name.now)).content k;
}

abbrev pub decreases-pages : goal.decreases-pages
decreases-pages g l = length l.out - l.at
