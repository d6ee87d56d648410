use Rattle.std.proofs.Common.{◌≡◌, ◌≤◌, ◌<◌, ◌+◌, ◌*◌, ◌/◌, ℕ, get_or, take, map, count_by}
use Rattle.std.specs.List.{Contains}
use Rattle.blob_device.specs.Timeline.{disk}
use Rattle.sealed_pages.specs.Buffer.{key_of, bytes_of, IsBacked}
use Rattle.sealed_pages.specs.Entries.{IsOpenAt, ReadsAtMost}
use Rattle.sealed_pages.specs.Reading.{Unchanged}
use Rattle.sealed_pages.specs.Shown.{shown}
use Rattle.segments.specs.FixedItems.{item_at}
use Rattle.segments.specs.FixedReading.{is_item_held, unheld, IsItemCovered}
use Rattle.segments.proofs.fixed.Journal.read_each.Given as goal

abbrev pub invariant-loop-i : goal.invariant-loop-i
invariant-loop-i g l = record {
  items : g.D.Device.Tells → IsBacked g.S.Seal.seal_of (shown l.buffer) (disk (g.D.Device.time l.initial.dev) (key_of (shown l.buffer))).content → map g.A.Codec.spelling l.items.items ≡ map (item_at g.A.CodecFixed.SIZE (bytes_of (shown l.buffer) (disk (g.D.Device.time l.initial.dev) (key_of (shown l.buffer))).content)) (take l.i l.positions);
  accepted : (v : g.row.A.Denot) → Contains l.items.items v → g.A.Codec.accepted v tt;
  held : l.held_count ≡ count_by (is_item_held g.A.CodecFixed.SIZE l.buffer) (take l.i l.positions);
  checked : g.D.Device.Tells → IsBacked g.S.Seal.seal_of (shown l.buffer) (disk (g.D.Device.time l.initial.dev) (key_of (shown l.buffer))).content → (k : ℕ) → k < l.i → IsItemCovered g.A.CodecFixed.SIZE g.S.Seal.seal_of l.buffer (disk (g.D.Device.time l.initial.dev) (key_of (shown l.buffer))).content (get_or l.positions k 0);
  is_open : IsOpenAt (g.D.Device.opened l.dev) (key_of (shown l.buffer)) l.buffer.end;
  unchanged : g.D.Device.Tells → Unchanged (g.D.Device.time l.initial.dev) (g.D.Device.time l.dev);
  idle : unheld g.A.CodecFixed.SIZE l.buffer (take l.i l.positions) ≡ 0 → l.dev ≡ l.initial.dev;
  reads : ReadsAtMost (unheld g.A.CodecFixed.SIZE l.buffer (take l.i l.positions) * (g.A.CodecFixed.SIZE / l.buffer.page_size + 2)) (key_of (shown l.buffer)) (g.D.Device.opened l.initial.dev) (g.D.Device.opened l.dev);
  faults : g.D.Device.faults l.initial.dev ≤ g.D.Device.faults l.dev;
}
