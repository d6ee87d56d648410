use Rattle.std.proofs.Common.{◌≡◌, ◌≤◌, ◌<◌, ◌+◌, ◌-◌, ◌*◌, ◌^◌, ℕ, length}
use Rattle.blob_device.specs.Timeline.{disk}
use Rattle.sealed_pages.specs.Entries.{ReadsAtMost}
use Rattle.sealed_pages.specs.Pieces.{IsPieceOf}
use Rattle.sealed_pages.specs.Reading.{Unchanged}
use Rattle.sealed_pages.specs.SealedPrefix.{sealed_from}
use Rattle.sealed_pages.proofs.prefix.prefix_len.Given as goal

abbrev pub invariant-pages : goal.invariant-pages
invariant-pages g l = record {
  from : l.fn.among.start ≤ l.page;
  upto : l.fn.among.start < l.page → l.page ≤ l.pages;
  fits : l.page * l.blob.page_size < 2 ^ 64;
  page_size : l.piece.page_size ≡ l.blob.page_size;
  reads : ReadsAtMost (l.page - l.fn.among.start) (l.blob.partition.now, l.blob.name.now) (g.D.Device.opened l.initial.dev) (g.D.Device.opened l.dev);
  faults : g.D.Device.faults l.initial.dev ≤ g.D.Device.faults l.dev;
  unchanged : g.D.Device.Tells → Unchanged (g.D.Device.time l.initial.dev) (g.D.Device.time l.dev);
  piece_of : g.D.Device.Tells → IsPieceOf (disk (g.D.Device.time l.initial.dev) (l.blob.partition.now, l.blob.name.now)).content l.piece;
  sealed : g.D.Device.Tells → (m : ℕ) → l.pages ≤ m → l.fn.among.start * l.blob.page_size + length (sealed_from g.S.Seal.seal_of l.blob.page_size (disk (g.D.Device.time l.initial.dev) (l.blob.partition.now, l.blob.name.now)).content l.fn.among.start (m - l.fn.among.start))
      ≡ l.page * l.blob.page_size + length (sealed_from g.S.Seal.seal_of l.blob.page_size (disk (g.D.Device.time l.initial.dev) (l.blob.partition.now, l.blob.name.now)).content l.page (m - l.page));
}

abbrev pub decreases-pages : goal.decreases-pages
decreases-pages g l = l.pages - l.page
