use Rattle.std.proofs.Common.{◌≡◌, ◌≤◌, ◌<◌, ◌+◌, ◌*◌, ◌-◌, length}
use Rattle.sealed_pages.specs.Entries.{IsOpenAt}
use Rattle.sealed_pages.specs.SlotNames.{is_b, opened_key}
use Rattle.sealed_pages.proofs.PagesFlushed.{Going}
use Rattle.sealed_pages.proofs.flush.flush_pages.Given as goal

abbrev pub invariant-pages : goal.invariant-pages
invariant-pages g l = record {
  is_open : IsOpenAt (g.D.Device.opened l.dev) (opened_key l.blob) l.reach;
  in_tip : l.at + l.from ≤ length l.tip.bytes.now;
  more : l.at < length l.tip.bytes.now → l.at + l.from < length l.tip.bytes.now;
  in_page : l.from < l.blob.page_size;
  place : l.at < length l.tip.bytes.now → l.page * l.blob.page_size ≡ l.tip.first * l.blob.page_size + l.at;
  goes : Going g.D.Device g.S.Seal.seal_of l.blob.page_size (opened_key l.blob) l.tip.first l.tip.from l.tip.bytes.now l.settled.len (is_b l.settled.slot) l.initial.dev l.dev l.at l.from l.page;
}

abbrev pub decreases-pages : goal.decreases-pages
decreases-pages g l = length l.tip.bytes.now - l.at
