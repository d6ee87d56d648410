use Rattle.std.proofs.Common.{rules, ◌≡◌, ◌≤◌, ◌<◌, ◌^◌, min, inl, inr, Err, ◌+◌, ◌-◌, ◌*◌, ◌/◌, ◌∙◌, ℕ, length, ap, subst, arith}
use Rattle.std.proofs.lemmas.Bool.{cases_lt}
use Rattle.blob_device.specs.Disk.{Disk}
use Rattle.blob_device.specs.Timeline.{disk}
use Rattle.sealed_pages.specs.Entries.{ReadsAtMost}
use Rattle.sealed_pages.specs.Pieces.{IsPieceOf}
use Rattle.sealed_pages.specs.Reading.{Unchanged}
use Rattle.sealed_pages.specs.SealedPrefix.{pages_in, sealed_from}
use Rattle.sealed_pages.specs.Slots.{page_length}
use Rattle.sealed_pages.specs.View.{page_at}
use Rattle.sealed_pages.specs.lemmas.Entries.{reads_start, reads_more, reads_then}
use Rattle.sealed_pages.specs.lemmas.cutting.Truncating.{rose_since}
use Rattle.sealed_pages.specs.lemmas.looking.Looking.{content_length, unchanged_now, unchanged_start, unchanged_then}
use Rattle.sealed_pages.specs.lemmas.slots.SealedBytes.{page_length-le}
use Rattle.sealed_pages.specs.lemmas.slots.Slot.{page_apart}
use Rattle.sealed_pages.proofs.looking.PieceLemmas.{piece_covered, sealed_full, sealed_last, sealed_behind}
use Rattle.sealed_pages.proofs.looking.ReadLemmas.{data_fits}
use Rattle.sealed_pages.proofs.cutting.Truncating.{no_value, raised_cause}
use Rattle.sealed_pages.specs.SlotNames.{opened_key}
use Rattle.sealed_pages.proofs.prefix.prefix_len.Given as given
use Rattle.sealed_pages.proofs.prefix.prefix_len.Goals.{After-min-pages, After-load, After-covered_len-len}
use Rattle.sealed_pages.proofs.prefix.prefix_len.Goals as goal
use Rattle.blob_device.proofs.general.Numbers.{times_next}

pub load-requires-clause-place : goal.load-requires-clause-place
load-requires-clause-place g c =
    let room : page_at c.args.blob.now.page_size c.pages.page + (c.args.blob.now.page_size + 12) < 2 ^ 64 = omega (arith, page_apart c.args.blob.now.page_size c.pages.page c.page_count.result (omega (arith, c.pages-test.true, c.min-pages.ensures)), c.page_count.ensures.fits) in
    omega (arith, room, ap (λ (n : ℕ). page_at n c.pages.page) c.pages.invariant.page_size)

-- how long the blob is
long : (g : given.Over) (c : After-min-pages g) → g.D.Device.Tells → length (disk (g.D.Device.time c.args.dev.now) (opened_key c.args.blob.now)).content ≡ c.args.blob.now.end
long g c t = content_length (g.D.Device.opened c.args.dev.now) (opened_key c.args.blob.now) c.args.blob.now.end _ (disk (g.D.Device.time c.args.dev.now) (opened_key c.args.blob.now)).content (g.met.D.Device.opened_stands t c.args.dev.now (opened_key c.args.blob.now)) c.requires.«open»

-- no more pages are looked at than it has, and than are asked for
many : (g : given.Over) (c : After-min-pages g) → g.D.Device.Tells → c.min-pages.result ≤ min (pages_in c.args.blob.now.page_size (disk (g.D.Device.time c.args.dev.now) (opened_key c.args.blob.now)).content) c.args.among.end
many g c t = omega (arith, c.min-pages.ensures, c.page_count.ensures.within, ap (λ (n : ℕ). n / (c.args.blob.now.page_size + 12)) (long g c t))

-- the page ends below 2^64
room : (g : given.Over) (c : After-covered_len-len g) → page_at c.args.blob.now.page_size c.pages.page + (c.args.blob.now.page_size + 12) < 2 ^ 64
room g c = omega (arith, page_apart c.args.blob.now.page_size c.pages.page c.page_count.result (omega (arith, c.pages-test.true, c.min-pages.ensures)), c.page_count.ensures.fits)

-- the piece is as in the blob
is_piece : (g : given.Over) (c : After-covered_len-len g) → g.D.Device.Tells → IsPieceOf (disk (g.D.Device.time c.args.dev.now) (opened_key c.args.blob.now)).content c.load.new.self
is_piece g c t =
    let same : disk (g.D.Device.time c.pages.dev) ≡ disk (g.D.Device.time c.args.dev.now) = unchanged_now (g.D.Device.time c.args.dev.now) (g.D.Device.time c.pages.dev) (c.pages.invariant.unchanged t) in
    subst (λ (d : Disk). IsPieceOf (d (opened_key c.args.blob.now)).content c.pages.piece → IsPieceOf (d (opened_key c.args.blob.now)).content c.load.new.self) same (c.load.ensures.piece t) (c.pages.invariant.piece_of t)

-- no call changed a blob
unchanged : (g : given.Over) (c : After-load g) → g.D.Device.Tells → Unchanged (g.D.Device.time c.args.dev.now) (g.D.Device.time c.load.new.dev)
unchanged g c t = unchanged_then _ _ _ (c.pages.invariant.unchanged t) (c.load.ensures.unchanged t)

-- each page was read at most once
reads : (g : given.Over) (c : After-load g) → ReadsAtMost (min (c.args.blob.now.end / (c.args.blob.now.page_size + 12) + 1) c.args.among.end - c.args.among.start) (opened_key c.args.blob.now) (g.D.Device.opened c.args.dev.now) (g.D.Device.opened c.load.new.dev)
reads g c = reads_then (opened_key c.args.blob.now) (c.pages.page - c.args.among.start) 1 _ (g.D.Device.opened c.args.dev.now) (g.D.Device.opened c.pages.dev) (g.D.Device.opened c.load.new.dev)
    (omega (arith, c.pages.invariant.from, c.pages-test.true, c.min-pages.ensures, c.page_count.ensures.within)) c.pages.invariant.reads c.load.ensures.entries

-- how far the page is covered
covered : (g : given.Over) (c : After-covered_len-len g) → g.D.Device.Tells → c.covered_len-len.result ≡ page_length g.S.Seal.seal_of c.args.blob.now.page_size (disk (g.D.Device.time c.args.dev.now) (opened_key c.args.blob.now)).content c.pages.page
covered g c t = piece_covered g.S.Seal.seal_of c.args.blob.now.page_size (disk (g.D.Device.time c.args.dev.now) (opened_key c.args.blob.now)).content c.load.new.self c.pages.page c.page_bytes.result.now c.covered_len-len.result (room g c) (c.in_ok-load.ensures.page_size ∙ c.pages.invariant.page_size) (is_piece g c t) c.in_ok-load.ensures.holds c.page_bytes.ensures c.covered_len-len.ensures.covers

-- no memory for a piece
pub returns-in_err-piece : goal.returns-in_err-piece
returns-in_err-piece g c = record {
  length = λ t. no_value _ _ c.from_residual.ensures.0;
  unchanged = λ t. unchanged_start (g.D.Device.time c.args.dev.now);
  entries = reads_start _ _ _;
  faults = omega arith;
  cause = search rules;
}

-- the device failed
pub returns-in_err-load : goal.returns-in_err-load
returns-in_err-load g c = record {
  length = λ t. no_value _ _ c.from_residual-in_err-load.ensures.0;
  unchanged = unchanged g (goal.at.returns-in_err-load g c).After-load;
  entries = reads g (goal.at.returns-in_err-load g c).After-load;
  faults = omega (arith, c.pages.invariant.faults, c.load.ensures.faults);
  cause = raised_cause c.from_residual-in_err-load.result c.in_err-load.field-0.0 (g.D.Device.faults c.args.dev.now) (g.D.Device.faults c.load.new.dev) c.from_residual-in_err-load.ensures.1 (λ is. rose_since _ _ _ c.pages.invariant.faults (c.in_err-load.ensures.cause (ap Err is)));
}

-- a page that is not full
pub returns-then-len-from : goal.returns-then-len-from
returns-then-len-from g c = record {
  length = λ t.
      let less : page_length g.S.Seal.seal_of c.args.blob.now.page_size (disk (g.D.Device.time c.args.dev.now) (opened_key c.args.blob.now)).content c.pages.page < c.args.blob.now.page_size = omega (arith, covered g (goal.at.returns-then-len-from g c).After-covered_len-len t, c.if-len-from.true, c.from.ensures) in
      let last = sealed_last g.S.Seal.seal_of c.args.blob.now.page_size (disk (g.D.Device.time c.args.dev.now) (opened_key c.args.blob.now)).content c.pages.page (min (pages_in c.args.blob.now.page_size (disk (g.D.Device.time c.args.dev.now) (opened_key c.args.blob.now)).content) c.args.among.end) (omega (arith, c.pages-test.true, many g (goal.at.returns-then-len-from g c).After-min-pages t)) less in
      omega (arith, covered g (goal.at.returns-then-len-from g c).After-covered_len-len t, last, c.pages.invariant.sealed t (min (pages_in c.args.blob.now.page_size (disk (g.D.Device.time c.args.dev.now) (opened_key c.args.blob.now)).content) c.args.among.end) (many g (goal.at.returns-then-len-from g c).After-min-pages t), ap (λ (n : ℕ). c.pages.page * n) c.from-then-len-from.ensures);
  unchanged = unchanged g (goal.at.returns-then-len-from g c).After-load;
  entries = reads g (goal.at.returns-then-len-from g c).After-load;
  faults = omega (arith, c.pages.invariant.faults, c.load.ensures.faults);
  cause = tt;
}

pub pages-preserved : goal.pages-preserved
pages-preserved g c = record {
  from = omega (arith, c.pages.invariant.from);
  upto = λ lt. omega (arith, c.pages-test.true);
  fits = omega (arith, data_fits c.args.blob.now.page_size c.pages.page (omega arith) (omega (arith, room g (goal.at.pages-preserved g c).After-covered_len-len)), times_next c.pages.page c.args.blob.now.page_size);
  page_size = c.in_ok-load.ensures.page_size ∙ c.pages.invariant.page_size;
  reads = reads_then (opened_key c.args.blob.now) (c.pages.page - c.args.among.start) 1 (c.pages.page + 1 - c.args.among.start) (g.D.Device.opened c.args.dev.now) (g.D.Device.opened c.pages.dev) (g.D.Device.opened c.load.new.dev) (omega (arith, c.pages.invariant.from)) c.pages.invariant.reads c.in_ok-load.ensures.entries;
  faults = omega (arith, c.pages.invariant.faults, c.in_ok-load.ensures.faults);
  unchanged = unchanged g (goal.at.pages-preserved g c).After-load;
  piece_of = is_piece g (goal.at.pages-preserved g c).After-covered_len-len;
  sealed = λ t m le.
      let full : page_length g.S.Seal.seal_of c.args.blob.now.page_size (disk (g.D.Device.time c.args.dev.now) (opened_key c.args.blob.now)).content c.pages.page ≡ c.args.blob.now.page_size = omega (arith, covered g (goal.at.pages-preserved g c).After-covered_len-len t, c.if-len-from.false, c.from.ensures, page_length-le g.S.Seal.seal_of c.args.blob.now.page_size (disk (g.D.Device.time c.args.dev.now) (opened_key c.args.blob.now)).content c.pages.page) in
      c.pages.invariant.sealed t m le ∙ sealed_full g.S.Seal.seal_of c.args.blob.now.page_size (disk (g.D.Device.time c.args.dev.now) (opened_key c.args.blob.now)).content c.pages.page m (omega (arith, c.pages-test.true, le)) full;
}

-- no page is left
pub returns : goal.returns
returns g c = record {
  length = λ t.
      let none : length (sealed_from g.S.Seal.seal_of c.args.blob.now.page_size (disk (g.D.Device.time c.args.dev.now) (opened_key c.args.blob.now)).content c.pages.page (min (pages_in c.args.blob.now.page_size (disk (g.D.Device.time c.args.dev.now) (opened_key c.args.blob.now)).content) c.args.among.end - c.pages.page)) ≡ 0
      = sealed_behind g.S.Seal.seal_of c.args.blob.now.page_size (disk (g.D.Device.time c.args.dev.now) (opened_key c.args.blob.now)).content c.pages.page c.page_count.result c.args.among.end (min (pages_in c.args.blob.now.page_size (disk (g.D.Device.time c.args.dev.now) (opened_key c.args.blob.now)).content) c.args.among.end) c.requires.some (omega (arith, c.pages-test.false, c.min-pages.ensures)) (omega arith) (c.page_count.ensures.none g.S.Seal.seal_of (disk (g.D.Device.time c.args.dev.now) (opened_key c.args.blob.now)).content (long g (goal.at.returns g c).After-min-pages t)) in
      omega (arith, none, c.pages.invariant.sealed t (min (pages_in c.args.blob.now.page_size (disk (g.D.Device.time c.args.dev.now) (opened_key c.args.blob.now)).content) c.args.among.end) (many g (goal.at.returns g c).After-min-pages t), ap (λ (n : ℕ). c.pages.page * n) c.from-2.ensures);
  unchanged = c.pages.invariant.unchanged;
  entries = reads_more _ _ _ _ _ (elim (cases_lt c.args.among.start c.pages.page) [
    | inl lt ↦ omega (arith, c.pages.invariant.upto lt, c.min-pages.ensures, c.page_count.ensures.within)
    | inr le ↦ omega (arith, le)
  ]) c.pages.invariant.reads;
  faults = c.pages.invariant.faults;
  cause = tt;
}

pub overflow_add-result : goal.overflow_add-result
overflow_add-result g c =
    omega (arith, data_fits c.args.blob.now.page_size c.pages.page (omega arith) (omega (arith, room g (goal.at.overflow_add-result g c).After-covered_len-len)), ap (λ (n : ℕ). c.pages.page * n) c.from-then-len-from.ensures, c.covered_len-len.ensures.within)
