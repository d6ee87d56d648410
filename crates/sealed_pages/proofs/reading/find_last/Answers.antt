use Rattle.std.proofs.Common.{rules, ◌≡◌, ◌<◌, ◌^◌, ◌+◌, ◌/◌, ◌-◌, ◌≤◌, ◌∙◌, ℕ, suc, List, take, false, true, ap, sym, arith, max}
use Rattle.blob_device.specs.Disk.{Disk}
use Rattle.blob_device.specs.Timeline.{disk}
use Rattle.sealed_pages.specs.Reading.{page_of}
use Rattle.sealed_pages.specs.Slots.{slot_length, page_length}
use Rattle.sealed_pages.specs.SealedPrefix.{pages_in, size_below}
use Rattle.sealed_pages.specs.View.{page_at}
use Rattle.sealed_pages.specs.lemmas.looking.Looking.{content_length, page_length_is, part_slot, size_found, size_none, size_zero, unchanged_now, unchanged_start, unchanged_then}
use Rattle.sealed_pages.specs.lemmas.slots.Slot.{page_apart, slot_length-le}
use Rattle.sealed_pages.specs.lemmas.Entries.{only_read_start, only_read_then, only_read_of}
use Rattle.sealed_pages.proofs.looking.Looking.{size_upto, page_below}
use Rattle.sealed_pages.proofs.cutting.Truncating.{no_value}
use Rattle.sealed_pages.specs.SlotNames.{opened_key}
use Rattle.sealed_pages.proofs.reading.find_last.Given as given
use Rattle.sealed_pages.proofs.reading.find_last.Goals.{After-max}
use Rattle.sealed_pages.proofs.reading.find_last.Goals as goal

pub back-init : goal.back-init
back-init g c = record {
  low = c.page_count-page.ensures.within;
  few = omega arith;
  buf = c.requires.buf;
  faults = omega arith;
  entries = only_read_start _ _;
  unchanged = λ t. unchanged_start _;
  none = λ t.
      let long = content_length (g.D.Device.opened c.args.dev.now) (opened_key c.args.blob.now) c.args.blob.now.end _ (disk (g.D.Device.time c.args.dev.now) (opened_key c.args.blob.now)).content (g.met.D.Device.opened_stands t c.args.dev.now (opened_key c.args.blob.now)) c.requires.«open» in
      let count : pages_in c.args.blob.now.page_size (disk (g.D.Device.time c.args.dev.now) (opened_key c.args.blob.now)).content ≡ c.page_count-page.result + (pages_in c.args.blob.now.page_size (disk (g.D.Device.time c.args.dev.now) (opened_key c.args.blob.now)).content - c.page_count-page.result) =
      omega (arith, c.page_count-page.ensures.within, ap (λ (n : ℕ). n / (c.args.blob.now.page_size + 12)) long) in
      sym (ap (size_below g.S.Seal.seal_of c.args.blob.now.page_size (disk (g.D.Device.time c.args.dev.now) (opened_key c.args.blob.now)).content) count
      ∙ size_upto g.S.Seal.seal_of c.args.blob.now.page_size (disk (g.D.Device.time c.args.dev.now) (opened_key c.args.blob.now)).content c.page_count-page.result (pages_in c.args.blob.now.page_size (disk (g.D.Device.time c.args.dev.now) (opened_key c.args.blob.now)).content - c.page_count-page.result)
      (c.page_count-page.ensures.none g.S.Seal.seal_of (disk (g.D.Device.time c.args.dev.now) (opened_key c.args.blob.now)).content long));
}

pub read_page-requires-clause-room : goal.read_page-requires-clause-room
read_page-requires-clause-room g c =
    omega (arith, page_apart c.args.blob.now.page_size (c.back.page - 1) c.page_count-page.result (omega (arith, c.back.invariant.few, c.back-test.true)), c.page_count-page.ensures.fits)

-- the page that was read ends below 2^64
room : (g : given.Over) (c : After-max g) → page_at c.args.blob.now.page_size (c.back.page - 1) + (c.args.blob.now.page_size + 12) < 2 ^ 64
room g c = omega (arith, page_apart c.args.blob.now.page_size (c.back.page - 1) c.page_count-page.result (omega (arith, c.back.invariant.few, c.back-test.true)), c.page_count-page.ensures.fits)

next : (g : given.Over) (c : After-max g) → suc (c.back.page - 1) ≡ c.back.page
next g c = omega (arith, c.back-test.true)

-- it is as in the blob
part : (g : given.Over) (c : After-max g) → g.D.Device.Tells → take c.in_ok-have.have c.read_page.new.buf ≡ page_of c.args.blob.now.page_size (disk (g.D.Device.time c.args.dev.now) (opened_key c.args.blob.now)).content (c.back.page - 1)
part g c t = c.in_ok-have.ensures.bytes t
    ∙ ap (λ (d : Disk). page_of c.args.blob.now.page_size (d (opened_key c.args.blob.now)).content (c.back.page - 1)) (unchanged_now (g.D.Device.time c.args.dev.now) (g.D.Device.time c.back.dev) (c.back.invariant.unchanged t))

-- and so are its slots
first : (g : given.Over) (c : After-max g) → g.D.Device.Tells → c.matching_len-first_len.result ≡ slot_length g.S.Seal.seal_of c.args.blob.now.page_size (disk (g.D.Device.time c.args.dev.now) (opened_key c.args.blob.now)).content (c.back.page - 1) false
first g c t = c.matching_len-first_len.ensures ∙ ap (λ (l : List ℕ). slot_length g.S.Seal.seal_of c.args.blob.now.page_size l 0 false) (part g c t) ∙ part_slot g.S.Seal.seal_of c.args.blob.now.page_size (disk (g.D.Device.time c.args.dev.now) (opened_key c.args.blob.now)).content (c.back.page - 1) (room g c) false

second : (g : given.Over) (c : After-max g) → g.D.Device.Tells → c.matching_len-second_len.result ≡ slot_length g.S.Seal.seal_of c.args.blob.now.page_size (disk (g.D.Device.time c.args.dev.now) (opened_key c.args.blob.now)).content (c.back.page - 1) true
second g c t = c.matching_len-second_len.ensures ∙ ap (λ (l : List ℕ). slot_length g.S.Seal.seal_of c.args.blob.now.page_size l 0 true) (part g c t) ∙ part_slot g.S.Seal.seal_of c.args.blob.now.page_size (disk (g.D.Device.time c.args.dev.now) (opened_key c.args.blob.now)).content (c.back.page - 1) (room g c) true

-- how far it is covered
covers : (g : given.Over) (c : After-max g) → g.D.Device.Tells → page_length g.S.Seal.seal_of c.args.blob.now.page_size (disk (g.D.Device.time c.args.dev.now) (opened_key c.args.blob.now)).content (c.back.page - 1) ≡ max c.matching_len-first_len.result c.matching_len-second_len.result
covers g c t = omega (arith, page_length_is g.S.Seal.seal_of c.args.blob.now.page_size (disk (g.D.Device.time c.args.dev.now) (opened_key c.args.blob.now)).content (c.back.page - 1), first g c t, second g c t)

-- the read failed
pub returns-in_err-have : goal.returns-in_err-have
returns-in_err-have g c = record {
  found = λ t. no_value _ _ c.from_residual.ensures.0;
  below = no_value _ _ c.from_residual.ensures.0;
  unchanged = λ t. unchanged_then _ _ _ (c.back.invariant.unchanged t) (c.in_err-have.ensures.unchanged t);
  entries = only_read_then _ _ _ _ c.back.invariant.entries (only_read_of _ _ _ _ c.in_err-have.ensures.entries);
  faults = omega (arith, c.back.invariant.faults, c.in_err-have.ensures.faults);
  cause = search rules;
}

-- it is found
pub returns-then-max-gt0 : goal.returns-then-max-gt0
returns-then-max-gt0 g c = record {
  found = λ t.
      let some : 1 ≤ page_length g.S.Seal.seal_of c.args.blob.now.page_size (disk (g.D.Device.time c.args.dev.now) (opened_key c.args.blob.now)).content (c.back.page - 1) = omega (arith, covers g (goal.at.returns-then-max-gt0 g c).After-max t, c.max.ensures, c.if-max-gt0.true) in (
        sym (c.back.invariant.none t) ∙ sym (ap (size_below g.S.Seal.seal_of c.args.blob.now.page_size (disk (g.D.Device.time c.args.dev.now) (opened_key c.args.blob.now)).content) (next g (goal.at.returns-then-max-gt0 g c).After-max)) ∙ size_found g.S.Seal.seal_of c.args.blob.now.page_size (disk (g.D.Device.time c.args.dev.now) (opened_key c.args.blob.now)).content (c.back.page - 1) some,
        some,
        first g (goal.at.returns-then-max-gt0 g c).After-max t,
        second g (goal.at.returns-then-max-gt0 g c).After-max t,
        part g (goal.at.returns-then-max-gt0 g c).After-max t,
      );
  below = (
    page_below c.args.blob.now.page_size c.args.blob.now.end (c.back.page - 1) (omega (arith, c.back.invariant.low, c.back-test.true)),
    room g (goal.at.returns-then-max-gt0 g c).After-max,
    c.in_ok-have.ensures.within,
    omega (arith, c.matching_len-first_len.ensures, slot_length-le g.S.Seal.seal_of c.args.blob.now.page_size (take c.in_ok-have.have c.read_page.new.buf) 0 false),
    omega (arith, c.matching_len-second_len.ensures, slot_length-le g.S.Seal.seal_of c.args.blob.now.page_size (take c.in_ok-have.have c.read_page.new.buf) 0 true),
    omega (arith, c.max.ensures, c.if-max-gt0.true),
  );
  unchanged = λ t. unchanged_then _ _ _ (c.back.invariant.unchanged t) (c.in_ok-have.ensures.unchanged t);
  entries = only_read_then _ _ _ _ c.back.invariant.entries (only_read_of _ _ _ _ c.in_ok-have.ensures.entries);
  faults = omega (arith, c.back.invariant.faults, c.in_ok-have.ensures.faults);
  cause = λ e. absurd (cc e);
}

pub back-preserved : goal.back-preserved
back-preserved g c = record {
  low = omega (arith, c.back.invariant.low);
  few = omega (arith, c.back.invariant.few);
  buf = search rules;
  faults = omega (arith, c.back.invariant.faults, c.in_ok-have.ensures.faults);
  entries = only_read_then _ _ _ _ c.back.invariant.entries (only_read_of _ _ _ _ c.in_ok-have.ensures.entries);
  unchanged = λ t. unchanged_then _ _ _ (c.back.invariant.unchanged t) (c.in_ok-have.ensures.unchanged t);
  none = λ t.
      let none : page_length g.S.Seal.seal_of c.args.blob.now.page_size (disk (g.D.Device.time c.args.dev.now) (opened_key c.args.blob.now)).content (c.back.page - 1) ≡ 0 = omega (arith, covers g (goal.at.back-preserved g c).After-max t, c.max.ensures, c.if-max-gt0.false) in
      sym (size_none g.S.Seal.seal_of c.args.blob.now.page_size (disk (g.D.Device.time c.args.dev.now) (opened_key c.args.blob.now)).content (c.back.page - 1) none) ∙ ap (size_below g.S.Seal.seal_of c.args.blob.now.page_size (disk (g.D.Device.time c.args.dev.now) (opened_key c.args.blob.now)).content) (next g (goal.at.back-preserved g c).After-max) ∙ c.back.invariant.none t;
}

-- there is none
pub returns : goal.returns
returns g c = record {
  found = λ t.
      let e : c.back.page ≡ 0 = omega (arith, c.back-test.false) in
      sym (c.back.invariant.none t) ∙ ap (size_below g.S.Seal.seal_of c.args.blob.now.page_size (disk (g.D.Device.time c.args.dev.now) (opened_key c.args.blob.now)).content) e ∙ size_zero g.S.Seal.seal_of c.args.blob.now.page_size (disk (g.D.Device.time c.args.dev.now) (opened_key c.args.blob.now)).content;
  below = tt;
  unchanged = c.back.invariant.unchanged;
  entries = c.back.invariant.entries;
  faults = c.back.invariant.faults;
  cause = λ e. absurd (cc e);
}
