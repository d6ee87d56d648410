use Rattle.std.proofs.Common.{◌≡◌, ◌+◌, ◌≤◌, ◌-◌, length, arith}
use Rattle.sealed_pages.proofs.PagesFlushed.{going_start, going_on, none_new, all_written, page_failed}
use Rattle.sealed_pages.proofs.slots.SlotLemmas.{index_page}
use Rattle.sealed_pages.specs.SlotNames.{is_b, opened_key}
use Rattle.sealed_pages.proofs.flush.flush_pages.Goals as goal
use Rattle.blob_device.proofs.general.Numbers.{times_next}
use Rattle.blob_device.proofs.general.Results.{err_of}

pub pages-init : goal.pages-init
pages-init g c = record {
  is_open = c.requires.«open»;
  in_tip = omega (arith, c.requires.within);
  more = λ lt. omega (arith, c.if-tip.false);
  in_page = c.requires.begin;
  place = λ lt. omega arith;
  goes = going_start g.D.Device g.S.Seal.seal_of c.args.blob.now.page_size (opened_key c.args.blob.now) c.args.tip.now.first c.args.tip.now.from c.args.tip.now.bytes.now c.args.settled.len (is_b c.args.settled.slot) c.args.dev.now c.requires.begin c.args.blob.now.end c.requires.«open»;
}

pub overflow_add-page : goal.overflow_add-page
overflow_add-page g c =
    let place = c.pages.invariant.place c.pages-test.true in
    omega (arith, index_page c.args.blob.now.page_size c.pages.page, c.requires.room c.pages.page (omega (arith, place, c.pages-test.true)))

pub pages-preserved : goal.pages-preserved
pages-preserved g c =
    let n_is : c.min-n.result ≤ length c.args.tip.now.bytes.now - c.pages.at = omega (arith, c.min-n.ensures) in
    record {
      is_open = c.in_ok-reach.ensures.«length»;
      in_tip = omega (arith, n_is, c.pages-test.true);
      more = λ lt. omega (arith, lt);
      in_page = omega (arith, c.requires.begin);
      place = λ lt. (let n_page : c.min-n.result ≡ c.args.blob.now.page_size = omega (arith, lt, c.min-n.ensures, c.from-size.ensures) in omega (arith, c.pages.invariant.place c.pages-test.true, n_page, times_next c.pages.page c.args.blob.now.page_size));
      goes = going_on g.D.Device g.S.Seal.seal_of c.args.blob.now.page_size (opened_key c.args.blob.now) c.args.tip.now.first c.args.tip.now.from c.args.tip.now.bytes.now c.args.settled.len (is_b c.args.settled.slot) c.args.dev.now c.pages.dev c.pages.at c.pages.from c.pages.page c.pages.invariant.goes c.write_page.new.dev c.min-n.result (c.pages.at + c.min-n.result - c.pages.at) _ (c.pages.invariant.place c.pages-test.true)
          (omega (arith, c.min-n.ensures, c.from-size.ensures)) (omega (arith, n_is, c.pages-test.true)) (omega arith) c.next_slot_of.ensures (omega (arith, c.requires.begin)) _ c.in_ok-reach.ensures;
    }

pub returns-then-tip : goal.returns-then-tip
returns-then-tip g c = none_new g.D.Device g.S.Seal.seal_of c.args.blob.now.page_size (opened_key c.args.blob.now) c.args.tip.now.first c.args.tip.now.from c.args.tip.now.bytes.now c.args.settled.len (is_b c.args.settled.slot) c.args.dev.now c.requires.begin (omega (arith, c.if-tip.true, c.requires.within)) c.args.blob.now.end c.requires.«open»

pub returns-in_err-reach : goal.returns-in_err-reach
returns-in_err-reach g c =
    page_failed g.D.Device g.S.Seal.seal_of c.args.blob.now.page_size (opened_key c.args.blob.now) c.args.tip.now.first c.args.tip.now.from c.args.tip.now.bytes.now c.args.settled.len (is_b c.args.settled.slot) c.args.dev.now c.pages.dev c.pages.at c.pages.from c.pages.page c.pages.invariant.goes c.write_page.new.dev c.min-n.result (c.pages.at + c.min-n.result - c.pages.at) _ (c.pages.invariant.place c.pages-test.true)
    (omega (arith, c.min-n.ensures, c.from-size.ensures)) (omega (arith, c.min-n.ensures, c.pages-test.true)) (omega arith) c.next_slot_of.ensures (omega (arith, c.requires.begin)) _ _ (err_of _ _ c.from_residual.ensures.1) c.in_err-reach.ensures

pub returns : goal.returns
returns g c = all_written g.D.Device g.S.Seal.seal_of c.args.blob.now.page_size (opened_key c.args.blob.now) c.args.tip.now.first c.args.tip.now.from c.args.tip.now.bytes.now c.args.settled.len (is_b c.args.settled.slot) c.args.dev.now c.pages.dev c.pages.at c.pages.from c.pages.page c.pages.invariant.goes c.pages.invariant.in_tip c.pages-test.false c.pages.reach c.pages.invariant.is_open
