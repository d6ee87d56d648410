use Rattle.std.proofs.Common.{◌≡◌, ◌+◌, ◌-◌, ◌*◌, ◌++◌, ◌∙◌, ℕ, List, ap, arith, refl}
use Rattle.sealed_pages.specs.SealedPrefix.{pages_in, sealed_from}
use Rattle.sealed_pages.proofs.PlainLemmas.{page_place, page_begins, taken, data_within, prefix_ends, prefix_goes_on, prefix_whole, prefix_done}
use Rattle.sealed_pages.proofs.plain.sealed_prefix.Goals as goal

pub pages-init : goal.pages-init
pages-init g c =
    let all : pages_in c.args.page_size c.args.bytes.now - 0 ≡ pages_in c.args.page_size c.args.bytes.now = omega arith in
    ap (λ (l : List ℕ). l ++ sealed_from g.S.Seal.seal_of c.args.page_size c.args.bytes.now 0 (pages_in c.args.page_size c.args.bytes.now - 0)) c.new-prefix.ensures.items
    ∙ ap (sealed_from g.S.Seal.seal_of c.args.page_size c.args.bytes.now 0) all ∙ prefix_whole g.S.Seal.seal_of c.args.page_size c.args.bytes.now

pub overflow_add-part : goal.overflow_add-part
overflow_add-part g c =
    omega (arith, data_within g.S.Seal.seal_of c.args.page_size c.args.bytes.now c.pages.page (omega (arith, c.pages-test.true, c.page_count-count.ensures)), c.page_len-len.ensures, page_place c.args.page_size c.pages.page, ap (λ (n : ℕ). c.pages.page * (n + 12)) c.from-size.ensures)

pub slice_bounds-part-end : goal.slice_bounds-part-end
slice_bounds-part-end g c =
    omega (arith, data_within g.S.Seal.seal_of c.args.page_size c.args.bytes.now c.pages.page (omega (arith, c.pages-test.true, c.page_count-count.ensures)), c.page_len-len.ensures, page_place c.args.page_size c.pages.page, ap (λ (n : ℕ). c.pages.page * (n + 12)) c.from-size.ensures)

pub returns-then-len-size : goal.returns-then-len-size
returns-then-len-size g c =
    c.in_ok-extend_from_slice.ensures.items
    ∙ prefix_ends g.S.Seal.seal_of c.args.page_size c.args.bytes.now c.pages.page c.pages.prefix.items _ _ c.page_len-len.result _ (pages_in c.args.page_size c.args.bytes.now - c.pages.page)
    (omega (arith, c.pages-test.true, c.page_count-count.ensures)) c.page_len-len.ensures (page_begins c.args.page_size c.from-size.result c.pages.page c.from-size.ensures)
    (taken c.args.bytes.now (c.pages.page * (c.from-size.result + 12)) c.page_len-len.result) refl c.pages.invariant (omega (arith, c.if-len-size.true, c.from-size.ensures))

pub pages-preserved : goal.pages-preserved
pages-preserved g c =
    ap (λ (l : List ℕ). l ++ sealed_from g.S.Seal.seal_of c.args.page_size c.args.bytes.now (c.pages.page + 1) (pages_in c.args.page_size c.args.bytes.now - (c.pages.page + 1))) c.in_ok-extend_from_slice.ensures.items
    ∙ prefix_goes_on g.S.Seal.seal_of c.args.page_size c.args.bytes.now c.pages.page c.pages.prefix.items _ _ c.page_len-len.result _ (pages_in c.args.page_size c.args.bytes.now - c.pages.page)
    (omega (arith, c.pages-test.true, c.page_count-count.ensures)) c.page_len-len.ensures (page_begins c.args.page_size c.from-size.result c.pages.page c.from-size.ensures)
    (taken c.args.bytes.now (c.pages.page * (c.from-size.result + 12)) c.page_len-len.result) refl c.pages.invariant (omega (arith, c.if-len-size.false, c.from-size.ensures))

pub returns : goal.returns
returns g c = prefix_done g.S.Seal.seal_of c.args.page_size c.args.bytes.now c.pages.prefix.items _ c.pages.page (omega (arith, c.pages-test.false, c.page_count-count.ensures)) c.pages.invariant
