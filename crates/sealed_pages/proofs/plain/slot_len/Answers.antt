use Rattle.std.proofs.Common.{◌+◌, ◌*◌, ◌∙◌, sym, arith}
use Rattle.sealed_pages.specs.lemmas.looking.Looking.{slot_long, slot_right, slot_short, slot_wrong}
use Rattle.sealed_pages.proofs.PlainLemmas.{Spelled, page_begins, slot_begins, length_named, seal_named, seal_made}
use Rattle.sealed_pages.proofs.plain.slot_len.Given as given
use Rattle.sealed_pages.proofs.plain.slot_len.Goals as goal
use Rattle.sealed_pages.proofs.plain.slot_len.Goals.{After-seal2-seal}

-- what stands in the slot
spelled : (g : given.Over) (c : After-seal2-seal g) → Spelled g.S.Seal.seal_of c.args.page_size c.args.bytes.now c.args.page c.args.second
    (c.from.result * 256 + c.from-2.result) c.seal2-seal.result ((c.from-3.result * 256 + c.from-4.result) * 65536 + (c.from-5.result * 256 + c.from-6.result))
spelled g c =
    let page = page_begins c.args.page_size c.from-size.result c.args.page c.from-size.ensures in
    let at = slot_begins c.args.page_size c.from-size.result c.args.page c.slot_start.result c.args.second c.from-size.ensures c.slot_start.ensures in
    let named = length_named c.args.page_size c.args.bytes.now c.args.page c.args.second _ at c.from.result c.from-2.result c.from.ensures c.from-2.ensures in
    record {
      stands = omega (arith, at, c.if-bytes-at.false);
      places = omega (arith, page, at, c.if-bytes-at.false);
      short = omega (arith, named, c.if-len-size.false, c.from-size.ensures);
      named = named;
      made = seal_made c.args.page_size c.args.bytes.now c.args.page c.args.second _ at g.S.Seal.seal_of _ _ c.seal2-seal.result page named
          (omega (arith, at, c.if-bytes-at.false)) (omega (arith, named, c.if-len-size.false, c.from-size.ensures, c.if-bytes-at.false, at, page, c.slot_start.ensures)) c.seal2-seal.ensures;
      told = seal_named c.args.page_size c.args.bytes.now c.args.page c.args.second _ at c.from-3.result c.from-4.result c.from-5.result c.from-6.result c.from-3.ensures c.from-4.ensures c.from-5.ensures c.from-6.ensures;
    }

pub returns-then-bytes-at : goal.returns-then-bytes-at
returns-then-bytes-at g c = sym (slot_short g.S.Seal.seal_of c.args.page_size c.args.bytes.now c.args.page c.args.second
    (omega (arith, slot_begins c.args.page_size c.from-size.result c.args.page c.slot_start.result c.args.second c.from-size.ensures c.slot_start.ensures, c.if-bytes-at.true)))

pub returns-then-len-size : goal.returns-then-len-size
returns-then-len-size g c = sym (slot_long g.S.Seal.seal_of c.args.page_size c.args.bytes.now c.args.page c.args.second (omega (
  arith,
  length_named c.args.page_size c.args.bytes.now c.args.page c.args.second _ (slot_begins c.args.page_size c.from-size.result c.args.page c.slot_start.result c.args.second c.from-size.ensures c.slot_start.ensures) c.from.result c.from-2.result c.from.ensures c.from-2.ensures,
  c.if-len-size.true,
  c.from-size.ensures,
)))

pub returns-then-seal-high : goal.returns-then-seal-high
returns-then-seal-high g c =
    let s = spelled g (goal.at.returns-then-seal-high g c).After-seal2-seal in
    sym (slot_wrong g.S.Seal.seal_of c.args.page_size c.args.bytes.now c.args.page c.args.second s.stands s.places s.short (λ e. c.if-seal-high.true (sym s.made ∙ e ∙ s.told)))

pub returns : goal.returns
returns g c =
    let s = spelled g (goal.at.returns g c).After-seal2-seal in
    sym (slot_right g.S.Seal.seal_of c.args.page_size c.args.bytes.now c.args.page c.args.second s.stands s.places s.short (s.made ∙ c.if-seal-high.false ∙ sym s.told) ∙ s.named)
