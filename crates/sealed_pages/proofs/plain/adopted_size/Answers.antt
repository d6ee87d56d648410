use Rattle.std.proofs.Common.{◌≡◌, ◌+◌, ◌-◌, ◌*◌, ◌∙◌, ℕ, suc, ap, sym, arith}
use Rattle.sealed_pages.specs.SealedPrefix.{size_below}
use Rattle.sealed_pages.specs.lemmas.looking.Looking.{size_found, size_none, size_zero}
use Rattle.sealed_pages.proofs.PlainLemmas.{size_within}
use Rattle.sealed_pages.proofs.plain.adopted_size.Goals as goal

pub overflow_add-result : goal.overflow_add-result
overflow_add-result g c =
    let fits = size_within g.S.Seal.seal_of c.args.page_size c.args.bytes.now (c.back.page - 1) (omega (arith, c.back.invariant.low, c.back-test.true)) in
    omega (arith, fits, c.page_len-len.ensures, ap (λ (n : ℕ). (c.back.page - 1) * n) c.from.ensures)

pub returns-then-len-gt0 : goal.returns-then-len-gt0
returns-then-len-gt0 g c =
    let e : suc (c.back.page - 1) ≡ c.back.page = omega (arith, c.back-test.true) in
    (λ i. (c.back.page - 1) * c.from.ensures i + c.page_len-len.ensures i)
    ∙ sym (size_found g.S.Seal.seal_of c.args.page_size c.args.bytes.now (c.back.page - 1) (omega (arith, c.page_len-len.ensures, c.if-len-gt0.true)))
    ∙ ap (size_below g.S.Seal.seal_of c.args.page_size c.args.bytes.now) e ∙ c.back.invariant.none

pub back-preserved : goal.back-preserved
back-preserved g c = record {
  low = omega (arith, c.back.invariant.low);
  none = (let e : suc (c.back.page - 1) ≡ c.back.page = omega (arith, c.back-test.true) in
      sym (size_none g.S.Seal.seal_of c.args.page_size c.args.bytes.now (c.back.page - 1) (omega (arith, c.page_len-len.ensures, c.if-len-gt0.false)))
      ∙ ap (size_below g.S.Seal.seal_of c.args.page_size c.args.bytes.now) e ∙ c.back.invariant.none);
}

pub returns : goal.returns
returns g c =
    let e : c.back.page ≡ 0 = omega (arith, c.back-test.false) in
    sym (size_zero g.S.Seal.seal_of c.args.page_size c.args.bytes.now) ∙ sym (ap (size_below g.S.Seal.seal_of c.args.page_size c.args.bytes.now) e) ∙ c.back.invariant.none
