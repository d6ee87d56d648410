use Rattle.std.proofs.Common.{inl, inr, true, false, arith}
use Rattle.std.proofs.lemmas.Bool.{cases_lt}
use Rattle.sealed_pages.specs.Slots.{slot_length}
use Rattle.sealed_pages.specs.lemmas.looking.Looking.{page_length_is}
use Rattle.sealed_pages.specs.lemmas.slots.Slot.{slot_length-le, slot_stands}
use Rattle.sealed_pages.proofs.slot.covered_len.Goals as goal

pub returns-clause-covers : goal.returns-clause-covers
returns-clause-covers g c = omega (arith, c.max.ensures, page_length_is g.S.Seal.seal_of c.args.page_size c.args.page.now 0, c.matching_len-first.ensures, c.matching_len.ensures)

pub returns-clause-within : goal.returns-clause-within
returns-clause-within g c = omega (
  arith,
  c.max.ensures,
  c.matching_len-first.ensures,
  c.matching_len.ensures,
  slot_length-le g.S.Seal.seal_of c.args.page_size c.args.page.now 0 false,
  slot_length-le g.S.Seal.seal_of c.args.page_size c.args.page.now 0 true,
)

pub returns-clause-held : goal.returns-clause-held
returns-clause-held g c =
    let a = slot_length-le g.S.Seal.seal_of c.args.page_size c.args.page.now 0 false in
    let b = slot_length-le g.S.Seal.seal_of c.args.page_size c.args.page.now 0 true in
    elim (cases_lt 0 (slot_length g.S.Seal.seal_of c.args.page_size c.args.page.now 0 false)) [
      | inl some ↦ omega (arith, a, b, c.max.ensures, c.matching_len-first.ensures, c.matching_len.ensures, slot_stands g.S.Seal.seal_of c.args.page_size c.args.page.now 0 false some)
      | inr none ↦ elim (cases_lt 0 (slot_length g.S.Seal.seal_of c.args.page_size c.args.page.now 0 true)) [
        | inl some ↦ omega (arith, a, b, c.max.ensures, c.matching_len-first.ensures, c.matching_len.ensures, slot_stands g.S.Seal.seal_of c.args.page_size c.args.page.now 0 true some)
        | inr none_too ↦ omega (arith, none, none_too, c.max.ensures, c.matching_len-first.ensures, c.matching_len.ensures)
      ]
    ]
