use Rattle.std.proofs.Common.{◌+◌, arith, false, rules}
use Rattle.sealed_pages.proofs.slots.SlotLemmas.{index_page}
use Rattle.sealed_pages.proofs.adopted.Adopting.{pages_place_order}
use Rattle.sealed_pages.proofs.looking.Looking.{below_some}
use Rattle.sealed_pages.proofs.adopted.Leftovers.{leftover_none}
use Rattle.sealed_pages.proofs.start.start_of.Goals as goal
use Rattle.sealed_pages.specs.lemmas.looking.Looking.{page_zero}
use Rattle.sealed_pages.specs.lemmas.slots.Slot.{page_next}

pub start_at-requires-clause-room : goal.start_at-requires-clause-room
start_at-requires-clause-room g c =
    omega (arith, (below_some _ _ _ c.in-Some.is c.requires.below).1, page_next c.args.page_size c.in-Some.last.page)

pub start_at-requires-clause-next : goal.start_at-requires-clause-next
start_at-requires-clause-next g c =
    omega (arith, (below_some _ _ _ c.in-Some.is c.requires.below).1, page_next c.args.page_size c.in-Some.last.page, index_page c.args.page_size (c.in-Some.last.page + 1))

pub returns-in-Some : goal.returns-in-Some
returns-in-Some g c = record {
  begun = c.start_at.ensures.begun;
  place =
      omega (arith, (below_some _ _ _ c.in-Some.is c.requires.below).1, page_next c.args.page_size c.in-Some.last.page, pages_place_order c.args.page_size c.start_at.result.first c.start_at.result.from c.in-Some.last.page c.start_at.ensures.pages);
  inside = c.start_at.ensures.inside;
  starts = search rules;
  leftover = search rules;
}

pub returns-in-None : goal.returns-in-None
returns-in-None g c = record {
  begun = omega (arith, c.requires.some);
  place = omega (arith, page_zero c.args.page_size);
  inside = λ e. absurd (cc e);
  starts = search rules;
  leftover = λ l long finds. leftover_none g.S.Seal.seal_of c.args.page_size l c.args.end long false;
}
