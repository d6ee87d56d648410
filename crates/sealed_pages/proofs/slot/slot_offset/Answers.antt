use Rattle.std.proofs.Common.{arith, ℕ, Bool, cond, ap}
use Rattle.sealed_pages.specs.SlotNames.{is_b}
use Rattle.sealed_pages.specs.declared.slot.Slot.{Slot}
use Rattle.sealed_pages.specs.lemmas.looking.Looking.{page_zero}
use Rattle.sealed_pages.proofs.slot.slot_offset.Goals as goal

six_or : Bool → ℕ
six_or b = cond b 6 0

pub returns-in-A-clause-place : goal.returns-in-A-clause-place
unfolding six_or
returns-in-A-clause-place c = omega (arith, page_zero c.args.page_size, c.from-size.ensures, ap (λ (s : Slot). six_or (is_b s)) c.in-A.is)

pub returns-in-B-clause-place : goal.returns-in-B-clause-place
unfolding six_or
returns-in-B-clause-place c = omega (arith, page_zero c.args.page_size, c.from-size.ensures, ap (λ (s : Slot). six_or (is_b s)) c.in-B.is)
