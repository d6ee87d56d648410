use Rattle.std.proofs.Common.{◌≡◌, ◌*◌, arith, ℕ, ap}
use Rattle.sealed_pages.specs.lemmas.slots.Slot.{times_page}
use Rattle.sealed_pages.proofs.flush.next_slot_of.Goals as goal

pub overflow_mul-page : goal.overflow_mul-page
overflow_mul-page c = let e : c.args.page * c.from.result ≡ c.args.page * c.args.page_size = ap (λ (n : ℕ). c.args.page * n) c.from.ensures in
    omega (arith, e, times_page c.args.page_size c.args.page, c.requires)
