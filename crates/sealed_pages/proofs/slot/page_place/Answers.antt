use Rattle.std.proofs.Common.{◌≡◌, ◌+◌, ◌*◌, arith, ℕ, ap}
use Rattle.sealed_pages.specs.View.{page_at}
use Rattle.sealed_pages.proofs.slot.page_place.Goals as goal

pub overflow_mul-result : goal.overflow_mul-result
unfolding page_at
overflow_mul-result c = let e : c.args.page * (c.from.result + 12) ≡ c.args.page * (c.args.page_size + 12) = ap (λ (n : ℕ). c.args.page * (n + 12)) c.from.ensures in
    omega (arith, e, c.requires)

pub returns : goal.returns
unfolding page_at
returns c = ap (λ (n : ℕ). c.args.page * (n + 12)) c.from.ensures
