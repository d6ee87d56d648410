use Rattle.std.proofs.Common.{◌*◌, ◌<◌, ◌≤◌, ◌^◌, ℕ, ap, arith}
use Rattle.sealed_pages.proofs.looking.Looking.{below_some}
use Rattle.sealed_pages.proofs.looking.ReadLemmas.{data_fits}
use Rattle.sealed_pages.specs.View.{page_at}
use Rattle.sealed_pages.proofs.range.found_size.Goals.{In-Some}
use Rattle.sealed_pages.proofs.range.found_size.Goals as goal

-- the last page
last : (c : In-Some) → (page_at c.args.page_size c.in-Some.last.page < 2 ^ 64) × (c.in-Some.last.first_len ≤ c.args.page_size) × (c.in-Some.last.second_len ≤ c.args.page_size)
last c = below_some _ _ _ c.in-Some.is c.requires

pub overflow_mul-result : goal.overflow_mul-result
overflow_mul-result c =
    omega (arith, data_fits c.args.page_size c.in-Some.last.page (omega (arith, c.ranges.page_size.fits)) (last (goal.at.overflow_mul-result c).In-Some).0, ap (λ (n : ℕ). c.in-Some.last.page * n) c.from.ensures)

pub overflow_add-result : goal.overflow_add-result
overflow_add-result c =
    omega (arith, data_fits c.args.page_size c.in-Some.last.page (omega (arith, c.ranges.page_size.fits)) (last (goal.at.overflow_add-result c).In-Some).0, ap (λ (n : ℕ). c.in-Some.last.page * n) c.from.ensures, c.max.ensures, (last (goal.at.overflow_add-result c).In-Some).1, (last (goal.at.overflow_add-result c).In-Some).2)
