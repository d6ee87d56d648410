use Rattle.std.proofs.Common.{◌≡◌, ◌+◌, ◌-◌, ◌*◌, ◌/◌, arith}
use Rattle.std.proofs.lemmas.Bool.{le-leb, leb-true}
use Rattle.sealed_pages.specs.View.{page_at}
use Rattle.sealed_pages.proofs.page_blob.fits.Goals as goal

pub returns : goal.returns
unfolding page_at
returns c =
    let e : (c.from.result + c.args.more + (c.from-data.result - 1)) / c.from-data.result * (c.from-data.result + 12) ≡ (c.args.size + c.args.more + (c.args.page_size - 1)) / c.args.page_size * (c.args.page_size + 12)
    = λ i. (c.from.ensures i + c.args.more + (c.from-data.ensures i - 1)) / c.from-data.ensures i * (c.from-data.ensures i + 12) in (
      λ t. omega (arith, e, c.from-2.ensures, leb-true ((c.from.result + c.args.more + (c.from-data.result - 1)) / c.from-data.result * (c.from-data.result + 12)) c.from-2.result t),
      λ lt. le-leb ((c.from.result + c.args.more + (c.from-data.result - 1)) / c.from-data.result * (c.from-data.result + 12)) c.from-2.result (omega (arith, e, c.from-2.ensures, lt)),
    )
