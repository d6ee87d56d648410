use Rattle.std.proofs.Common.{◌≡◌, ◌≤◌}
use Rattle.sealed_pages.specs.SealedPrefix.{size_below, adopted_size, pages_in}
use Rattle.sealed_pages.proofs.plain.adopted_size.Given as goal

abbrev pub invariant-back : goal.invariant-back
invariant-back g l = record {
  low : l.page ≤ pages_in l.page_size l.bytes;
  none : size_below g.S.Seal.seal_of l.page_size l.bytes l.page ≡ adopted_size g.S.Seal.seal_of l.page_size l.bytes;
}

abbrev pub decreases-back : goal.decreases-back
decreases-back g l = l.page
