use Rattle.std.proofs.Common.{◌-◌, ◌≡◌, ◌≤◌, ◌++◌, take}
use Rattle.sealed_pages.specs.Cached.{held_in, full_pages}
use Rattle.sealed_pages.proofs.cache.PageCache.put_each.Given as goal

abbrev pub invariant-pages : goal.invariant-pages
invariant-pages l = record {
  upto : l.i ≤ l.full;
  most : l.this.most ≡ l.fn.self.most;
  pages : held_in l.this ≡ take l.fn.self.most (full_pages l.page_size l.first l.i l.bytes ++ held_in l.fn.self);
}

abbrev pub decreases-pages : goal.decreases-pages
decreases-pages l = l.full - l.i
