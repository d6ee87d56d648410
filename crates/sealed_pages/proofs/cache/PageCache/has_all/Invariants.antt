use Rattle.std.proofs.Common.{◌-◌, ◌≡◌, ◌≤◌, ◌<◌, true, nat_eq, ℕ}
use Rattle.std.specs.List.{list_any}
use Rattle.std.specs.Map.{keys_of}
use Rattle.sealed_pages.specs.Cached.{held_in}
use Rattle.sealed_pages.proofs.cache.PageCache.has_all.Given as goal

abbrev pub invariant-pages : goal.invariant-pages
invariant-pages l = record {
  from : l.page ≤ l.at;
  has : (k : ℕ) → l.page ≤ k → k < l.at → list_any (nat_eq k) (keys_of (held_in l.self)) ≡ true;
}

abbrev pub decreases-pages : goal.decreases-pages
decreases-pages l = l.upto - l.at
