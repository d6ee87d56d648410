use Rattle.std.proofs.Common.{◌-◌, ◌≡◌, ◌≤◌, ◌<◌, ◌+◌, ◌*◌, ℕ, List, length, get_or}
use Rattle.sealed_pages.specs.Cached.{held_in, AreCachedOf}
use Rattle.sealed_pages.specs.SealedPrefix.{place}
use Rattle.sealed_pages.specs.View.{view}
use Rattle.sealed_pages.proofs.cache.PageCache.copy_out.Given as goal

abbrev pub invariant-pages : goal.invariant-pages
invariant-pages l = record {
  within : l.at ≤ length l.out;
  in_page : l.skip < l.page_size;
  place_is : l.at < length l.out → l.page * l.page_size + l.skip ≡ l.offset + l.at;
  bytes : (seal : List ℕ → ℕ) (c : List ℕ) → AreCachedOf seal l.page_size c (held_in l.self) → (i : ℕ) → i < l.at → get_or l.out i 0 ≡ view c (place l.page_size (l.offset + i));
}

abbrev pub decreases-pages : goal.decreases-pages
decreases-pages l = length l.out - l.at
