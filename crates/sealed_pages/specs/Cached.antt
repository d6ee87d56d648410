-- Full pages that a buffer holds in memory: the number and the data bytes of each, those that were flushed last first.
use Rattle.std.specs.Prelude.{◌≡◌, ℕ, zero, suc, ◌+◌, ◌*◌, ◌/◌, ◌<◌, ◌++◌, cond, List, [], ◌∷◌, length, get_or, take, drop, map, nat_eq, Option, Some, None, Vec, true}
use Rattle.std.specs.declared.alloc.Global.{Global}
use Rattle.std.specs.List.{All, list_any}
use Rattle.std.specs.Map.{keys_of}
use Rattle.lru.specs.LruCache.{LruCache}
use Rattle.sealed_pages.specs.declared.cache.PageCache.{PageCache}
use Rattle.sealed_pages.specs.Slots.{page_length}
use Rattle.sealed_pages.specs.View.{view, page_at}

-- the pages of a map, the most recently put first
abbrev pub entries_of : Option (LruCache ℕ (Vec ℕ Global)) → List (ℕ × List ℕ)
entries_of None = []
entries_of (Some pages) = map (λ e. (e.0, e.1.items)) pages.entries

-- the pages that a cache holds
abbrev pub held_in : PageCache → List (ℕ × List ℕ)
held_in c = entries_of c.pages

-- page k is among these
abbrev pub IsAmong : ℕ → List (ℕ × List ℕ) → Type 0
IsAmong k pages = list_any (nat_eq k) (keys_of pages) ≡ true

-- n page numbers from `first` on, the highest first
abbrev pub pages_down : ℕ → ℕ → List ℕ
pages_down first zero = []
pages_down first (suc n) = (first + n) ∷ pages_down first n

-- the first n pages of these bytes, which begin with page `first`, the highest first
abbrev pub full_pages : ℕ → ℕ → ℕ → List ℕ → List (ℕ × List ℕ)
full_pages P first zero bytes = []
full_pages P first (suc n) bytes = (first + n, take P (drop (n * P) bytes)) ∷ full_pages P first n bytes

-- The full pages with which these bytes begin, the first of them page `first`, are put in front of those of `old`, and cut to so
-- many as it takes.
pub record PutsFull (P first : ℕ) (bytes : List ℕ) (old new : PageCache) : Type 0 where
  -- the bound stays
  pub most : new.most ≡ old.most
  -- the highest page is the first then
  pub pages : held_in new
      ≡ take old.most (full_pages P first (length bytes / P) bytes ++ held_in old)

-- how many of n pages from page k on are not among these
abbrev pub uncached : List ℕ → ℕ → ℕ → ℕ
uncached pages k zero = 0
uncached pages k (suc n) = uncached pages k n + cond (list_any (nat_eq (k + n)) pages) 0 1

-- each of them stands before page `first`, and has P data bytes
abbrev pub AreFull : ℕ → ℕ → List (ℕ × List ℕ) → Type 0
AreFull P first pages = All (λ e. (e.0 < first) × (length e.1 ≡ P)) pages

-- each of them has P data bytes
abbrev pub AreWhole : ℕ → List (ℕ × List ℕ) → Type 0
AreWhole P pages = All (λ e. length e.1 ≡ P) pages

-- A page in memory is as in the content: its data bytes stand there, and a matching slot covers them all.
pub record IsCachedOf (seal : List ℕ → ℕ) (P : ℕ) (c : List ℕ) (e : ℕ × List ℕ) : Type 0 where
  pub same : (i : ℕ) → i < P → get_or e.1 i 0 ≡ view c (page_at P e.0 + i)
  pub covered : page_length seal P c e.0 ≡ P

abbrev pub AreCachedOf : (List ℕ → ℕ) → ℕ → List ℕ → List (ℕ × List ℕ) → Type 0
AreCachedOf seal P c pages = All (IsCachedOf seal P c) pages
