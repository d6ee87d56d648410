-- Which pages a read of n bytes from byte m on touches, and how far it needs them covered.
use Rattle.std.specs.Prelude.{◌≡◌, ◌⊎◌, ℕ, ◌+◌, ◌*◌, ◌-◌, ◌/◌, ◌^◌, ◌<◌, ◌≤◌, min, eqb, cond, true, List}
use Rattle.sealed_pages.specs.Buffer.{Buffer, size_of, cached, is_cached}
use Rattle.sealed_pages.specs.Cached.{uncached, AreCachedOf}
use Rattle.sealed_pages.specs.SealedPrefix.{adopted_size}
use Rattle.sealed_pages.specs.Slots.{page_length}

-- page k has one of these bytes
pub record IsWanted (P m n k : ℕ) : Type 0 where
  pub some : 0 < n
  pub low : m < k * P + P
  pub high : k * P < m + n

-- how many pages n bytes take
abbrev pub pages_for : ℕ → ℕ → ℕ
pages_for P n = (n + (P - 1)) / P

-- how many pages have one of these bytes
abbrev pub touched : ℕ → ℕ → ℕ → ℕ
touched P m n = cond (eqb n 0) 0 ((m + n + (P - 1)) / P - m / P)

-- how many bytes of page k the read needs: those up to the last wanted one
abbrev pub needed : ℕ → ℕ → ℕ → ℕ → ℕ
needed P m n k = min P (m + n - k * P)

-- how many of these bytes stand below page `first`
abbrev pub below : ℕ → ℕ → ℕ → ℕ → ℕ
below P first m n = min n (first * P - m)

-- from byte m on a read ended at the end of its page, or within it at or behind byte `goal`
abbrev pub EndsAtOrPast : ℕ → ℕ → ℕ → ℕ → Type 0
EndsAtOrPast P m goal next = (next ≡ (m / P + 1) * P) ⊎ ((goal ≤ next) × (next < (m / P + 1) * P))

module _ (seal : List ℕ → ℕ) (P : ℕ) where
  -- each wanted page is covered as far as the read needs it
  abbrev pub IsCovered : List ℕ → ℕ → ℕ → Type 0
  IsCovered c m n = (k : ℕ) → IsWanted P m n k → needed P m n k ≤ page_length seal P c k

  -- page k is wanted, and no matching slot covers it that far
  pub record IsShort (c : List ℕ) (m n k : ℕ) : Type 0 where
    pub wanted : IsWanted P m n k
    pub short : page_length seal P c k < needed P m n k

  -- n bytes from byte m on end at a place of 64 bits, past the size that the last page with a matching slot gives
  pub record PassesSize (c : List ℕ) (m n : ℕ) : Type 0 where
    pub fits : m + n < 2 ^ 64
    pub past : adopted_size seal P c < m + n

  -- so it is for the last n bytes of what adopting finds
  abbrev pub IsTailShort : List ℕ → ℕ → ℕ → Type 0
  IsTailShort c n k = (n ≤ adopted_size seal P c) × IsShort c (adopted_size seal P c - n) n k

-- Each of n bytes from byte m on is in memory: it stands in the tip, or in a page that is cached.
abbrev pub IsHeld : Buffer → ℕ → ℕ → Type 0
IsHeld u m n = (i : ℕ) → m ≤ i → i < m + n → (i < size_of u) × ((u.first * u.page_size ≤ i) ⊎ (is_cached u (i / u.page_size) ≡ true))

-- where one of n bytes from byte m on stands below the tip, the pages in memory are as in the content
abbrev pub IsCacheFor : (List ℕ → ℕ) → Buffer → List ℕ → ℕ → ℕ → Type 0
IsCacheFor seal u content m n = 0 < below u.page_size u.first m n → AreCachedOf seal u.page_size content u.cache

-- how many pages have one of these bytes that is not in memory
abbrev pub missing_pages : Buffer → ℕ → ℕ → ℕ
missing_pages u m n = uncached (cached u) (m / u.page_size) (touched u.page_size m (below u.page_size u.first m n))
