-- How far a content is sealed, and what adopting it finds.
use Rattle.std.specs.Prelude.{◌≡◌, ℕ, zero, suc, ◌+◌, ◌*◌, ◌/◌, ◌%◌, ◌≤◌, eqb, cond, List, [], ◌∷◌, ◌++◌, length, take}
use Rattle.sealed_pages.specs.View.{View, view, bytes_at, page_at}
use Rattle.sealed_pages.specs.Slots.{page_length}

-- no page from here on has a byte
abbrev pub pages_in : ℕ → List ℕ → ℕ
pages_in P c = length c / (P + 12) + 1

module _ (seal : List ℕ → ℕ) (P : ℕ) where
  -- the data of the pages up to the first that is not full by a matching slot, that page's length included; m pages from page k on
  unfoldable pub sealed_from : List ℕ → ℕ → ℕ → List ℕ
  sealed_from c k zero = []
  sealed_from c k (suc m) = bytes_at (view c) (page_at P k) (page_length seal P c k) ++ cond (eqb (page_length seal P c k) P) (sealed_from c (k + 1) m) []

  unfoldable pub sealed_prefix : List ℕ → List ℕ
  sealed_prefix c = sealed_from c 0 (pages_in P c)

  -- the start plus the length of the last page with a matching slot among the first m pages, or 0 where there is none
  unfoldable pub size_below : List ℕ → ℕ → ℕ
  size_below c zero = 0
  size_below c (suc m) = cond (eqb (page_length seal P c m) 0) (size_below c m) (m * P + page_length seal P c m)

  -- the size at which a blob is adopted
  abbrev pub adopted_size : List ℕ → ℕ
  adopted_size c = size_below c (pages_in P c)

  -- the sealed prefix is a prefix of these bytes, and no shorter than so many
  pub record Prefix (bytes : List ℕ) (least : ℕ) (c : List ℕ) : Type 0 where
    pub is : sealed_prefix c ≡ take (length (sealed_prefix c)) bytes
    pub no_shorter : least ≤ length (sealed_prefix c)
    pub no_longer : length (sealed_prefix c) ≤ length bytes

-- where data byte i stands
abbrev pub place : ℕ → ℕ → ℕ
place P i = page_at P (i / P) + i % P

-- n data bytes from byte m on
unfoldable pub data_from : ℕ → View → ℕ → ℕ → List ℕ
data_from P v m zero = []
data_from P v m (suc n) = v (place P m) ∷ data_from P v (m + 1) n
