-- What adopting finds: the last page with a matching slot.
use Rattle.std.specs.Prelude.{◌≡◌, ℕ, ◌+◌, ◌*◌, ◌≤◌, ◌<◌, ◌^◌, max, false, true, List, take, Option, Some, None}
use Rattle.sealed_pages.specs.declared.reading.LastPage.{LastPage}
use Rattle.sealed_pages.specs.Slots.{slot_length, page_length}
use Rattle.sealed_pages.specs.SealedPrefix.{adopted_size}
use Rattle.sealed_pages.specs.Reading.{page_of}
use Rattle.sealed_pages.specs.View.{page_at}

-- what was found
abbrev pub found_of : Option LastPage → Option LastPage
found_of r = r

-- Without such a page the size is 0. Else it is the page's start plus its length, and `buf` begins with
-- the page's bytes.
abbrev pub Finds : (List ℕ → ℕ) → ℕ → List ℕ → Option LastPage → List ℕ → Type 0
Finds seal P c None buf = adopted_size seal P c ≡ 0
Finds seal P c (Some p) buf = (adopted_size seal P c ≡ p.page * P + page_length seal P c p.page)
    × (1 ≤ page_length seal P c p.page) × (p.first_len ≡ slot_length seal P c p.page false)
    × (p.second_len ≡ slot_length seal P c p.page true) × (take p.have buf ≡ page_of P c p.page)

-- The page begins at the blob's end or below it, and ends below 2^64 with its slots. No more of its bytes
-- stand in the blob than it has, its slots cover no more than its data, and one of them covers a byte.
abbrev pub IsLastBelow : ℕ → ℕ → LastPage → Type 0
IsLastBelow P end p = (page_at P p.page ≤ end) × (page_at P p.page + (P + 12) < 2 ^ 64)
    × (p.have ≤ P + 12) × (p.first_len ≤ P) × (p.second_len ≤ P)
    × (1 ≤ max p.first_len p.second_len)
