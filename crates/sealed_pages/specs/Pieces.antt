-- Pages that are held in memory.
use Rattle.std.specs.Prelude.{◌≡◌, ℕ, ◌+◌, ◌-◌, ◌<◌, ◌≤◌, leb, max, cond, List, take}
use Rattle.sealed_pages.specs.declared.piece.Piece.{Piece}
use Rattle.sealed_pages.specs.Reading.{page_of}

abbrev pub held_of : Piece → List ℕ
held_of p = take p.have p.bytes.items

abbrev pub HasPage : Piece → ℕ → Type 0
HasPage p k = (p.page ≤ k) × (k < p.page + p.count)

-- each page that is held is as in the content
abbrev pub IsPieceOf : List ℕ → Piece → Type 0
IsPieceOf c p = (k : ℕ) → HasPage p k → page_of p.page_size (held_of p) (k - p.page) ≡ page_of p.page_size c k

-- the first page from page k on that is not held
abbrev pub next_missing : Piece → ℕ → ℕ
next_missing p k = cond (leb p.page k) (max k (p.page + p.count)) k
